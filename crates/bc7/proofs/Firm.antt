-- S-79: wrong decoders that the statement of the pixels call keeps out. Assumes nothing.
use mathlib.Core.Path.{◌≡◌, refl, ap, ◌∙◌}
use mathlib.Core.List.{List, ◌++◌}
use Prim.Native.Nat.{ℕ, ◌+◌, ◌*◌, ◌<◌}
use native.Mathlib.Omega.{arith}
use lib.Dec.{lit≤, lit<}
use lib.ListN.{length, get_or, drop, replicate, get_or-append}
use Rattle.laws.specs.Made.{made}
use Rattle.laws.specs.First.{first_below}
use Rattle.laws.specs.Packed.{before, unpacked}
use Rattle.bcn_spec.specs.Answers.{done}
use Rattle.bcn_spec.specs.Rows.{partition_set_3, fixups_of, row_region}
use Rattle.bc7_spec.specs.Modes.{modes, mode_at}
use Rattle.bc7_spec.specs.Layout.{run_bits, run_in}
use Rattle.bc7_spec.specs.Fields.{mode_in, mode_of, partition_in, rotation_in, selection_in, stored_in, pbit_in, first_index_in, second_index_in}
use Rattle.bc7_spec.specs.Bytes.{lowered, widened, weight_of, by_second, between, turned}
use Rattle.bc7_spec.specs.Block.{end_in, weight_in, value_in, byte_in, byte_count, colour_bytes}
use Rattle.bc7_spec.proofs.Blocks.{C9}
use Rattle.bc7_spec.proofs.Lengths.{length_bytes}
use Rattle.bc7.specs.Call.{Bc7Pixels}
use Rattle.bc7.specs.Call.{refusal_of, Painted}
use Rattle.bc7.proofs.Calls.{done_when, answered, written}

-- ---- what a block shows: red of the first pixel and of the last

C9_red : (get_or (colour_bytes C9) 0 0 ≡ 0) × (get_or (colour_bytes C9) 60 0 ≡ 255)
unfolding made first_below before unpacked partition_set_3 row_region fixups_of modes mode_at run_bits run_in
    mode_in mode_of partition_in rotation_in selection_in stored_in pbit_in first_index_in second_index_in
    lowered widened weight_of by_second between turned end_in weight_in value_in byte_in colour_bytes
C9_red = (refl, refl)

-- ---- a decoder: what it answers, and what it leaves in the lent bytes

abbrev Answers : Type 0
Answers = List ℕ → List ℕ → Bc7Pixels

abbrev Leaves : Type 0
Leaves = List ℕ → List ℕ → List ℕ

-- it keeps the statement of the call
abbrev Keeps : Answers → Leaves → Type 0
Keeps answers leaves = (block out : List ℕ) → Painted block out (answers block out) (leaves block out)

-- a lent output of 64 zeros
abbrev room : List ℕ
room = replicate 64 0

module _ (answers : Answers) (leaves : Leaves) (keeps : Keeps answers leaves) where
  is_done : refusal_of (length C9) (length room) ≡ done
  is_done = done_when (length C9) (length room) refl (lit≤ tt)

  -- S-30: a decoder that refuses everything is ruled out, since a refusal has its condition.
  pub not_all_refused : ((block out : List ℕ) → (answers block out).answer ≡ done → ⊥) → ⊥
  not_all_refused refuses = refuses C9 room (answered (keeps C9 room) ∙ is_done)

  left : (j : ℕ) → j < 64 → get_or (leaves C9 room) j 0 ≡ get_or (colour_bytes C9) j 0
  left j l =
      ap (λ (t : List ℕ). get_or t j 0) (written (keeps C9 room) is_done)
      ∙ get_or-append (colour_bytes C9) (drop byte_count room) 0 j (rw (length_bytes C9) l)

  -- one that paints every block black
  pub not_all_black : ((block out : List ℕ) → leaves block out ≡ replicate byte_count 0 ++ drop byte_count out) → ⊥
  not_all_black black =
      let zero : get_or (leaves C9 room) 60 0 ≡ 0 = ap (λ (l : List ℕ). get_or l 60 0) (black C9 room) in
      let red : get_or (leaves C9 room) 60 0 ≡ 255 = left 60 (lit< tt) ∙ C9_red.1 in
      omega arith

  -- one that writes nothing
  pub not_silent : ((block out : List ℕ) → leaves block out ≡ out) → ⊥
  not_silent silent =
      let zero : get_or (leaves C9 room) 60 0 ≡ 0 = ap (λ (l : List ℕ). get_or l 60 0) (silent C9 room) in
      let red : get_or (leaves C9 room) 60 0 ≡ 255 = left 60 (lit< tt) ∙ C9_red.1 in
      omega arith

  -- one that decodes pixel 0 and copies it on
  pub not_copied : ((block out : List ℕ) (k c : ℕ) → k < 16 → c < 4 → get_or (leaves block out) (4 * k + c) 0 ≡ get_or (leaves block out) c 0) → ⊥
  not_copied copied =
      let same : get_or (leaves C9 room) 60 0 ≡ get_or (leaves C9 room) 0 0 = copied C9 room 15 0 (lit< tt) (lit< tt) in
      let first : get_or (leaves C9 room) 0 0 ≡ 0 = left 0 (lit< tt) ∙ C9_red.0 in
      let last : get_or (leaves C9 room) 60 0 ≡ 255 = left 60 (lit< tt) ∙ C9_red.1 in
      omega arith
