-- The call over a run of blocks: its refusals, its one outcome, and what a caller learns from it. Assumes nothing.
use mathlib.Core.Path.{◌≡◌, ◌∙◌, refl, sym, ap}
use mathlib.Core.List.{List}
use Prim.Native.Nat.{ℕ, suc, ◌*◌, ◌/◌, ◌%◌, ◌≤◌, ◌<◌}
use lib.ListN.{length, take, drop}
use lib.Seq.{take_at}
use borrow.Author.Tests.{lt-ltb, le-ltb, eq-eqb, ne_eqb}
use Rattle.laws.specs.Made.{made, total}
use Rattle.bcn_spec.specs.Answers.{done, bad_format, short_output, uneven_blocks}
use Rattle.bc6h_spec.specs.Block.{pixels_of, infinities_of}
use Rattle.bc6h_spec.proofs.Values.{length_pixels}
use Rattle.bc6.specs.Call.{Pixels}
use Rattle.bc6h_spec.specs.Picture.{is_signed}
use Rattle.bc6.specs.Call.{refusal_of, Painted}
use Rattle.bc6.proofs.Calls.{written}
use Rattle.bc6_blocks.specs.Run.{BlocksPixels}
use Rattle.bcn_spec.specs.Bits.{blocks_in, block_at}
use Rattle.bc6_blocks.specs.Run.{shown_at, run_refusal, RunWritten, RunPainted}
use Rattle.bc6_blocks.proofs.Runs.{run_at_lem, run_infinities}

-- ---- the checks

module _ (format size room : ℕ) where
  pub format_refused : 1 < format → run_refusal format size room ≡ bad_format
  unfolding run_refusal
  format_refused h = simp (lt-ltb _ _ h)

  pub blocks_refused : format ≤ 1 → (size % 16 ≡ 0 → ⊥) → run_refusal format size room ≡ uneven_blocks
  unfolding run_refusal
  blocks_refused h s = simp (le-ltb _ _ h, ne_eqb _ _ s)

  pub output_refused : format ≤ 1 → size % 16 ≡ 0 → room < 48 * (size / 16) → run_refusal format size room ≡ short_output
  unfolding run_refusal
  output_refused h s r = simp (le-ltb _ _ h, eq-eqb _ _ s, lt-ltb _ _ r)

  pub done_when : format ≤ 1 → size % 16 ≡ 0 → 48 * (size / 16) ≤ room → run_refusal format size room ≡ done
  unfolding run_refusal
  done_when h s r = simp (le-ltb _ _ h, eq-eqb _ _ s, le-ltb _ _ r)

-- ---- the outcome

pub one_outcome : {blocks : List ℕ} {format : ℕ} {out : List ℕ} {r s : BlocksPixels} {a b : List ℕ}
    → RunPainted blocks format out r a → RunPainted blocks format out s b → (r ≡ s) × (a ≡ b)
one_outcome p q = (p.answers ∙ sym q.answers, p.holds ∙ sym q.holds)

-- S-32: demand 2, block by block: the values of block n
pub block_by_block : {blocks : List ℕ} {format : ℕ} {out : List ℕ} {r : BlocksPixels} {after : List ℕ}
    → RunPainted blocks format out r after → run_refusal format (length blocks) (length out) ≡ done
    → (n : ℕ) → n < blocks_in blocks → take 48 (drop (48 * n) after) ≡ pixels_of (is_signed format) (block_at blocks n)
unfolding shown_at
block_by_block {blocks} {format} {out} p z n h =
    ap (λ (t : List ℕ). take 48 (drop (48 * n) t)) (rw z at p.holds)
    ∙ run_at_lem (is_signed format) blocks (blocks_in blocks) n (drop (48 * blocks_in blocks) out) h

-- how many of the values are minus infinity: the sum of what each block has
pub infinities_add_up : {blocks : List ℕ} {format : ℕ} {out : List ℕ} {r : BlocksPixels} {after : List ℕ}
    → RunPainted blocks format out r after → run_refusal format (length blocks) (length out) ≡ done
    → r.infinite ≡ total (made (λ n. infinities_of (is_signed format) (block_at blocks n)) (blocks_in blocks))
infinities_add_up {blocks} {format} p z =
    ap (λ (x : BlocksPixels). x.infinite) p.answers ∙ rw z refl ∙ run_infinities (is_signed format) blocks (blocks_in blocks)

-- where a check is met, nothing is counted
pub none_told : {blocks : List ℕ} {format : ℕ} {out : List ℕ} {r : BlocksPixels} {after : List ℕ} {n : ℕ}
    → RunPainted blocks format out r after → run_refusal format (length blocks) (length out) ≡ suc n → r.infinite ≡ 0
none_told p z = ap (λ (x : BlocksPixels). x.infinite) p.answers ∙ rw z refl

-- S-32: what the block call leaves of block n in any values that it was lent
pub in_turn : {blocks : List ℕ} {format : ℕ} {out lent : List ℕ} {r : BlocksPixels} {s : Pixels} {after left : List ℕ}
    → RunPainted blocks format out r after → run_refusal format (length blocks) (length out) ≡ done
    → (n : ℕ) → n < blocks_in blocks → Painted (block_at blocks n) format lent s left → refusal_of format (length (block_at blocks n)) (length lent) ≡ done
    → take 48 (drop (48 * n) after) ≡ take 48 left
in_turn {blocks} {format} {lent = lent} p z n h q y =
    block_by_block p z n h
    ∙ sym (ap (take 48) (written q y) ∙ take_at (pixels_of (is_signed format) (block_at blocks n)) (drop 48 lent) 48 (length_pixels (is_signed format) (block_at blocks n)))

-- ---- what each return shows

refused_at : (blocks : List ℕ) (format : ℕ) (out : List ℕ) (n : ℕ) (r : BlocksPixels) → run_refusal format (length blocks) (length out) ≡ suc n
    → r ≡ record { answer = suc n; blocks = 0; infinite = 0 } → RunPainted blocks format out r out
refused_at blocks format out n r z e = record { answers = e ∙ rw z refl; holds = rw z refl }

module _ (blocks : List ℕ) (format : ℕ) (out : List ℕ) where
  pub painted_format : (r : BlocksPixels) → 1 < format → r ≡ record { answer = bad_format; blocks = 0; infinite = 0 } → RunPainted blocks format out r out
  painted_format r h = refused_at blocks format out 0 r (format_refused format (length blocks) (length out) h)

  pub painted_blocks : (r : BlocksPixels) → format ≤ 1 → (length blocks % 16 ≡ 0 → ⊥) → r ≡ record { answer = uneven_blocks; blocks = 0; infinite = 0 }
      → RunPainted blocks format out r out
  painted_blocks r h s = refused_at blocks format out 8 r (blocks_refused format (length blocks) (length out) h s)

  pub painted_output : (r : BlocksPixels) → format ≤ 1 → length blocks % 16 ≡ 0 → length out < 48 * blocks_in blocks
      → r ≡ record { answer = short_output; blocks = 0; infinite = 0 } → RunPainted blocks format out r out
  painted_output r h s l = refused_at blocks format out 2 r (output_refused format (length blocks) (length out) h s l)

  pub painted_done : (after : List ℕ) (infinite : ℕ) → format ≤ 1 → length blocks % 16 ≡ 0 → 48 * blocks_in blocks ≤ length out
      → RunWritten (is_signed format) blocks (blocks_in blocks) out infinite after
      → RunPainted blocks format out (record { answer = done; blocks = blocks_in blocks; infinite = infinite }) after
  painted_done after infinite h s l w =
      let z : run_refusal format (length blocks) (length out) ≡ done = done_when format (length blocks) (length out) h s l in
      record {
        answers = rw z (ap (λ (n : ℕ). record { answer = done; blocks = blocks_in blocks; infinite = n }) w.counts);
        holds = rw z w.holds;
      }
