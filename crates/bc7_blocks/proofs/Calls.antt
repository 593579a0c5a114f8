-- The call over a run of blocks: its refusals, its one outcome, and what a caller learns from it. Assumes nothing.
use mathlib.Core.Path.{◌≡◌, ◌∙◌, refl, sym, ap}
use mathlib.Core.List.{List, ◌++◌}
use Prim.Native.Nat.{ℕ, suc, ◌*◌, ◌/◌, ◌%◌, ◌≤◌, ◌<◌}
use lib.ListN.{length, take, drop}
use lib.Seq.{take_at}
use borrow.Author.Tests.{lt-ltb, le-ltb, eq-eqb, ne_eqb}
use Rattle.laws.proofs.Joined.{run_at_lem}
use Rattle.bcn_spec.specs.Answers.{done, short_output, uneven_blocks}
use Rattle.bcn_spec.specs.Bits.{blocks_in, block_at}
use Rattle.bc7_spec.specs.Block.{byte_count, colour_bytes}
use Rattle.bc7_spec.proofs.Lengths.{length_bytes}
use Rattle.bc7.specs.Call.{Bc7Pixels}
use Rattle.bc7.specs.Call.{refusal_of, Painted}
use Rattle.bc7.proofs.Calls.{done_when, written}
use Rattle.bc7_blocks.specs.Run.{Bc7BlocksPixels}
use Rattle.bc7_blocks.specs.Run.{shown_at, run_of, run_refusal, RunPainted}

-- ---- the checks

module _ (size room : ℕ) where
  pub blocks_refused : (size % 16 ≡ 0 → ⊥) → run_refusal size room ≡ uneven_blocks
  unfolding run_refusal
  blocks_refused s = simp (ne_eqb _ _ s)

  pub output_refused : size % 16 ≡ 0 → room < 64 * (size / 16) → run_refusal size room ≡ short_output
  unfolding run_refusal
  output_refused s r = simp (eq-eqb _ _ s, lt-ltb _ _ r)

  pub run_when : size % 16 ≡ 0 → 64 * (size / 16) ≤ room → run_refusal size room ≡ done
  unfolding run_refusal
  run_when s r = simp (eq-eqb _ _ s, le-ltb _ _ r)

-- ---- the outcome

pub one_outcome : {blocks out : List ℕ} {r s : Bc7BlocksPixels} {a b : List ℕ} → RunPainted blocks out r a → RunPainted blocks out s b → (r ≡ s) × (a ≡ b)
one_outcome p q = (p.answers ∙ sym q.answers, p.holds ∙ sym q.holds)

-- the bytes of a block
pub each : (blocks : List ℕ) (n : ℕ) → length (shown_at blocks n) ≡ byte_count
unfolding shown_at
each blocks n = length_bytes (block_at blocks n)

-- block by block: the bytes of block n
pub block_by_block : {blocks out : List ℕ} {r : Bc7BlocksPixels} {after : List ℕ} → RunPainted blocks out r after
    → run_refusal (length blocks) (length out) ≡ done → (n : ℕ) → n < blocks_in blocks → take 64 (drop (64 * n) after) ≡ colour_bytes (block_at blocks n)
unfolding shown_at
block_by_block {blocks} {out} p z n h =
    ap (λ (t : List ℕ). take 64 (drop (64 * n) t)) (rw z at p.holds)
    ∙ run_at_lem (shown_at blocks) 64 (each blocks) (blocks_in blocks) n (drop (64 * blocks_in blocks) out) h

-- S-66: what the block call leaves of block n in any bytes that it was lent
pub in_turn : {blocks out lent : List ℕ} {r : Bc7BlocksPixels} {s : Bc7Pixels} {after left : List ℕ} → RunPainted blocks out r after
    → run_refusal (length blocks) (length out) ≡ done → (n : ℕ) → n < blocks_in blocks → Painted (block_at blocks n) lent s left
    → refusal_of (length (block_at blocks n)) (length lent) ≡ done → take 64 (drop (64 * n) after) ≡ take 64 left
in_turn {blocks} {lent = lent} p z n h q y =
    block_by_block p z n h
    ∙ sym (ap (take 64) (written q y) ∙ take_at (colour_bytes (block_at blocks n)) (drop 64 lent) 64 (length_bytes (block_at blocks n)))

-- ---- a turn of the loop: what the block call leaves in the part that it was lent

pub painted_part : (blocks part : List ℕ) (n size : ℕ) (r : Bc7Pixels) (after : List ℕ) → Painted (take size (drop (16 * n) blocks)) part r after → size ≡ 16
    → length (take size (drop (16 * n) blocks)) ≡ 16 → 64 ≤ length part → after ≡ shown_at blocks n ++ drop 64 part
unfolding shown_at
painted_part blocks part n size r after p e s h =
    written p (done_when _ _ s h) ∙ ap (λ (k : ℕ). colour_bytes (take k (drop (16 * n) blocks)) ++ drop 64 part) e

-- ---- what each return shows

refused_at : (blocks out : List ℕ) (n : ℕ) (r : Bc7BlocksPixels) → run_refusal (length blocks) (length out) ≡ suc n
    → r ≡ record { answer = suc n; blocks = 0 } → RunPainted blocks out r out
refused_at blocks out n r z e = record { answers = e ∙ rw z refl; holds = rw z refl }

module _ (blocks out : List ℕ) where
  pub painted_blocks : (r : Bc7BlocksPixels) → (length blocks % 16 ≡ 0 → ⊥) → r ≡ record { answer = uneven_blocks; blocks = 0 } → RunPainted blocks out r out
  painted_blocks r s = refused_at blocks out 8 r (blocks_refused (length blocks) (length out) s)

  pub painted_output : (r : Bc7BlocksPixels) → length blocks % 16 ≡ 0 → length out < 64 * blocks_in blocks
      → r ≡ record { answer = short_output; blocks = 0 } → RunPainted blocks out r out
  painted_output r s l = refused_at blocks out 2 r (output_refused (length blocks) (length out) s l)

  pub painted_done : (after : List ℕ) → length blocks % 16 ≡ 0 → 64 * blocks_in blocks ≤ length out
      → after ≡ run_of blocks (blocks_in blocks) ++ drop (64 * blocks_in blocks) out → RunPainted blocks out (record { answer = done; blocks = blocks_in blocks }) after
  painted_done after s l w =
      let z : run_refusal (length blocks) (length out) ≡ done = run_when (length blocks) (length out) s l in
      record { answers = rw z refl; holds = rw z w }
