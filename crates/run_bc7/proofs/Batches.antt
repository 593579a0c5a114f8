-- What a batch shows, from what the call over its blocks promises. Assumes nothing.
use mathlib.Core.Path.{◌≡◌, ap}
use mathlib.Core.List.{List}
use Prim.Native.Nat.{ℕ, ◌*◌, ◌/◌, ◌%◌, ◌≤◌}
use native.Mathlib.Omega.{arith}
use lib.Dec.{eqb}
use lib.ListN.{length}
use borrow.Author.Tests.{eq-eqb, ne_eqb, eqb-true, eqb-false}
use Rattle.laws.specs.Made.{made}
use Rattle.laws.proofs.Tests.{cases}
use Rattle.bcn_spec.specs.Answers.{done, uneven_blocks}
use Rattle.bc7_blocks.specs.Run.{Bc7BlocksPixels}
use Rattle.bc7_blocks.specs.Run.{run_refusal, RunPainted}
use Rattle.bc7_blocks.proofs.Calls.{blocks_refused, run_when}
use Rattle.run_bc7.specs.Batch.{blocks_taken, Decoded}

module _ (input out : List ℕ) (r : Bc7BlocksPixels) (after : List ℕ) (p : RunPainted input out r after) where
  whole : length input % 16 ≡ 0 → 64 * (length input / 16) ≤ length out → Decoded input out (64 * r.blocks) after
  unfolding blocks_taken
  whole s h =
      let z : run_refusal (length input) (length out) ≡ done = run_when (length input) (length out) s h in
      let b : r.blocks ≡ length input / 16 = ap (λ (x : Bc7BlocksPixels). x.blocks) (rw z at p.answers) in
      record {
        answers = rw (eq-eqb (length input % 16) 0 s) (ap (λ (n : ℕ). 64 * n) b);
        holds = rw (eq-eqb (length input % 16) 0 s) (rw z at p.holds);
        fits = omega (arith, b);
      }

  uneven : (length input % 16 ≡ 0 → ⊥) → Decoded input out (64 * r.blocks) after
  unfolding blocks_taken made
  uneven n =
      let z : run_refusal (length input) (length out) ≡ uneven_blocks = blocks_refused (length input) (length out) n in
      let b : r.blocks ≡ 0 = ap (λ (x : Bc7BlocksPixels). x.blocks) (rw z at p.answers) in
      record {
        answers = rw (ne_eqb (length input % 16) 0 n) (ap (λ (n : ℕ). 64 * n) b);
        holds = rw (ne_eqb (length input % 16) 0 n) (rw z at p.holds);
        fits = omega (arith, b);
      }

  pub decoded : 64 * (length input / 16) ≤ length out → Decoded input out (64 * r.blocks) after
  decoded h =
      cases (eqb (length input % 16) 0) (λ t. whole (eqb-true (length input % 16) 0 t) h) (λ f. uneven (eqb-false (length input % 16) 0 f))
