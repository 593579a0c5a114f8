-- What a program may write, from what its calls promise. Assumes nothing.
use mathlib.Core.Path.{◌≡◌, ap, subst, ◌∙◌}
use mathlib.Core.List.{List}
use Prim.Native.Nat.{ℕ, ◌+◌, ◌≤◌, ◌<◌}
use native.Mathlib.Omega.{arith}
use lib.ListN.{length, take}
use Rattle.text.specs.Text.{Written}
use Rattle.text.proofs.Texts.{begins, written_length}
use Rattle.run_streams.specs.Output.{Outgoing}

-- a buffer with more room than the largest input, its first bytes, and a text that is a definition of them
pub answered : (definition : List ℕ → List ℕ) (largest : ℕ) {buffer part lent out : List ℕ} {size end : ℕ} → largest < length buffer
    → part ≡ take size buffer → end ≤ length out → Written lent 0 (definition part) end out → Outgoing definition largest buffer size out end
answered definition largest {end = end} more first fits written =
    record {
      room = more;
      fits = fits;
      says = begins written (subst (λ (x : ℕ). end ≤ x) (written_length written) fits) ∙ ap definition first;
    }

-- the same of a buffer with one byte more
pub outgoing : (definition : List ℕ → List ℕ) (largest : ℕ) {buffer part lent out : List ℕ} {size end : ℕ} → length buffer ≡ largest + 1
    → part ≡ take size buffer → end ≤ length out → Written lent 0 (definition part) end out → Outgoing definition largest buffer size out end
outgoing definition largest long = answered definition largest (omega (arith, long))
