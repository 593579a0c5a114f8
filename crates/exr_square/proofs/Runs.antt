-- Words of one length, stored one behind the other. Assumes nothing.
use mathlib.Core.Path.{◌≡◌, refl, sym, ap, ◌∙◌}
use mathlib.Core.List.{List}
use Prim.Native.Nat.{ℕ, ◌+◌, ◌*◌, ◌≤◌}
use native.Mathlib.Omega.{arith}
use lib.ListN.{length}
use lib.Seq.{sets}
use Rattle.laws.specs.Made.{made, join}
use Rattle.laws.proofs.Joined.{run_length, run_more}
use Rattle.text.specs.Text.{Written}
use Rattle.text.proofs.Texts.{sets_append}

module _ (f : ℕ → List ℕ) where
  pub none_put : (out : List ℕ) (at : ℕ) → out ≡ sets out at (join (made f 0))
  unfolding made
  none_put out at = refl

  module _ (size : ℕ) (each : (k : ℕ) → length (f k) ≡ size) where
    pub one_put : (out₀ out exit : List ℕ) (at k : ℕ) → out ≡ sets out₀ at (join (made f k)) → exit ≡ sets out (at + size * k) (f k)
        → exit ≡ sets out₀ at (join (made f (k + 1)))
    one_put out₀ out exit at k e w =
        w ∙ ap (λ (l : List ℕ). sets l (at + size * k) (f k)) e
        ∙ sets_append (join (made f k)) (f k) out₀ at (at + size * k) (ap (λ (n : ℕ). at + n) (run_length f size each k))
        ∙ ap (sets out₀ at) (sym (run_more f k))

    pub all_put : (out₀ out : List ℕ) (at count k : ℕ) → out ≡ sets out₀ at (join (made f k)) → k ≤ count → count ≤ k
        → Written out₀ at (join (made f count)) (at + size * count) out
    all_put out₀ out at count k e h l =
        let is : k ≡ count = omega arith in
        record { next_is = ap (λ (n : ℕ). at + n) (sym (run_length f size each count)); exit_is = rw is at e }
