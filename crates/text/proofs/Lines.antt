-- Lines that a loop puts one after the other. Assumes nothing.
use mathlib.Core.Path.{◌≡◌, refl, sym, ◌∙◌}
use mathlib.Core.List.{List, [], append-nil}
use Prim.Native.Nat.{ℕ, ◌+◌, ◌≤◌}
use native.Mathlib.Omega.{arith}
use Rattle.laws.specs.Made.{made}
use Rattle.laws.proofs.Joined.{run_more}
use Rattle.text.specs.Text.{lines_to, Written}
use Rattle.text.proofs.Texts.{then, said}

module _ (line : ℕ → List ℕ) where
  pub no_lines : (l : List ℕ) (at : ℕ) → Written l at (lines_to line 0) at l
  unfolding lines_to made
  no_lines l at = record { next_is = omega arith; exit_is = refl }

  pub line_more : {l m₁ m₂ : List ℕ} {at e₁ e₂ : ℕ} (n : ℕ) → Written l at (lines_to line n) e₁ m₁ → Written m₁ e₁ (line n) e₂ m₂ → Written l at (lines_to line (n + 1)) e₂ m₂
  unfolding lines_to
  line_more n x y = said (then x y) (sym (run_more line n))

  -- of a number without a line nothing is put
  pub line_skipped : {l m : List ℕ} {at e : ℕ} (n : ℕ) → line n ≡ [] → Written l at (lines_to line n) e m → Written l at (lines_to line (n + 1)) e m
  unfolding lines_to
  line_skipped n none w = said w (sym (run_more line n ∙ rw none (append-nil _)))

  pub lines_upto : {l m : List ℕ} {at e : ℕ} (n count : ℕ) → n ≤ count → count ≤ n → Written l at (lines_to line n) e m → Written l at (lines_to line count) e m
  lines_upto n count h k w = let same : n ≡ count = omega arith in rw same at w
