-- A block's mode by the five bits that name it: tests over the 32 codes. Assumes nothing.
use mathlib.Core.Path.{◌≡◌, ◌∙◌, sym, subst}
use mathlib.Core.Bool.{Bool}
use Prim.Native.Nat.{ℕ, ◌+◌, ◌*◌, ◌%◌, ◌^◌, ◌≤◌, ◌<◌}
use native.Mathlib.Nat.{mod-lt}
use native.Mathlib.Omega.{arith}
use lib.Dec.{T, eqb, leb, lit<, leb→le}
use borrow.Author.Tests.{ne_eqb, eq-eqb}
use Rattle.laws.specs.Pick.{either, implies}
use Rattle.laws.specs.Every.{below}
use Rattle.laws.proofs.Tests.{below_at, either_right, implied}
use Rattle.bc6h_spec.specs.Fields.{mode_in}
use Rattle.bc6h_spec.proofs.Modes.{low_mode}

-- the codes of two regions, and of one, by their two lowest bits
abbrev two? : ℕ → Bool
two? code = either (eqb (code % 4) 3) (leb (mode_in code) 10)

abbrev one? : ℕ → Bool
one? code = implies (eqb (code % 4) 3) (either (eqb (mode_in code) 0) (leb 11 (mode_in code)))

all_two : T (below two? 32)
unfolding mode_in
all_two = tt

all_one : T (below one? 32)
unfolding mode_in
all_one = tt

module _ (n : ℕ) where
  low : n % 32 % 4 ≡ n % 4
  low = omega arith

  code_lt : n % 32 < 32
  code_lt = mod-lt n (lit< tt)

  pub two_codes : (n % 4 ≡ 3 → ⊥) → mode_in n ≤ 10
  two_codes h =
      subst (λ (m : ℕ). m ≤ 10) (low_mode n)
      (leb→le _ _ (either_right (eqb (n % 32 % 4) 3) _ (ne_eqb (n % 32 % 4) 3 (λ e. h (sym low ∙ e))) (below_at two? 32 (n % 32) all_two code_lt)))

  pub one_codes : 1 ≤ mode_in n → n % 4 ≡ 3 → 10 < mode_in n
  one_codes some h =
      subst (λ (m : ℕ). 11 ≤ m) (low_mode n)
      (leb→le _ _
      (either_right (eqb (mode_in (n % 32)) 0) _ (ne_eqb (mode_in (n % 32)) 0 (λ e. absurd (omega (arith, low_mode n))))
      (implied (eqb (n % 32 % 4) 3) _ (eq-eqb (n % 32 % 4) 3 (low ∙ h)) (below_at one? 32 (n % 32) all_one code_lt))))

-- the lower of a block's two words has its lowest bits
pub words_two : (lo hi : ℕ) → (lo % 4 ≡ 3 → ⊥) → (lo + 2 ^ 64 * hi) % 4 ≡ 3 → ⊥
words_two lo hi h e = h (let same : (lo + 2 ^ 64 * hi) % 4 ≡ lo % 4 = omega arith in sym same ∙ e)

pub words_one : (lo hi : ℕ) → lo % 4 ≡ 3 → (lo + 2 ^ 64 * hi) % 4 ≡ 3
words_one lo hi e = let same : (lo + 2 ^ 64 * hi) % 4 ≡ lo % 4 = omega arith in same ∙ e
