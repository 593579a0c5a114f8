-- The mode by the count of trailing zeros: computed once, over all bytes. Assumes nothing.
use mathlib.Core.Path.{◌≡◌, ◌∙◌, sym, ap}
use mathlib.Core.Bool.{Bool}
use Prim.Native.Nat.{ℕ, ◌+◌, ◌*◌, ◌%◌, ◌^◌}
use native.Mathlib.Nat.{mod-lt}
use native.Mathlib.Omega.{arith}
use lib.Count.{count_trailing_zeros}
use lib.Dec.{T, eqb, eqb→eq, lit<}
use Rattle.laws.specs.Every.{below}
use Rattle.laws.specs.First.{first_below}
use Rattle.laws.proofs.Digits.{bit_mod}
use Rattle.laws.proofs.Firsts.{first_same}
use Rattle.laws.proofs.Tests.{below_at}
use Rattle.bc7_spec.specs.Fields.{is_one, mode_in}

by_byte : (n : ℕ) → mode_in (n % 256) ≡ mode_in n
unfolding mode_in
by_byte n = first_same (is_one (n % 256)) (is_one n) 8 (λ k h. ap (λ (x : ℕ). eqb x 1) (bit_mod n 8 k h))

abbrev lowest? : ℕ → Bool
lowest? b = eqb (count_trailing_zeros 64 (b + 256)) (mode_in b)

all : T (below lowest? 256)
unfolding count_trailing_zeros first_below mode_in
all = tt

pub lowest : (n : ℕ) → count_trailing_zeros 64 (n % 256 + 256) ≡ mode_in n
lowest n = eqb→eq _ _ (below_at lowest? 256 (n % 256) all (mod-lt n (lit< tt))) ∙ by_byte n

-- two words have the mode of the first
pub mode_low : (lo hi : ℕ) → mode_in lo ≡ mode_in (lo + 2 ^ 64 * hi)
mode_low lo hi = let e : lo % 256 ≡ (lo + 2 ^ 64 * hi) % 256 = omega arith in sym (by_byte lo) ∙ ap mode_in e ∙ by_byte (lo + 2 ^ 64 * hi)
