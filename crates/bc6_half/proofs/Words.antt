-- A number of 16 bits as a word, and back. Assumes nothing.
use mathlib.Core.Path.{◌≡◌, ◌∙◌, refl, sym, ap}
use mathlib.Core.Bool.{Bool, true, false}
use Prim.Native.Nat.{ℕ, suc, ◌-◌, ◌%◌, ◌<◌}
use native.Mathlib.Nat.{mod-eq_of_lt}
use native.Mathlib.Decide.{ℕ_discrete}
use native.Mathlib.Omega.{arith}
use lib.Dec.{eqb, lit<}
use lib.IntN.{ℤ, pos, negsuc}
use borrow.Author.Tests.{lt-ltb, le-ltb, ne_eqb}
use Rattle.laws.specs.Ranges.{InBits}
use Rattle.laws.proofs.Num.{minus}
use Rattle.bc6h_spec.specs.Half.{sign_extend, keep, is_lowest}
use Rattle.bc6h_spec.specs.Picture.{first_end}
use Rattle.bc6h_spec.proofs.Ranges.{first_in}
use Rattle.bc6_half.specs.Halves.{signed_number}

-- the number of a word
pub number_in : (s : Bool) (u : ℕ) → u < 65536 → InBits s 16 (signed_number s u)
unfolding signed_number first_end
number_in s u h = first_in s 16 u (lit< tt) h

below : (n : ℕ) → n < 65536 → n % 65536 ≡ n
below n h = mod-eq_of_lt h

-- the number of its own word
pub number_kept : (s : Bool) (z : ℤ) → InBits s 16 z → signed_number s (keep 16 z) ≡ z
unfolding signed_number keep sign_extend
number_kept true (pos n) r = let l : n < 32768 = r.inside in rw (below n (omega arith), lt-ltb n 32768 l) refl
number_kept true (negsuc n) r =
    let l : n < 32768 = r.inside in
    let e : 65536 - suc (65535 - n) ≡ n = omega arith in
    rw (below n (omega arith), le-ltb (65535 - n) 32768 (omega arith), minus (65535 - n) 65536 (omega arith), e) refl
number_kept false (pos n) r = ap pos (below n r.inside)
number_kept false (negsuc n) r = absurd r.sign

-- −32768 by its word
pub lowest_kept : (z : ℤ) → InBits true 16 z → eqb (keep 16 z) 32768 ≡ is_lowest true z
unfolding is_lowest keep
lowest_kept (pos n) r = let l : n < 32768 = r.inside in rw (below n (omega arith)) (ne_eqb n 32768 (λ e. omega arith))
lowest_kept (negsuc n) r = rw (below n (omega arith)) (by (ℕ_discrete n 32767))
  where
    l : n < 32768
    l = r.inside

    by : Dec (n ≡ 32767) → eqb (65535 - n) 32768 ≡ eqb n 32767
    by (yes e) = rw e refl
    by (no f) = ne_eqb (65535 - n) 32768 (λ e. f (omega arith)) ∙ sym (ne_eqb n 32767 f)

-- no number of the unsigned format is −32768
pub none_lowest : (z : ℤ) → false ≡ is_lowest false z
unfolding is_lowest
none_lowest (pos n) = refl
none_lowest (negsuc n) = refl
