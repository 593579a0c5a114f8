-- Numbers of p bits as naturals: p bits of a number that may be below zero, and sign extension lifted above zero. Assumes nothing.
use mathlib.Core.Path.{◌≡◌, refl, sym, ap, ◌∙◌}
use Prim.Native.Nat.{ℕ, suc, ◌+◌, ◌-◌, ◌*◌, ◌/◌, ◌%◌, ◌^◌, ◌≤◌, ◌<◌}
use native.Mathlib.Nat.{mod-lt, div-add-mod', mul-le-mul_right, mul-add-mod_self_right}
use native.Mathlib.Decide.{dec_lt}
use native.Mathlib.Omega.{arith}
use lib.Arith.{digits_mod}
use lib.Dec.{ltb}
use lib.IntN.{ℤ, pos, negsuc, neg_ℤ, ◌-ℤ◌}
use lib.Pow.{pow_pos, pow_mono}
use borrow.Author.Tests.{lt-ltb, le-ltb}
use Rattle.laws.specs.Pick.{pick}
use Rattle.laws.proofs.Off.{Off, off_pos, off_neg, off_raise, off_same, off_add}
use Rattle.bc6h_spec.specs.Half.{sign_extend, keep}

-- the lowest p bits of z
pub off_keep : (p j : ℕ) (z : ℤ) (n : ℕ) → Off (j * 2 ^ p) z n → keep p z ≡ n % 2 ^ p
unfolding keep
off_keep p j (pos x) n h = sym (mul-add-mod_self_right j (2 ^ p) x) ∙ ap (λ (k : ℕ). k % 2 ^ p) (sym h)
off_keep p j (negsuc x) n h = go (dec_lt (x / 2 ^ p) j)
  where
    below : x % 2 ^ p < 2 ^ p
    below = mod-lt x (pow_pos p)

    whole : x / 2 ^ p * 2 ^ p + x % 2 ^ p ≡ x
    whole = div-add-mod' x (2 ^ p)

    at : (t : ℕ) → t + suc (x / 2 ^ p) ≡ j → 2 ^ p - 1 - x % 2 ^ p ≡ n % 2 ^ p
    at t e =
        let q : n ≡ t * 2 ^ p + (2 ^ p - 1 - x % 2 ^ p) = omega (arith, below, whole, ap (λ (k : ℕ). k * 2 ^ p) e) in
        let r : 2 ^ p - 1 - x % 2 ^ p < 2 ^ p = omega (arith, below) in
        sym (ap (λ (k : ℕ). k % 2 ^ p) q ∙ digits_mod t r)

    go : Dec (x / 2 ^ p < j) → 2 ^ p - 1 - x % 2 ^ p ≡ n % 2 ^ p
    go (yes l) = at (j - suc (x / 2 ^ p)) (omega arith)
    go (no l) = let m : j ≤ x / 2 ^ p = omega arith in absurd (omega (arith, whole, mul-le-mul_right (2 ^ p) m))

-- ---- sign extension, lifted by 2 ^ w above zero

unfoldable pub lifted : ℕ → ℕ → ℕ
lifted w d = pick (ltb d (2 ^ (w - 1))) (2 ^ w + d) d

pub lifted_off : (w d : ℕ) → Off (2 ^ w) (sign_extend w d) (lifted w d)
unfolding lifted sign_extend
lifted_off w d = go (dec_lt d (2 ^ (w - 1)))
  where
    go : Dec (d < 2 ^ (w - 1)) → Off (2 ^ w) (sign_extend w d) (lifted w d)
    go (yes l) = rw (lt-ltb d (2 ^ (w - 1)) l) refl
    go (no l) =
        rw (le-ltb d (2 ^ (w - 1)) (omega arith))
        (off_same (0 + 2 ^ w) (2 ^ w) (pos d -ℤ pos (2 ^ w)) (d + 0) d (omega arith) (omega arith)
        (off_add 0 (2 ^ w) (pos d) (neg_ℤ (pos (2 ^ w))) d 0 (off_pos d) (off_neg (2 ^ w))))

-- a number of w bits, seen from p bits
pub wide : (w p d : ℕ) → w ≤ p → Off (2 ^ p) (sign_extend w d) (lifted w d + (2 ^ p - 2 ^ w))
wide w p d h =
    off_same (2 ^ w + (2 ^ p - 2 ^ w)) (2 ^ p) (sign_extend w d) _ _ (omega (arith, pow_mono {i = w} {j = p} h)) refl
    (off_raise (2 ^ p - 2 ^ w) (2 ^ w) (sign_extend w d) (lifted w d) (lifted_off w d))
