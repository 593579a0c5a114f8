-- A difference added to p bits that are stored, in either format: what the definitions make of it. Assumes nothing.
use mathlib.Core.Path.{◌≡◌, ◌∙◌, refl, sym, ap}
use mathlib.Core.Bool.{Bool, true, false}
use Prim.Native.Nat.{ℕ, ◌+◌, ◌-◌, ◌*◌, ◌%◌, ◌^◌, ◌≤◌, ◌<◌}
use native.Mathlib.Nat.{mul-add-mod_self_right, mod-eq_of_lt}
use native.Mathlib.Decide.{dec_lt}
use native.Mathlib.Omega.{arith}
use lib.Dec.{lit≤}
use lib.IntN.{ℤ, pos, nat_abs, ◌+ℤ◌, +ℤ_idl, +ℤ_idr}
use lib.Pow.{pow_pos}
use borrow.Author.Tests.{lt-ltb, le-ltb}
use Rattle.laws.proofs.Off.{Off, off_same, off_add}
use Rattle.bc6h_spec.specs.Half.{sign_extend, keep, transform, unquantized, unquantize_u}
use Rattle.bc6h_spec.specs.Picture.{first_end, delta, other_end}
use Rattle.bc6h_spec.proofs.Ranges.{keep_lt}
use Rattle.bc6h_spec.proofs.Lifted.{off_keep, lifted, lifted_off, wide}
use Rattle.bc6_endpoints.specs.Ends.{word_of, whole_of, moved_of, end_of}

-- whole turns of 2 ^ p are dropped
turn : (p n : ℕ) → (2 ^ p + n) % 2 ^ p ≡ n % 2 ^ p
turn p n = ap (λ (k : ℕ). k % 2 ^ p) (let e : 2 ^ p + n ≡ 1 * 2 ^ p + n = omega arith in e) ∙ mul-add-mod_self_right 1 (2 ^ p) n

module _ (p w n : ℕ) (own : w ≤ p) where
  abbrev apart : ℕ
  apart = lifted w n + (2 ^ p - 2 ^ w)

  -- a number that lies A − 2 ^ p, plus the difference
  sum_kept : (z : ℤ) (A : ℕ) → Off (2 ^ p) z A → keep p (z +ℤ sign_extend w n) ≡ (A + apart) % 2 ^ p
  sum_kept z A o =
      off_keep p 2 (z +ℤ sign_extend w n) (A + apart)
      (off_same (2 ^ p + 2 ^ p) (2 * 2 ^ p) (z +ℤ sign_extend w n) _ _ (omega arith) refl (off_add (2 ^ p) (2 ^ p) z (sign_extend w n) A apart o (wide w p n own)))

  from_whole : (first : ℕ) → keep p (pos first +ℤ sign_extend w n) ≡ (first + apart) % 2 ^ p
  from_whole first = sum_kept (pos first) (2 ^ p + first) refl ∙ ap (λ (k : ℕ). k % 2 ^ p) (let e : 2 ^ p + first + apart ≡ 2 ^ p + (first + apart) = omega arith in e) ∙ turn p (first + apart)

  from_extended : (first : ℕ) → keep p (sign_extend p first +ℤ sign_extend w n) ≡ (first + apart) % 2 ^ p
  unfolding lifted
  from_extended first = sum_kept (sign_extend p first) (lifted p first) (lifted_off p first) ∙ go (dec_lt first (2 ^ (p - 1)))
    where
      go : Dec (first < 2 ^ (p - 1)) → (lifted p first + apart) % 2 ^ p ≡ (first + apart) % 2 ^ p
      go (yes l) =
          rw (lt-ltb first (2 ^ (p - 1)) l)
          (ap (λ (k : ℕ). k % 2 ^ p) (let e : 2 ^ p + first + apart ≡ 2 ^ p + (first + apart) = omega arith in e) ∙ turn p (first + apart))
      go (no l) = rw (le-ltb first (2 ^ (p - 1)) (omega arith)) refl

  -- in either format the transform is of the bits that are stored
  pub moved_is : (s : Bool) (first : ℕ) → end_of s p w (pos first) (pos n) ≡ moved_of s p w first n
  unfolding end_of moved_of other_end delta transform first_end
  moved_is true first = ap (λ (k : ℕ). unquantized true p (sign_extend p k)) (from_whole first ∙ sym (from_extended first))
  moved_is false first = refl

-- p bits of the number that they stand for
pub kept_extended : (p n : ℕ) → n < 2 ^ p → keep p (sign_extend p n) ≡ n
unfolding lifted
kept_extended p n h =
    off_keep p 1 (sign_extend p n) (lifted p n)
    (off_same (2 ^ p) (1 * 2 ^ p) (sign_extend p n) (lifted p n) (lifted p n) (omega arith) refl (lifted_off p n))
    ∙ go (dec_lt n (2 ^ (p - 1)))
  where
    go : Dec (n < 2 ^ (p - 1)) → lifted p n % 2 ^ p ≡ n
    go (yes l) = rw (lt-ltb n (2 ^ (p - 1)) l) (turn p n ∙ mod-eq_of_lt h)
    go (no l) = rw (le-ltb n (2 ^ (p - 1)) (omega arith)) (mod-eq_of_lt h)

-- a sum that is n, p bits kept: the end of n, stored whole
whole_by : (s : Bool) (p w : ℕ) (base x : ℤ) (n : ℕ) → keep p (base +ℤ sign_extend w (nat_abs x)) ≡ n → end_of s p w base x ≡ whole_of s p n
unfolding end_of whole_of transform first_end
whole_by true p w base x n e = ap (λ (k : ℕ). unquantized true p (sign_extend p k)) e
whole_by false p w base x n e = ap (λ (k : ℕ). unquantized false p (pos k)) e

-- a number plus no difference
nothing : (w : ℕ) → sign_extend w 0 ≡ pos 0
unfolding sign_extend
nothing w = rw (lt-ltb 0 (2 ^ (w - 1)) (pow_pos (w - 1))) refl

pub unmoved : (s : Bool) (p w first : ℕ) → first < 2 ^ p → end_of s p w (pos first) (pos 0) ≡ whole_of s p first
unfolding keep
unmoved s p w first h =
    whole_by s p w (pos first) (pos 0) first (ap (λ (z : ℤ). keep p (pos first +ℤ z)) (nothing w) ∙ ap (keep p) (+ℤ_idr (pos first)) ∙ mod-eq_of_lt h)

-- 0 plus a number
pub from_zero : (s : Bool) (p n : ℕ) → n < 2 ^ p → end_of s p p (pos 0) (pos n) ≡ whole_of s p n
from_zero s p n h = whole_by s p p (pos 0) (pos n) n (ap (keep p) (+ℤ_idl (sign_extend p n)) ∙ kept_extended p n h)

-- ---- sixteen bits: nothing is unquantised, and a difference has four bits

pub whole_16 : (s : Bool) (n : ℕ) → n < 65536 → word_of s 16 (first_end s 16 n) ≡ n
unfolding word_of unquantized unquantize_u first_end keep
whole_16 true n h = kept_extended 16 n h
whole_16 false n h = mod-eq_of_lt h

-- the transform of the unsigned format has the bits of either
pub moved_16_is : (s : Bool) (first n : ℕ) → keep 16 (transform false 16 (pos first) (sign_extend 4 n)) ≡ word_of s 16 (other_end s true 16 4 (first_end s 16 first) n)
unfolding other_end delta transform first_end word_of unquantized unquantize_u
moved_16_is true first n =
    let k = keep 16 (pos first +ℤ sign_extend 4 n) in
    let l = keep_lt 16 (pos first +ℤ sign_extend 4 n) in
    whole_16 false k l ∙ sym (whole_16 true k l)
    ∙ ap (λ (j : ℕ). word_of true 16 (sign_extend 16 j)) (from_whole 16 4 n (lit≤ tt) first ∙ sym (from_extended 16 4 n (lit≤ tt) first))
moved_16_is false first n = refl
