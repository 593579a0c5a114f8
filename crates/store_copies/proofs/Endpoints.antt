-- An endpoint after the transform gives back the stored number, and lies where the palette's laws want it. Assumes nothing.
use mathlib.Core.Path.{◌≡◌, refl, sym, ap, ◌∙◌, subst}
use mathlib.Core.Logic.{◌≢◌}
use mathlib.Core.Bool.{Bool, true, false}
use Prim.Native.Nat.{ℕ, suc, ◌+◌, ◌-◌, ◌*◌, ◌%◌, ◌^◌, ◌≤◌, ◌<◌}
use native.Mathlib.Decide.{dec_lt}
use native.Mathlib.Omega.{arith}
use lib.IntN.{ℤ, pos, negsuc, neg_ℤ, nat_abs, ◌+ℤ◌}
use lib.Pow.{pow_mono}
use lib.Dec.{ltb}
use borrow.Author.Tests.{lt-ltb, le-ltb, ltb-true, ltb-false}
use Rattle.laws.proofs.Tests.{picks, cases}
use Rattle.laws.proofs.Near.{mod_near}
use Rattle.laws.proofs.Off.{Off, off_same, off_add, off_fun}
use Rattle.bc6h_spec.specs.Half.{sign_extend, keep, transform}
use Rattle.bc6h_spec.specs.Picture.{first_end, delta, other_end}
use Rattle.bc6h_spec.proofs.Ranges.{keep_lt, twice}
use Rattle.bc6h_spec.proofs.Lifted.{off_keep, lifted, lifted_off, wide}
use Rattle.store_copies.proofs.Palettes.{OkU, OkS}

pos_inj : (a b : ℕ) → pos a ≡ pos b → a ≡ b
pos_inj a b e = ap nat_abs e

-- ---- sign extension, lifted by 2 ^ w above zero

lifted_range : (w d : ℕ) → 1 ≤ w → d < 2 ^ w → (2 ^ (w - 1) ≤ lifted w d) × (lifted w d < 3 * 2 ^ (w - 1))
unfolding lifted
lifted_range w d o h =
    let t = twice w o in
    picks (ltb d (2 ^ (w - 1))) (2 ^ w + d) d (λ n. (2 ^ (w - 1) ≤ n) × (n < 3 * 2 ^ (w - 1)))
    (λ e. let l = ltb-true d (2 ^ (w - 1)) e in (omega arith, omega arith)) (λ e. let l = ltb-false d (2 ^ (w - 1)) e in (omega arith, omega arith))

lifted_inj : (w d e : ℕ) → d < 2 ^ w → e < 2 ^ w → lifted w d ≡ lifted w e → d ≡ e
unfolding lifted
lifted_inj w d e hd he = go (dec_lt d (2 ^ (w - 1))) (dec_lt e (2 ^ (w - 1)))
  where
    go : Dec (d < 2 ^ (w - 1)) → Dec (e < 2 ^ (w - 1)) → lifted w d ≡ lifted w e → d ≡ e
    go (yes a) (yes b) = rw (lt-ltb d (2 ^ (w - 1)) a, lt-ltb e (2 ^ (w - 1)) b) (omega arith)
    go (yes a) (no b) = rw (lt-ltb d (2 ^ (w - 1)) a, le-ltb e (2 ^ (w - 1)) (omega arith)) (omega arith)
    go (no a) (yes b) = rw (le-ltb d (2 ^ (w - 1)) (omega arith), lt-ltb e (2 ^ (w - 1)) b) (omega arith)
    go (no a) (no b) = rw (le-ltb d (2 ^ (w - 1)) (omega arith), le-ltb e (2 ^ (w - 1)) (omega arith)) (omega arith)

extend_inj : (w d e : ℕ) → d < 2 ^ w → e < 2 ^ w → sign_extend w d ≡ sign_extend w e → d ≡ e
extend_inj w d e hd he q =
    lifted_inj w d e hd he (off_fun (2 ^ w) (sign_extend w d) _ _ (lifted_off w d) (subst (λ (z : ℤ). Off (2 ^ w) z (lifted w e)) (sym q) (lifted_off w e)))

-- ---- ranges

not_least : (H : ℕ) (z : ℤ) (n : ℕ) → Off (2 * H) z n → H ≤ n → n < 3 * H → z ≢ neg_ℤ (pos H) → nat_abs z < H
not_least H (pos x) n o l h q = omega arith
not_least H (negsuc x) n o l h q =
    cases (ltb (suc x) H) (ltb-true (suc x) H)
    (λ f. let e : suc x ≡ H = omega (arith, ltb-false (suc x) H f) in absurd (q (ap (λ (k : ℕ). neg_ℤ (pos k)) e)))

extended_ok : (w p d : ℕ) → 1 ≤ w → w ≤ p → d < 2 ^ w → sign_extend w d ≢ neg_ℤ (pos (2 ^ (p - 1))) → OkS p (sign_extend w d)
extended_ok w p d o h l q =
    let s = lifted_range w d o l in
    let k : w - 1 ≤ p - 1 = omega arith in
    not_least (2 ^ (p - 1)) (sign_extend w d) (lifted w d + (2 ^ p - 2 ^ w))
    (off_same (2 ^ p) (2 * 2 ^ (p - 1)) (sign_extend w d) _ _ (omega (arith, twice p (omega arith))) refl (wide w p d h))
    (omega (arith, twice w o, twice p (omega arith), pow_mono {i = w - 1} {j = p - 1} k))
    (omega (arith, twice w o, twice p (omega arith), pow_mono {i = w - 1} {j = p - 1} k)) q

-- ---- the first endpoint

abbrev pub Ok : Bool → ℕ → ℤ → Type 0
Ok true p z = OkS p z
Ok false p z = OkU p z

pub first_ok : (signed : Bool) (p n : ℕ) → 1 ≤ p → n < 2 ^ p → (signed ≡ true → first_end signed p n ≢ neg_ℤ (pos (2 ^ (p - 1)))) → Ok signed p (first_end signed p n)
unfolding first_end
first_ok true p n o h q = extended_ok p p n o (omega arith) h (q refl)
first_ok false p n o h q = h

pub first_inj : (signed : Bool) (p n m : ℕ) → n < 2 ^ p → m < 2 ^ p → first_end signed p n ≡ first_end signed p m → n ≡ m
unfolding first_end
first_inj true p n m hn hm e = extend_inj p n m hn hm e
first_inj false p n m hn hm e = pos_inj n m e

first_off : (signed : Bool) (p n : ℕ) → (A : ℕ) × Off (2 ^ p) (first_end signed p n) A
unfolding first_end
first_off true p n = (lifted p n, lifted_off p n)
first_off false p n = (2 ^ p + n, refl)

-- ---- a later endpoint

pub later_ok : (signed moved : Bool) (p w n d : ℕ) → 1 ≤ w → w ≤ p → d < 2 ^ w
    → (signed ≡ true → other_end signed moved p w (first_end signed p n) d ≢ neg_ℤ (pos (2 ^ (p - 1)))) → Ok signed p (other_end signed moved p w (first_end signed p n) d)
unfolding other_end delta transform
later_ok true true p w n d o h l q = extended_ok p p (keep p (first_end true p n +ℤ sign_extend w d)) (omega arith) (omega arith) (keep_lt p _) (q refl)
later_ok true false p w n d o h l q = extended_ok w p d o h l (q refl)
later_ok false true p w n d o h l q = keep_lt p (first_end false p n +ℤ sign_extend w d)
later_ok false false p w n d o h l q = omega (arith, pow_mono {i = w} {j = p} h)

keep_inj : (p w d e : ℕ) (a : ℤ) (A : ℕ) → 1 ≤ w → w ≤ p → d < 2 ^ w → e < 2 ^ w → Off (2 ^ p) a A
    → keep p (a +ℤ sign_extend w d) ≡ keep p (a +ℤ sign_extend w e) → d ≡ e
keep_inj p w d e a A o h hd he oa q =
    lifted_inj w d e hd he (omega (arith, near))
  where
    sum : (x : ℕ) → keep p (a +ℤ sign_extend w x) ≡ (A + (lifted w x + (2 ^ p - 2 ^ w))) % 2 ^ p
    sum x =
        off_keep p 2 (a +ℤ sign_extend w x) (A + (lifted w x + (2 ^ p - 2 ^ w)))
        (off_same (2 ^ p + 2 ^ p) (2 * 2 ^ p) (a +ℤ sign_extend w x) _ _ (omega arith) refl
        (off_add (2 ^ p) (2 ^ p) a (sign_extend w x) A (lifted w x + (2 ^ p - 2 ^ w)) oa (wide w p x h)))

    near : A + (lifted w d + (2 ^ p - 2 ^ w)) ≡ A + (lifted w e + (2 ^ p - 2 ^ w))
    near =
        let s = lifted_range w d o hd in
        let t = lifted_range w e o he in
        mod_near (2 ^ p) _ _ (sym (sum d) ∙ q ∙ sum e)
        (omega (arith, twice w o, pow_mono {i = w} {j = p} h)) (omega (arith, twice w o, pow_mono {i = w} {j = p} h))

pub later_inj : (signed moved : Bool) (p w n d e : ℕ) → 1 ≤ w → w ≤ p → d < 2 ^ w → e < 2 ^ w
    → other_end signed moved p w (first_end signed p n) d ≡ other_end signed moved p w (first_end signed p n) e → d ≡ e
unfolding other_end delta transform
later_inj true true p w n d e o h hd he q =
    keep_inj p w d e (first_end true p n) (first_off true p n).0 o h hd he (first_off true p n).1 (extend_inj p _ _ (keep_lt p _) (keep_lt p _) q)
later_inj true false p w n d e o h hd he q = extend_inj w d e hd he q
later_inj false true p w n d e o h hd he q =
    keep_inj p w d e (first_end false p n) (first_off false p n).0 o h hd he (first_off false p n).1 (pos_inj _ _ q)
later_inj false false p w n d e o h hd he q = pos_inj d e q
