-- Laws of the definitions: what the code's steps come to, and the range of each result. Assumes nothing.
use mathlib.Core.Path.{◌≡◌, refl, sym, ap, subst, ◌∙◌}
use Prim.Native.Nat.{ℕ, suc, ◌+◌, ◌-◌, ◌*◌, ◌/◌, ◌%◌, ◌^◌, ◌<◌, ◌≤◌}
use native.Mathlib.Nat.{mul_comm, add-mul, mod-lt, div-lt_iff_lt-mul}
use native.Mathlib.Omega.{arith}
use lib.Dec.{T}
use lib.Arith.{digits_mod}
use lib.Bits.{bit_and, and_mask}
use lib.Pow.{pow_pos, pow_mono, pow-add, split}
use lib.IntN.{ℤ, pos, negsuc, nat_abs, ◌*ℤ◌}
use lib.Signed.{mag, non_neg, shr_z}
use mir.Syntax.{w32}
use mir.Val.{SFits, to_z, of_z}
use mir.ValLaws.{to_z_pos}
use Rattle.bc6h_spec.proofs.Ranges.{keep_lt}
use Rattle.bc6h_spec.specs.Half.{keep, finish_u}

-- ---- scale, unsigned
pub finish_u_is : (x : ℤ) → T (non_neg x) → shr_z (x *ℤ pos 31) 64 ≡ pos (finish_u (nat_abs x))
unfolding finish_u
finish_u_is (pos n) s = ap (λ (k : ℕ). pos (k / 64)) (mul_comm n 31)
finish_u_is (negsuc n) s = absurd s

-- ---- the lowest bits
wraps : (b m : ℕ) → b ≤ 32 → m < 4294967296 → (4294967296 - suc m) % 2 ^ b ≡ (2 ^ b - 1) - m % 2 ^ b
wraps b m h l =
    let K = 2 ^ b in
    let J = 2 ^ (32 - b) in
    let q = m / K in
    let r = m % K in
    let g : 0 < K = pow_pos b in
    let d : q * K + r ≡ m = split m b in
    let s : r < K = mod-lt m g in
    let w₀ : (32 - b) + b ≡ 32 = omega arith in
    let w : J * K ≡ 4294967296 = sym (pow-add 2 (32 - b) b) ∙ ap (λ (k : ℕ). 2 ^ k) w₀ in
    let t : q < J = (div-lt_iff_lt-mul g).1 (subst (λ (k : ℕ). m < k) (sym w) l) in
    let Q = J - suc q in
    let a : Q + (q + 1) ≡ J = omega (arith, t) in
    let e : (Q + (q + 1)) * K ≡ 4294967296 = ap (λ (k : ℕ). k * K) a ∙ w in
    let f : Q * K + (q * K + 1 * K) ≡ 4294967296 = simp add-mul at e in
    let u : 4294967296 - suc m ≡ Q * K + ((K - 1) - r) = omega (arith, f, d, s) in
    ap (λ (k : ℕ). k % K) u ∙ digits_mod Q (omega (arith, g))

keep_is : (b : ℕ) (x : ℤ) → b ≤ 32 → mag x < 2147483648 → of_z w32 x % 2 ^ b ≡ keep b x
unfolding keep
keep_is b (pos n) h f = refl
keep_is b (negsuc n) h f = wraps b n h (omega arith)

pub masked : (b : ℕ) (x : ℤ) → b ≤ 30 → SFits w32 x → to_z w32 (bit_and (of_z w32 x) (2 ^ b - 1)) ≡ pos (keep b x)
masked b x h f =
    let e : bit_and (of_z w32 x) (2 ^ b - 1) ≡ keep b x = and_mask (of_z w32 x) b ∙ keep_is b x (omega arith) f.sfits in
    let l : 2 ^ b ≤ 1073741824 = pow_mono {j = 30} h in
    rw e (to_z_pos w32 (keep b x) (omega (arith, keep_lt b x)))
