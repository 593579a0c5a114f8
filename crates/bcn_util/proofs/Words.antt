-- Two words as one number, cut at bit n. Assumes nothing.
use mathlib.Core.Path.{◌≡◌, ◌∙◌, sym, ap, subst}
use Prim.Native.Nat.{ℕ, ◌+◌, ◌-◌, ◌*◌, ◌/◌, ◌%◌, ◌^◌, ◌<◌, ◌≤◌}
use native.Mathlib.Nat.{add-mul-mod_self_left, add-mul-div_left, mul_assoc, mul_comm, mul-mod_left, mul-div_left, mul-add, mod-lt, div-lt_iff_lt-mul, div-add-mod, div-eq_of_lt, one-mul, add-zero, zero-add, div-one}
use native.Mathlib.Omega.{arith}
use lib.Arith.{digits_lt, mod-mul}
use lib.Pow.{pow_pos, pow-add, shl_exact, shr-shr}
use lib.Dec.{lit<}

pub one_shl : (n : ℕ) → n ≤ 63 → (1 * 2 ^ n) % 2 ^ 64 ≡ 2 ^ n
one_shl n h = shl_exact {a = 1} 1 n 64 (lit< tt) (omega arith) ∙ one-mul (2 ^ n)

pub one_shl_32 : (n : ℕ) → n ≤ 31 → (1 * 2 ^ n) % 2 ^ 32 ≡ 2 ^ n
one_shl_32 n h = shl_exact {a = 1} 1 n 32 (lit< tt) (omega arith) ∙ one-mul (2 ^ n)

-- p is 2 ^ n, q is 2 ^ (64 - n), and w, their product, is 2 ^ 64
module _ (p q w lo hi : ℕ) (e : p * q ≡ w) (hp : 0 < p) (hq : 0 < q) where
  whole : w * hi ≡ p * (q * hi)
  whole = rw (← e) (mul_assoc p q hi)

  cut_bits : lo % p ≡ (lo + w * hi) % p
  cut_bits = rw whole (sym (add-mul-mod_self_left lo p (q * hi)))

  moved : (hi * q) % w ≡ (hi % p) * q
  moved =
      rw (← e)
      (mod-mul (hi * q) hp hq ∙ ap (λ (x : ℕ). (x % p) * q + hi * q % q) (mul-div_left hi hq)
      ∙ ap (λ (x : ℕ). (hi % p) * q + x) (mul-mod_left hi q) ∙ add-zero _)

  cut_fits : lo < w → lo / p + (hi * q) % w < w
  cut_fits h =
      let a : lo / p < q = (div-lt_iff_lt-mul hp).1 (subst (λ (x : ℕ). lo < x) (sym e ∙ mul_comm p q) h) in
      let b : (hi % p) * q + lo / p < p * q = digits_lt (mod-lt hi hp) a in
      omega (arith, moved, e)

  cut_rest : (lo / p + (hi * q) % w) + w * (hi / p) ≡ (lo + w * hi) / p
  cut_rest =
      let a : (lo + p * (q * hi)) / p ≡ lo / p + q * hi = add-mul-div_left lo (q * hi) hp in
      let b : q * (p * (hi / p) + hi % p) ≡ q * (p * (hi / p)) + q * (hi % p) = mul-add q (p * (hi / p)) (hi % p) in
      let d : w * (hi / p) ≡ q * (p * (hi / p)) = rw (← e, mul_comm p q) (mul_assoc q p (hi / p)) in
      rw (whole, a, moved, d) (omega (arith, b, ap (λ (x : ℕ). q * x) (div-add-mod hi p), mul_comm (hi % p) q))

cut : (n : ℕ) → n ≤ 63 → 2 ^ n * 2 ^ (64 - n) ≡ 2 ^ 64
cut n h =
    let k : n + (64 - n) ≡ 64 = omega arith in
    sym (pow-add 2 n (64 - n)) ∙ ap (λ (x : ℕ). 2 ^ x) k

module _ (lo hi n : ℕ) where
  pub skip_none : n ≡ 0 → lo + 2 ^ 64 * hi ≡ (lo + 2 ^ 64 * hi) / 2 ^ n
  skip_none e = sym (ap (λ (k : ℕ). (lo + 2 ^ 64 * hi) / 2 ^ k) e ∙ div-one _)

  module _ (h : n ≤ 63) where
    pub low_bits : lo % ((1 * 2 ^ n) % 2 ^ 64) ≡ (lo + 2 ^ 64 * hi) % 2 ^ n
    low_bits = ap (λ (x : ℕ). lo % x) (one_shl n h) ∙ cut_bits (2 ^ n) (2 ^ (64 - n)) (2 ^ 64) lo hi (cut n h) (pow_pos n) (pow_pos (64 - n))

    pub sum_fits : lo < 2 ^ 64 → lo / 2 ^ n + (hi * 2 ^ (64 - n)) % 2 ^ 64 < 2 ^ 64
    sum_fits = cut_fits (2 ^ n) (2 ^ (64 - n)) (2 ^ 64) lo hi (cut n h) (pow_pos n) (pow_pos (64 - n))

    pub shortened : (lo / 2 ^ n + (hi * 2 ^ (64 - n)) % 2 ^ 64) + 2 ^ 64 * (hi / 2 ^ n) ≡ (lo + 2 ^ 64 * hi) / 2 ^ n
    shortened = cut_rest (2 ^ n) (2 ^ (64 - n)) (2 ^ 64) lo hi (cut n h) (pow_pos n) (pow_pos (64 - n))

  pub from_high : lo < 2 ^ 64 → 64 ≤ n → hi / 2 ^ (n - 64) + 2 ^ 64 * 0 ≡ (lo + 2 ^ 64 * hi) / 2 ^ n
  from_high l h =
      let e : 64 + (n - 64) ≡ n = omega arith in
      let w : (lo + 2 ^ 64 * hi) / 2 ^ 64 ≡ hi = add-mul-div_left lo hi (pow_pos 64) ∙ ap (λ (x : ℕ). x + hi) (div-eq_of_lt l) ∙ zero-add hi in
      add-zero _ ∙ ap (λ (x : ℕ). x / 2 ^ (n - 64)) (sym w) ∙ shr-shr (lo + 2 ^ 64 * hi) 64 (n - 64) ∙ ap (λ (x : ℕ). (lo + 2 ^ 64 * hi) / 2 ^ x) e
