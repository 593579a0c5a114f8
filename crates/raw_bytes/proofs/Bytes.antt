-- Laws of the number that bytes make. Assumes nothing.
use mathlib.Core.Path.{◌≡◌, refl, sym, ◌∙◌, ap, ap₂}
use mathlib.Core.List.{List}
use Prim.Native.Nat.{ℕ, zero, suc, ◌+◌, ◌*◌, ◌/◌, ◌%◌, ◌^◌, ◌<◌}
use native.Mathlib.Nat.{add-zero, add_comm, mul_comm, div-one, mod-one, mod-eq_of_lt, pow-suc, one-le-pow}
use native.Mathlib.Omega.{arith}
use lib.Dec.{lit<}
use lib.Arith.{mod-mul}
use lib.ListN.{get_or}
use Rattle.raw_bytes.specs.Bytes.{low_first}

-- two, four and eight bytes, as a reader adds them
module _ (bytes : List ℕ) (at : ℕ) where
  pub two_bytes : get_or bytes at 0 + get_or bytes (at + 1) 0 * 0x100 ≡ low_first bytes at 2
  unfolding low_first
  two_bytes = rw (add-zero at) (omega arith)

  pub four_bytes : get_or bytes at 0 + get_or bytes (at + 1) 0 * 0x100 + get_or bytes (at + 2) 0 * 0x10000 + get_or bytes (at + 3) 0 * 0x1000000
      ≡ low_first bytes at 4
  unfolding low_first
  four_bytes = rw (add-zero at) (omega arith)

  pub eight_bytes : get_or bytes at 0 + get_or bytes (at + 1) 0 * 0x100 + get_or bytes (at + 2) 0 * 0x10000 + get_or bytes (at + 3) 0 * 0x1000000
      + get_or bytes (at + 4) 0 * 0x100000000 + get_or bytes (at + 5) 0 * 0x10000000000 + get_or bytes (at + 6) 0 * 0x1000000000000
      + get_or bytes (at + 7) 0 * 0x100000000000000 ≡ low_first bytes at 8
  unfolding low_first
  eight_bytes = rw (add-zero at) (omega arith)

-- equal bytes make equal numbers
pub bytes_same : (a b : List ℕ) (i j count : ℕ) → ((k : ℕ) → k < count → get_or a (i + k) 0 ≡ get_or b (j + k) 0) → low_first a i count ≡ low_first b j count
unfolding low_first
bytes_same a b i j zero e = refl
bytes_same a b i j (suc count) e =
    rw (e count (omega arith)) (ap (λ (x : ℕ). x + get_or b (j + count) 0 * 256 ^ count) (bytes_same a b i j count (λ k l. e k (omega arith))))

-- the bytes of a number make the number
pub number_back : (bytes : List ℕ) (at n count : ℕ) → ((k : ℕ) → k < count → get_or bytes (at + k) 0 ≡ n / 256 ^ k % 256) → low_first bytes at count ≡ n % 256 ^ count
unfolding low_first
number_back bytes at n zero e = sym (mod-one n)
number_back bytes at n (suc count) e =
    ap₂ (λ (x y : ℕ). x + y * 256 ^ count) (number_back bytes at n count (λ k l. e k (omega arith))) (e count (omega arith))
    ∙ add_comm (n % 256 ^ count) (n / 256 ^ count % 256 * 256 ^ count)
    ∙ sym (ap (λ (x : ℕ). n % x) (pow-suc 256 count ∙ mul_comm (256 ^ count) 256) ∙ mod-mul n (lit< tt) (one-le-pow count 256 (lit< tt)))

pub four_back : (bytes : List ℕ) (at n : ℕ) → n < 0x100000000 → get_or bytes (at + 0) 0 ≡ n % 0x100 → get_or bytes (at + 1) 0 ≡ n / 0x100 % 0x100
    → get_or bytes (at + 2) 0 ≡ n / 0x10000 % 0x100 → get_or bytes (at + 3) 0 ≡ n / 0x1000000 % 0x100 → low_first bytes at 4 ≡ n
four_back bytes at n l a b c d = number_back bytes at n 4 each ∙ mod-eq_of_lt l
  where
    each : (k : ℕ) → k < 4 → get_or bytes (at + k) 0 ≡ n / 256 ^ k % 256
    each zero h = a ∙ ap (λ (x : ℕ). x % 256) (sym (div-one n))
    each (suc zero) h = b
    each (suc (suc zero)) h = c
    each (suc (suc (suc zero))) h = d
    each (suc (suc (suc (suc k)))) h = absurd (omega (arith, h))
