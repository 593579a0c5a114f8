-- The steps of `Indexes`, one law each. Assumes nothing.
use mathlib.Core.Path.{◌≡◌, sym, ap, subst}
use Prim.Native.Nat.{ℕ, ◌+◌, ◌-◌, ◌*◌, ◌/◌, ◌%◌, ◌^◌, ◌<◌, ◌≤◌}
use native.Mathlib.Nat.{mul-le-mul, mod-lt, mod-eq_of_lt, lt_of_lt_of_le}
use native.Mathlib.Omega.{arith}
use lib.Pow.{pow_pos, pow-add, pow_mono, split}
use Rattle.laws.specs.Packed.{opened}
use Rattle.laws.proofs.Opening.{opened_le}
use Rattle.bcn_util.proofs.Words.{one_shl}

-- where an index starts, and where its top bit stands, in a word
pub start_le : (bits index : ℕ) → bits ≤ 4 → index ≤ 15 → bits * index ≤ 60
start_le bits index b i = mul-le-mul b i

pub top_le : (bits index : ℕ) → bits ≤ 4 → index ≤ 15 → bits * index + (bits - 1) ≤ 63
top_le bits index b i = omega (arith, start_le bits index b i)

module _ (n top : ℕ) (h : n < 2 ^ 63) where
  kept : (n / 2 ^ top * 2 ^ top) % 2 ^ 64 ≡ n / 2 ^ top * 2 ^ top
  kept = mod-eq_of_lt (let l : n / 2 ^ top * 2 ^ top < 2 ^ 64 = omega (arith, split n top) in l)

  pub opens : n + (n / 2 ^ top * 2 ^ top) % 2 ^ 64 ≡ opened top n
  unfolding opened
  opens = ap (λ (x : ℕ). n + x) kept

  pub opens_fits : n + (n / 2 ^ top * 2 ^ top) % 2 ^ 64 < 2 ^ 64
  opens_fits = subst (λ (x : ℕ). x < 2 ^ 64) (sym opens) (let l : opened top n < 2 ^ 64 = omega (arith, opened_le top n) in l)

-- b has t bits
pub record FewBits (t b : ℕ) : Type 0 where
  pub below : b < 2 ^ t

-- each top bit that is put in adds one: so what was read stays below 2 ^ 63
pub opened_fits : {t b : ℕ} (top x : ℕ) → FewBits t b → x ≡ opened top b → FewBits (t + 1) x
opened_fits {t} {b} top x h o =
    let e : 2 ^ (t + 1) ≡ 2 ^ t * 2 = pow-add 2 t 1 in
    let l : x < 2 ^ (t + 1) = omega (arith, opened_le top b, o, h.below) in
    record { below = l }

-- an index fits a byte
pub index_fits : (x bits : ℕ) → bits ≤ 4 → x % ((1 * 2 ^ bits) % 2 ^ 64) < 256
index_fits x bits h =
    subst (λ (y : ℕ). x % y < 256) (sym (one_shl bits (omega arith)))
    (lt_of_lt_of_le (mod-lt x (pow_pos bits)) (pow_mono {i = bits} {j = 8} (omega arith)))
