-- Unquantising is one staircase in both formats: N steps over 0 to 2T − 1, where N h is T. Neighbouring steps are at least 2h apart.
-- Unsigned T is 32768 and N is 2 ^ p, signed T is 16384 and N is 2 ^ (p − 1); h is 2 ^ (15 − p) in both. Assumes nothing.
use mathlib.Core.Path.{◌≡◌, sym, ap, ◌∙◌}
use Prim.Native.Nat.{ℕ, suc, ◌+◌, ◌-◌, ◌*◌, ◌/◌, ◌^◌, ◌≤◌, ◌<◌}
use native.Mathlib.Nat.{mul-le-mul_left, mul-div_cancel}
use native.Mathlib.Omega.{arith}
use lib.Dec.{leb, eqb}
use lib.Pow.{pow_pos, pow_mono, pow-add}
use borrow.Author.Tests.{lt-leb, le-leb, ne_eqb, eqb-true, eqb-false}
use Rattle.laws.proofs.Tests.{cases}
use Rattle.laws.specs.Pick.{pick}
use Rattle.bc6h_spec.specs.Half.{unquantize_u, unquantize_m}

-- ---- the staircase

abbrev stair : ℕ → ℕ → ℕ → ℕ
stair T N c = pick (eqb c 0) 0 (pick (leb (N - 1) c) (2 * T - 1) ((2 * T * c + T) / N))

module _ (T N h : ℕ) (pos-N : 0 < N) (whole : N * h ≡ T) (large : 8 ≤ h) where
  middle : (c : ℕ) → (2 * T * c + T) / N ≡ h * (2 * c + 1)
  middle c = ap (λ (x : ℕ). x / N) e ∙ mul-div_cancel (h * (2 * c + 1)) pos-N
    where
      e : 2 * T * c + T ≡ h * (2 * c + 1) * N
      e = omega (arith, whole, ap (λ (x : ℕ). x * c) whole)

  stair_le : (c : ℕ) → suc c < N → stair T N c ≤ h * (2 * c + 1)
  stair_le c l = cases (eqb c 0) (λ e. rw e (omega arith)) (λ e. rw (e, lt-leb (N - 1) c (omega arith), middle c) (omega arith))

  stair_ge : (c : ℕ) → 0 < c → c < N → h * (2 * c + 1) ≤ stair T N c
  stair_ge c z l =
      cases (leb (N - 1) c) (λ e. rw (ne_eqb c 0 (omega arith), e) (omega (arith, whole, mul-le-mul_left h l)))
      (λ e. rw (ne_eqb c 0 (omega arith), e, middle c) (omega arith))

  stair_gap : (a b : ℕ) → a < b → b < N → stair T N a + 16 ≤ stair T N b
  stair_gap a b l m = omega (arith, stair_le a (omega arith), stair_ge b (omega arith) m, mul-le-mul_left h l)

-- ---- the two formats

size : (p : ℕ) → p ≤ 12 → 2 ^ p * 2 ^ (15 - p) ≡ 32768
size p h = let e : p + (15 - p) ≡ 15 = omega arith in sym (pow-add 2 p (15 - p)) ∙ ap (λ (k : ℕ). 2 ^ k) e

half_size : (p : ℕ) → 1 ≤ p → p ≤ 12 → 2 ^ (p - 1) * 2 ^ (15 - p) ≡ 16384
half_size p l h = let e : (p - 1) + (15 - p) ≡ 14 = omega arith in sym (pow-add 2 (p - 1) (15 - p)) ∙ ap (λ (k : ℕ). 2 ^ k) e

large : (p : ℕ) → p ≤ 12 → 8 ≤ 2 ^ (15 - p)
large p h = pow_mono {i = 3} {j = 15 - p} (omega arith)

unsigned_stair : (p : ℕ) → p ≤ 12 → (c : ℕ) → c < 2 ^ p → unquantize_u p c ≡ stair 32768 (2 ^ p) c
unfolding unquantize_u
unsigned_stair p h c l =
    cases (eqb c (2 ^ p - 1)) (λ e. rw (lt-leb 15 p (omega arith), e, le-leb (2 ^ p - 1) c (omega (arith, eqb-true c (2 ^ p - 1) e))))
    (λ e. rw (lt-leb 15 p (omega arith), e, lt-leb (2 ^ p - 1) c (omega (arith, eqb-false c (2 ^ p - 1) e))))

pub unsigned_gap : (p : ℕ) → p ≤ 12 → (a b : ℕ) → a < b → b < 2 ^ p → unquantize_u p a + 16 ≤ unquantize_u p b
unsigned_gap p h a b l m =
    rw (unsigned_stair p h a (omega arith), unsigned_stair p h b m)
    (stair_gap 32768 (2 ^ p) (2 ^ (15 - p)) (pow_pos p) (size p h) (large p h) a b l m)

pub signed_gap : (p : ℕ) → 1 ≤ p → p ≤ 12 → (a b : ℕ) → a < b → b < 2 ^ (p - 1) → unquantize_m p a + 16 ≤ unquantize_m p b
unfolding unquantize_m
signed_gap p o h a b l m = stair_gap 16384 (2 ^ (p - 1)) (2 ^ (15 - p)) (pow_pos (p - 1)) (half_size p o h) (large p h) a b l m
