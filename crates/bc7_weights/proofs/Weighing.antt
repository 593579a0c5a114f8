-- The steps of `weigh`, one law each, for every index width. Assumes nothing.
use mathlib.Core.Path.{◌≡◌, ◌∙◌, sym, ap, subst}
use mathlib.Core.Bool.{Bool}
use mathlib.Core.List.{List}
use Prim.Native.Nat.{ℕ, ◌+◌, ◌-◌, ◌*◌, ◌/◌, ◌%◌, ◌^◌, ◌<◌, ◌≤◌}
use native.Mathlib.Nat.{mul-le-mul, mul-add, zero-add}
use native.Mathlib.Omega.{arith}
use lib.Dec.{T, eqb, ltb, eqb→eq, ltb→lt}
use lib.Pow.{shr-shr}
use borrow.Author.Tests.{ltb-true, ltb-false, lt-ltb, le-ltb}
use Rattle.laws.specs.Pick.{pick, both}
use Rattle.laws.specs.Every.{below}
use Rattle.laws.specs.Made.{made}
use Rattle.laws.specs.Packed.{before, unpacked}
use Rattle.laws.proofs.Opening.{unpacked_low}
use Rattle.laws.proofs.Rows.{made-same}
use Rattle.laws.proofs.Tests.{both_left, both_right, below_at, cases}
use Rattle.bcn_util.specs.declared.Indexes.{Indexes}
use Rattle.bcn_util.specs.Indexed.{indexes_of}
use Rattle.bcn_util.proofs.Indexing.{Rising, index_read}
use Rattle.bc7_spec.specs.Fields.{field_in}
use Rattle.bc7_spec.specs.Bytes.{weight_of}
use Rattle.bc7_weights.specs.Weighed.{factor_of, weighed, Weighed, weight_by, WeighedBy}

-- ---- the weight of an index: computed once, over the three widths

abbrev right? : ℕ → ℕ → Bool
right? bits i = both (eqb ((factor_of bits * i + 4) / 8) (weight_of bits i)) (both (ltb (weight_of bits i) 65) (ltb (factor_of bits * i + 4) 600))

all : T (below (λ t. below (right? (t + 2)) (2 ^ (t + 2))) 3)
unfolding weight_of
all = tt

pub record Right (bits i : ℕ) : Type 0 where
  pub is : (factor_of bits * i + 4) / 8 ≡ weight_of bits i
  pub light : weight_of bits i < 65
  pub short : factor_of bits * i + 4 < 600

pub right : (bits i : ℕ) → 2 ≤ bits → bits ≤ 4 → i < 2 ^ bits → Right bits i
right bits i low high h =
    let back : bits - 2 + 2 ≡ bits = omega arith in
    let t = below_at (λ t. below (right? (t + 2)) (2 ^ (t + 2))) 3 (bits - 2) all (omega arith) in
    let t0 = below_at (right? bits) (2 ^ bits) i (subst (λ (b : ℕ). T (below (right? b) (2 ^ b))) back t) h in
    let t1 = both_right (eqb ((factor_of bits * i + 4) / 8) (weight_of bits i)) _ t0 in
    record {
      is = eqb→eq _ _ (both_left (eqb ((factor_of bits * i + 4) / 8) (weight_of bits i)) _ t0);
      light = ltb→lt _ _ (both_left (ltb (weight_of bits i) 65) _ t1);
      short = ltb→lt _ _ (both_right (ltb (weight_of bits i) 65) _ t1);
    }

-- ---- eight indexes at a time

pub start_le : (bits k : ℕ) → bits ≤ 4 → k < 8 → bits * k ≤ 28
start_le bits k b h = mul-le-mul b (let l : k ≤ 7 = omega arith in l)

-- a field that lies in the low t bits
cut : (n t a b : ℕ) → a + b ≤ t → n % 2 ^ t / 2 ^ a % 2 ^ b ≡ n / 2 ^ a % 2 ^ b
unfolding before unpacked
cut n t a b h = rw (zero-add a) at (unpacked_low (λ k. pick (eqb k 0) a b) n t 1 (rw (zero-add a) h))

module _ (bits word : ℕ) where
  pub low_field : (k : ℕ) → k < 8 → field_in bits (word % 2 ^ (8 * bits)) k ≡ field_in bits word k
  low_field k h =
      let s : bits * (k + 1) ≤ bits * 8 = mul-le-mul (let l : bits ≤ bits = omega arith in l) (let l : k + 1 ≤ 8 = omega arith in l) in
      cut word (8 * bits) (bits * k) bits (omega (arith, s, mul-add bits k 1))

  pub high_field : (k : ℕ) → k < 8 → field_in bits (word / 2 ^ (8 * bits) % 2 ^ (8 * bits)) k ≡ field_in bits word (8 + k)
  high_field k h =
      let s : bits * (k + 1) ≤ bits * 8 = mul-le-mul (let l : bits ≤ bits = omega arith in l) (let l : k + 1 ≤ 8 = omega arith in l) in
      let e : 8 * bits + bits * k ≡ bits * (8 + k) = omega (arith, mul-add bits 8 k) in
      cut (word / 2 ^ (8 * bits)) (8 * bits) (bits * k) bits (omega (arith, s, mul-add bits k 1))
      ∙ ap (λ (x : ℕ). x % 2 ^ bits) (shr-shr word (8 * bits) (bits * k) ∙ ap (λ (x : ℕ). word / 2 ^ x) e)

-- ---- the sixteen weights, as the loops make them

-- weight k, from the two words
unfoldable pub side : ℕ → ℕ → ℕ → ℕ → ℕ
side bits low high k = weight_of bits (pick (ltb k 8) (field_in bits low k) (field_in bits high (k - 8)))

module _ (bits low high k : ℕ) where
  pub side_low : k < 8 → weight_of bits (field_in bits low k) ≡ side bits low high k
  unfolding side
  side_low h = sym (ap (λ (t : Bool). weight_of bits (pick t (field_in bits low k) (field_in bits high (k - 8)))) (lt-ltb _ _ h))

  pub side_high : weight_of bits (field_in bits high k) ≡ side bits low high (k + 8)
  unfolding side
  side_high =
      let n : 8 ≤ k + 8 = omega arith in
      let e : k + 8 - 8 ≡ k = omega arith in
      sym
      (ap (λ (t : Bool). weight_of bits (pick t (field_in bits low (k + 8)) (field_in bits high (k + 8 - 8)))) (le-ltb _ _ n)
      ∙ ap (λ (j : ℕ). weight_of bits (field_in bits high j)) e)

-- they are those of the indexes
pub side_is : (x : Indexes) (low high k : ℕ) → low ≡ x.uncompressed % 2 ^ (8 * x.bits) → high ≡ x.uncompressed / 2 ^ (8 * x.bits) % 2 ^ (8 * x.bits) → k < 16
    → side x.bits low high k ≡ weighed x k
unfolding side weighed
side_is x low high k el eh h =
    cases (ltb k 8)
    (λ t. rw (t, el) (ap (weight_of x.bits) (low_field x.bits x.uncompressed k (ltb-true _ _ t))))
    (λ t.
    let g : 8 ≤ k = ltb-false _ _ t in
    let e : 8 + (k - 8) ≡ k = omega arith in
    rw (t, eh)
    (ap (weight_of x.bits) (high_field x.bits x.uncompressed (k - 8) (omega arith) ∙ ap (field_in x.bits x.uncompressed) e)))

-- ---- an index set, whatever its width and its fix-up pixels: the one fact on index expansion

pub weighed_by : (bits : ℕ) (xs : List ℕ) (rest q : ℕ) (x : Indexes) (weights : List ℕ) → 1 ≤ bits → Rising 0 16 xs → rest ≡ q
    → x ≡ indexes_of bits xs rest → Weighed x weights → WeighedBy bits xs q weights
unfolding weighed weight_by
weighed_by bits xs rest q x weights positive r er ex h =
    record {
      is =
          h.is ∙ ap (λ (y : Indexes). made (weighed y) 16) (ex ∙ ap (indexes_of bits xs) er)
          ∙ made-same (weighed (indexes_of bits xs q)) (weight_by bits xs q) 16 (λ k l. ap (weight_of bits) (index_read bits positive xs r q k l));
      small = h.small;
    }
