-- Which check gives the record call its answer, and what a record that is not refused says of its store. Assumes nothing.
use mathlib.Core.Path.{◌≡◌, refl}
use mathlib.Core.Bool.{Bool, true, false, ◌&&◌}
use mathlib.Core.List.{List, [], ◌∷◌}
use Prim.Native.Nat.{ℕ, ◌+◌, ◌-◌, ◌*◌, ◌%◌, ◌≤◌, ◌<◌}
use native.Mathlib.Omega.{arith}
use lib.Dec.{eqb}
use lib.ListN.{length, get_or, take, drop, length-take, length-drop}
use lib.Pointwise.{pointwise}
use Rattle.std.proofs.lemmas.Grind.{common_steps}
use borrow.Author.Tests.{lt-ltb, le-ltb, eq-eqb, ne_eqb, ltb-true, ltb-false, eqb-true, eqb-false, not-false}
use Rattle.laws.specs.Pick.{both}
use Rattle.laws.proofs.Tests.{cases, both_true}
use Rattle.laws.proofs.Checks.{none_met}
use Rattle.bcn_spec.specs.Answers.{bad_format, long_store, uneven_store, spare_byte, no_record}
use Rattle.bcn_spec.specs.Bits.{block_size}
use Rattle.store_records.specs.Store.{record_size, store_limit, records_in, byte_of, format_of, spare_zero, block_of, record_checks, record_refusal, Unrefused}

-- the three bytes at a place are all zero
three_at : (bytes : List ℕ) (at : ℕ) → at + 3 ≤ length bytes → take 3 (drop at bytes) ≡ get_or bytes at 0 ∷ get_or bytes (at + 1) 0 ∷ get_or bytes (at + 2) 0 ∷ []
three_at bytes at h = grind (arith, common_steps)

three_tests : (a b c : Bool) → (a && (b && (c && true))) ≡ both a (both b c)
three_tests true true true = refl
three_tests true true false = refl
three_tests true false c = refl
three_tests false b c = refl

pub zeros_at : (store : List ℕ) (n : ℕ) → n < records_in store
    → pointwise eqb (take (n * record_size + 8 - (n * record_size + 5)) (drop (n * record_size + 5) store)) (0 ∷ 0 ∷ 0 ∷ []) ≡ spare_zero store n
zeros_at store n h =
    let size : n * record_size + 8 - (n * record_size + 5) ≡ 3 = omega arith in
    let six : n * record_size + 5 + 1 ≡ n * record_size + 6 = omega arith in
    let seven : n * record_size + 5 + 2 ≡ n * record_size + 7 = omega arith in
    rw (size, three_at store (n * record_size + 5) (omega arith), six, seven) (three_tests (eqb (byte_of store n 5) 0) (eqb (byte_of store n 6) 0) (eqb (byte_of store n 7) 0))

module _ (store : List ℕ) (n : ℕ) where
  pub long : store_limit < length store → record_refusal store n ≡ long_store
  unfolding record_refusal
  long h = rw (lt-ltb _ _ h)

  module _ (h : length store ≤ store_limit) where
    pub uneven : (length store % record_size ≡ 0 → ⊥) → record_refusal store n ≡ uneven_store
    unfolding record_refusal
    uneven w = rw (le-ltb _ _ h, ne_eqb _ _ w)

    module _ (w : length store % record_size ≡ 0) where
      pub past : records_in store ≤ n → record_refusal store n ≡ no_record
      unfolding record_refusal
      past l = rw (le-ltb _ _ h, eq-eqb _ _ w, le-ltb _ _ l)

      module _ (l : n < records_in store) where
        pub strange : 1 < format_of store n → record_refusal store n ≡ bad_format
        unfolding record_refusal
        strange f = rw (le-ltb _ _ h, eq-eqb _ _ w, lt-ltb _ _ l, lt-ltb _ _ f)

        module _ (f : format_of store n ≤ 1) where
          pub spare : spare_zero store n ≡ false → record_refusal store n ≡ spare_byte
          unfolding record_refusal
          spare z = rw (le-ltb _ _ h, eq-eqb _ _ w, lt-ltb _ _ l, le-ltb _ _ f, z)

          pub sound : spare_zero store n ≡ true → Unrefused store n
          unfolding record_refusal
          sound z = rw (le-ltb _ _ h, eq-eqb _ _ w, lt-ltb _ _ l, le-ltb _ _ f, z)

          pub good : byte_of store n 5 ≡ 0 → byte_of store n 6 ≡ 0 → byte_of store n 7 ≡ 0 → Unrefused store n
          good a b c = sound (rw (eq-eqb _ _ a, eq-eqb _ _ b, eq-eqb _ _ c))

pub record Known (store : List ℕ) (n : ℕ) : Type 0 where
  pub fits : length store ≤ store_limit
  pub whole : length store % record_size ≡ 0
  pub below : n < records_in store
  pub small : format_of store n ≤ 1

pub known : (store : List ℕ) (n : ℕ) → Unrefused store n → Known store n
unfolding record_refusal
known store n z =
    let none = none_met (record_checks store n) tt z in
    record {
      fits = ltb-false _ _ none.0;
      whole = eqb-true _ _ (not-false _ none.1.0);
      below = ltb-true _ _ (not-false _ none.1.1.0);
      small = ltb-false _ _ none.1.1.1.0;
    }

-- a record's block has sixteen bytes
pub block_length : {store : List ℕ} {n : ℕ} → Known store n → length (block_of store n) ≡ block_size
unfolding block_of
block_length k = simp (length-take, length-drop) (omega arith)

-- the three spare bytes of a record that is not refused are zero
spares : (store : List ℕ) (n : ℕ) → Unrefused store n → spare_zero store n ≡ true
unfolding record_refusal
spares store n z = not-false _ (none_met (record_checks store n) tt z).1.1.1.1.0

pub spare_is : (store : List ℕ) (n k : ℕ) → Unrefused store n → 5 ≤ k → k < 8 → byte_of store n k ≡ 0
spare_is store n k z l h =
    let a = both_true (eqb (byte_of store n 5) 0) _ (spares store n z) in
    let b = both_true (eqb (byte_of store n 6) 0) (eqb (byte_of store n 7) 0) a.1 in
    cases (eqb k 5) (λ t. let e : k ≡ 5 = eqb-true _ _ t in rw e (eqb-true _ _ a.0))
    (λ f. cases (eqb k 6) (λ t. let e : k ≡ 6 = eqb-true _ _ t in rw e (eqb-true _ _ b.0))
    (λ g. let e : k ≡ 7 = omega (arith, eqb-false k 5 f, eqb-false k 6 g) in rw e (eqb-true _ _ b.1)))
