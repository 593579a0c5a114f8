-- A field record as numbers and back, from what the code works out. Assumes nothing.
use mathlib.Core.Path.{◌≡◌, refl}
use mathlib.Core.List.{List}
use Prim.Native.Nat.{ℕ, ◌+◌, ◌-◌, ◌≤◌, ◌<◌}
use lib.ListN.{length, get_or}
use borrow.Author.Tests.{lt-ltb, le-ltb, eq-eqb, ne_eqb}
use Rattle.laws.specs.Made.{made}
use Rattle.bc6h_spec.specs.declared.Fields.{Fields}
use Rattle.bc6h_spec.specs.Fields.{no_fields}
use Rattle.bc6_numbers.specs.Numbers.{number_count, number_at, byte_from, endpoint_from, index_from, fields_from}

-- ---- the numbers of a record

module _ (f : Fields) (k : ℕ) where
  pub at_format : k < 1 → f.format ≡ number_at f k
  unfolding number_at
  at_format a = rw (lt-ltb _ _ a)

  module _ (a : 1 ≤ k) where
    pub at_mode : k < 2 → f.mode ≡ number_at f k
    unfolding number_at
    at_mode b = rw (le-ltb _ _ a, lt-ltb _ _ b)

    module _ (b : 2 ≤ k) where
      pub at_endpoint : k < 14 → get_or f.endpoints (k - 2) 0 ≡ number_at f k
      unfolding number_at
      at_endpoint c = rw (le-ltb _ _ a, le-ltb _ _ b, lt-ltb _ _ c)

      module _ (c : 14 ≤ k) where
        pub at_partition : k < 15 → f.partition ≡ number_at f k
        unfolding number_at
        at_partition d = rw (le-ltb _ _ a, le-ltb _ _ b, le-ltb _ _ c, lt-ltb _ _ d)

        module _ (d : 15 ≤ k) where
          pub at_region1 : k < 16 → f.region1 ≡ number_at f k
          unfolding number_at
          at_region1 g = rw (le-ltb _ _ a, le-ltb _ _ b, le-ltb _ _ c, le-ltb _ _ d, lt-ltb _ _ g)

          pub at_index : 16 ≤ k → get_or f.indices (k - 16) 0 ≡ number_at f k
          unfolding number_at
          at_index g = rw (le-ltb _ _ a, le-ltb _ _ b, le-ltb _ _ c, le-ltb _ _ d, le-ltb _ _ g)

-- ---- the record of numbers

pub small_number : (number : ℕ) → number < 255 → number ≡ byte_from number
unfolding byte_from
small_number number h = rw (lt-ltb number 255 h) refl

pub large_number : (number : ℕ) → 255 ≤ number → 255 ≡ byte_from number
unfolding byte_from
large_number number h = rw (le-ltb number 255 h) refl

pub index_given : (numbers : List ℕ) (k : ℕ) {r : ℕ} → r ≡ byte_from (get_or numbers (k + 16) 0) → r ≡ index_from numbers k
unfolding index_from
index_given numbers k e = e

module _ (numbers : List ℕ) where
  pub no_record : {f : Fields} → (length numbers ≡ number_count → ⊥) → f ≡ no_fields → f ≡ fields_from numbers
  unfolding fields_from
  no_record n e = rw (ne_eqb (length numbers) number_count n) e

  pub a_record : length numbers ≡ number_count → {format mode partition region1 : ℕ} {endpoints indices : List ℕ}
      → format ≡ byte_from (get_or numbers 0 0) → mode ≡ byte_from (get_or numbers 1 0) → endpoints ≡ made (endpoint_from numbers) 12
      → partition ≡ byte_from (get_or numbers 14 0) → region1 ≡ byte_from (get_or numbers 15 0) → indices ≡ made (index_from numbers) 16
      → record { format = format; mode = mode; endpoints = endpoints; partition = partition; region1 = region1; indices = indices } ≡ fields_from numbers
  unfolding fields_from
  a_record l ef em ee ep er ei = rw (eq-eqb (length numbers) number_count l, ef, em, ee, ep, er, ei) refl
