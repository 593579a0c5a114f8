-- The record that stays for record n, by a walk along the links. Assumes nothing.
use mathlib.Core.Path.{◌≡◌, sym, ◌∙◌}
use mathlib.Core.Bool.{true, false}
use mathlib.Core.List.{List}
use mathlib.Core.Logic.{⊎_elim}
use Prim.Native.Nat.{ℕ, ◌+◌, ◌≤◌, ◌<◌}
use native.Mathlib.Nat.{eq-or-lt_of_le}
use native.Mathlib.Omega.{arith}
use lib.ListN.{length, get_or, set}
use lib.Seq.{get_or-set_same, get_or-set_other}
use borrow.Author.Count.{below_none, below_more}
use borrow.Author.Tests.{lt-ltb, le-ltb}
use Rattle.laws.proofs.Firsts.{first_most}
use Rattle.store_clean.specs.Clean.{Repeats, repeats, first_of, goes}
use Rattle.store_clean.specs.Links.{Met}
use Rattle.store_clean.proofs.Repeating.{repeats_means, stays_first, first_repeated, no_earlier, repeats_through}
use Rattle.store_receipt.specs.Receipt.{Firsts}

pub first_below : (store : List ℕ) (n : ℕ) → first_of store n ≤ n
unfolding first_of
first_below store n = first_most (repeats store n) n

-- ---- what stays for a record stays for each that repeats it

repeats_both : {store : List ℕ} {n middle first : ℕ} → Repeats store n middle → Repeats store n first → Repeats store middle first
repeats_both a b =
    record {
      unrefused = a.earlier_unrefused;
      earlier_unrefused = b.earlier_unrefused;
      same_format = sym a.same_format ∙ b.same_format;
      unreserved = a.earlier_unreserved;
      earlier_unreserved = b.earlier_unreserved;
      same_bytes = sym a.same_bytes ∙ b.same_bytes;
    }

pub first_through : (store : List ℕ) (n e : ℕ) → e < n → Repeats store n e → first_of store n ≡ first_of store e
first_through store n e h p = omega (arith, low, high)
  where
    near : first_of store n ≤ e
    near = no_earlier store n e h p

    low : first_of store n ≤ first_of store e
    low =
        ⊎_elim (λ q. omega (arith, near, q))
        (λ l. no_earlier store n (first_of store e) (omega (arith, l)) (repeats_through p (first_repeated store e l)))
        (eq-or-lt_of_le (first_below store e))

    high : first_of store e ≤ first_of store n
    high =
        ⊎_elim (λ q. omega (arith, q, first_below store e))
        (λ l. no_earlier store e (first_of store n) l (repeats_both p (first_repeated store n (omega (arith, near)))))
        (eq-or-lt_of_le near)

-- ---- by the walk, and what is remembered of the record that it met

module _ {store : List ℕ} {n found : ℕ} (m : Met store n found) where
  pub stays_here : n ≤ found → (n ≡ first_of store n) × (n ≤ n)
  stays_here l = let f = stays_first store n (m.stays l) in (omega (arith, first_below store n), omega arith)

  pub as_remembered : {firsts : List ℕ} {first : ℕ} → Firsts store n firsts → found < n → first ≡ get_or firsts found 0
      → (first ≡ first_of store n) × (first ≤ n)
  as_remembered {firsts} {first} f l e =
      let q : first ≡ first_of store n = e ∙ f.first found l ∙ sym (first_through store n found l (repeats_means store n found (m.repeated l))) in
      (q, omega (arith, q, first_below store n))

-- ---- what is remembered

pub firsts_none : (store firsts : List ℕ) → Firsts store 0 firsts
firsts_none store firsts = record { first = below_none _ }

pub firsts_more : {store firsts : List ℕ} {n first : ℕ} → Firsts store n firsts → n < length firsts → first ≡ first_of store n
    → Firsts store (n + 1) (set firsts n first)
firsts_more {store} {firsts} {n} {first} f h e =
    record {
      first =
          below_more _ _ (λ k l. get_or-set_other firsts n k first 0 (λ x. omega arith) ∙ f.first k l)
          (get_or-set_same firsts n first 0 h ∙ e);
    }

-- ---- the code's test

module _ (store : List ℕ) (n first : ℕ) (e : first ≡ first_of store n) where
  pub first_goes : first < n → goes store n ≡ true
  unfolding goes
  first_goes h = lt-ltb (first_of store n) n (omega arith)

  pub first_stays : n ≤ first → goes store n ≡ false
  unfolding goes
  first_stays h = le-ltb (first_of store n) n (omega arith)
