-- Laws of the links: how they are made, and that a walk along them passes by no record that is repeated. Assumes nothing.
use mathlib.Core.Path.{◌≡◌, refl, sym, ◌∙◌, ap, ap₂}
use mathlib.Core.Bool.{true, false}
use mathlib.Core.List.{List}
use mathlib.Core.Logic.{⊎_elim}
use Prim.Native.Nat.{ℕ, zero, suc, ◌+◌, ◌-◌, ◌/◌, ◌%◌, ◌≤◌, ◌<◌}
use native.Mathlib.Nat.{not-suc-le-zero, le_of_suc-le-suc, eq-or-lt_of_le}
use native.Mathlib.Numerals.{add-one}
use native.Mathlib.Omega.{arith}
use lib.Dec.{eqb, ltb}
use lib.ListN.{length, get_or, set, replicate, get_or-replicate}
use lib.Seq.{get_or-set_same, get_or-set_other}
use borrow.Author.Count.{below_none, below_more}
use borrow.Author.Tests.{eq-eqb, ne_eqb, eqb-true, eqb-false, ltb-true, ltb-false}
use Rattle.laws.proofs.Tests.{cases, both_true}
use Rattle.laws.proofs.Sameness.{true_false, not_so}
use Rattle.bcn_spec.specs.Bits.{block_size}
use Rattle.store_records.specs.Store.{records_in, format_of, block_of, Unrefused}
use Rattle.store_spec.specs.Shown.{Reserved, is_record}
use Rattle.store_spec.proofs.Shown.{is_record_lem, is_refused}
use Rattle.store_spec.specs.Scratch.{mixed_on}
use Rattle.store_clean.specs.Clean.{Repeats, repeats, first_of, goes}
use Rattle.store_clean.specs.Links.{bucket_count, block_mixed, bucket_of, bucket_at, is_of, last_of, Linked, Met}
use Rattle.store_clean.proofs.Repeating.{repeats_means, repeats_so, refused_stays, reserved_stays, goes_first, first_repeated, goes_by}

-- ---- the bucket

pub mixed_none : (format : ℕ) (block : List ℕ) (k : ℕ) → k ≡ format → k + 1 ≡ block_mixed format block 0
unfolding block_mixed
mixed_none format block k e = rw e

pub mixed_more : (format : ℕ) (block : List ℕ) (k mix on byte : ℕ) → mix ≡ block_mixed format block k → on ≡ mixed_on mix → byte ≡ get_or block k 0
    → on + byte ≡ block_mixed format block (k + 1)
unfolding block_mixed
mixed_more format block k mix on byte p o b = rw (add-one k, o, p, b)

pub bucket_is : (format : ℕ) (block : List ℕ) {mix : ℕ} → mix ≡ block_mixed format block block_size → mix / 0x1000000 % bucket_count ≡ bucket_of format block
unfolding bucket_of
bucket_is format block e = rw e

pub bucket_below : (format : ℕ) (block : List ℕ) → bucket_of format block < bucket_count
unfolding bucket_of
bucket_below format block = omega arith

-- ---- the last record of a bucket

module _ (store : List ℕ) (bucket : ℕ) where
  is_of_lem : (n : ℕ) → Unrefused store n → bucket_at store n ≡ bucket → is_of store bucket n ≡ true
  unfolding is_of
  is_of_lem n u e = rw (is_record_lem store n u, eq-eqb _ _ e)

  pub last_none : 0 ≡ last_of store bucket 0
  unfolding last_of
  last_none = refl

  pub last_here : (n : ℕ) → Unrefused store n → bucket_at store n ≡ bucket → n + 1 ≡ last_of store bucket (n + 1)
  unfolding last_of
  last_here n u e = rw (add-one n, is_of_lem n u e)

  last_passed : (n : ℕ) → is_of store bucket n ≡ false → last_of store bucket n ≡ last_of store bucket (n + 1)
  unfolding last_of
  last_passed n f = rw (add-one n, f)

  pub last_refused : (n : ℕ) → (Unrefused store n → ⊥) → last_of store bucket n ≡ last_of store bucket (n + 1)
  unfolding is_of
  last_refused n r = last_passed n (rw (is_refused store n r))

  pub last_other : (n : ℕ) → (bucket_at store n ≡ bucket → ⊥) → last_of store bucket n ≡ last_of store bucket (n + 1)
  unfolding is_of
  last_other n o = last_passed n (cases (is_record store n) (λ a. rw (a, ne_eqb _ _ o)) (λ a. rw a))

  pub last_most : (n : ℕ) → last_of store bucket n ≤ n
  unfolding last_of
  last_most zero = omega arith
  last_most (suc n) = cases (is_of store bucket n) (λ t. rw t (omega arith)) (λ f. rw f (omega (arith, last_most n)))

  -- it is of the bucket
  pub last_is : (n j : ℕ) → last_of store bucket n ≡ suc j → is_of store bucket j ≡ true
  unfolding last_of
  last_is zero j e = absurd (omega (arith, e))
  last_is (suc n) j e =
      cases (is_of store bucket n) (λ t. let q : n ≡ j = omega (arith, rw t at e) in rw q at t) (λ f. last_is n j (rw f at e))

  -- and none behind it is
  pub last_past : (n k : ℕ) → last_of store bucket n ≤ k → k < n → is_of store bucket k ≡ false
  unfolding last_of
  last_past zero k h l = absurd (not-suc-le-zero l)
  last_past (suc n) k h l =
      cases (is_of store bucket n) (λ t. absurd (omega (arith, l, rw t at h)))
      (λ f. ⊎_elim (λ q. rw q f) (λ s. last_past n k (rw f at h) s) (eq-or-lt_of_le (le_of_suc-le-suc l)))

-- ---- the links are made

pub record Linking (store : List ℕ) (n : ℕ) (heads links : List ℕ) : Type 0 where
  pub head : (bucket : ℕ) → bucket < bucket_count → get_or heads bucket 0 ≡ last_of store bucket n
  pub linked : Linked store n links

pub linking_none : (store links : List ℕ) → Linking store 0 (replicate bucket_count 0) links
linking_none store links = record {
  head = λ bucket h. get_or-replicate bucket_count bucket 0 0 h ∙ last_none store bucket;
  linked = record { link = below_none _ };
}

module _ {store : List ℕ} {n : ℕ} {heads links : List ℕ} (d : Linking store n heads links) where
  pub linking_refused : (Unrefused store n → ⊥) → Linking store (n + 1) heads links
  linking_refused r = record {
    head = λ bucket h. d.head bucket h ∙ last_refused store bucket n r;
    linked = record { link = below_more _ _ d.linked.link (λ u. absurd (r u)) };
  }

  pub linking_more : {bucket link next : ℕ} → n < length links → length heads ≡ bucket_count → Unrefused store n → bucket ≡ bucket_at store n
      → link ≡ get_or heads bucket 0 → next ≡ n + 1 → Linking store (n + 1) (set heads bucket next) (set links n link)
  linking_more {bucket} {link} {next} l size u e q m =
      let below : bucket < bucket_count = rw e (bucket_below (format_of store n) (block_of store n)) in
      record {
        head =
            λ b h. cases (eqb (bucket_at store n) b)
            (λ t. let same : bucket_at store n ≡ b = eqb-true _ _ t in
            let here : bucket ≡ b = e ∙ same in
            ap (λ (x : ℕ). get_or (set heads x next) b 0) here ∙ get_or-set_same heads b next 0 (omega arith) ∙ m ∙ last_here store b n u same)
            (λ f. let other = eqb-false _ _ f in
            get_or-set_other heads bucket b next 0 (λ x. other (sym e ∙ sym x)) ∙ d.head b h ∙ last_other store b n other);
        linked =
            record {
              link =
                  below_more _ _ (λ k h v. get_or-set_other links n k link 0 (λ x. omega arith) ∙ d.linked.link k h v)
                  (λ v. get_or-set_same links n link 0 l ∙ q ∙ d.head bucket below ∙ ap (λ (x : ℕ). last_of store x n) e);
            };
      }

-- ---- a walk along them

-- a record that stays is its own answer
met_stays : (store : List ℕ) (n : ℕ) → goes store n ≡ false → Met store n n
met_stays store n f = record { within = omega arith; repeated = λ l. absurd (omega arith); stays = λ _. f }

pub met_refused : (store : List ℕ) (n : ℕ) → (Unrefused store n → ⊥) → Met store n n
met_refused store n r = met_stays store n (sym (refused_stays store n r))

pub met_reserved : (store : List ℕ) (n : ℕ) → Reserved store n → Met store n n
met_reserved store n z = met_stays store n (sym (reserved_stays store n z))

-- where record n's walk stands at `at`, no record from there on is repeated by it
pub record Passed (store : List ℕ) (n at : ℕ) : Type 0 where
  pub below : ℕ
  pub within : below ≤ n
  pub stands : at ≡ last_of store (bucket_at store n) below
  pub none : (k : ℕ) → at ≤ k → k < n → repeats store n k ≡ false

-- a record that is repeated is of the same bucket
same_bucket : {store : List ℕ} {n k : ℕ} → Repeats store n k → is_of store (bucket_at store n) k ≡ true
same_bucket {store} {n} {k} p =
    is_of_lem store (bucket_at store n) k p.earlier_unrefused (ap₂ bucket_of (sym p.same_format) (sym p.same_bytes))

unrepeated : (store : List ℕ) (n k : ℕ) → is_of store (bucket_at store n) k ≡ false → repeats store n k ≡ false
unrepeated store n k f = not_so _ (λ t. true_false (sym (same_bucket (repeats_means store n k t)) ∙ f))

module _ {store links : List ℕ} (d : Linked store (records_in store) links) (n : ℕ) (h : n < records_in store) where
  pub passed_none : {at : ℕ} → Unrefused store n → at ≡ get_or links n 0 → Passed store n at
  passed_none {at} u e =
      let s : at ≡ last_of store (bucket_at store n) n = e ∙ d.link n h u in
      record {
        below = n;
        within = omega arith;
        stands = s;
        none = λ k l m. unrepeated store n k (last_past store (bucket_at store n) n k (rw s at l) m);
      }

  -- the record that it stands at is an earlier one, and the next is told by its link
  module _ {at : ℕ} (p : Passed store n at) (some : 0 < at) where
    stood : at - 1 + 1 ≡ at
    stood = omega arith

    is_here : is_of store (bucket_at store n) (at - 1) ≡ true
    is_here = last_is store (bucket_at store n) p.below (at - 1) (sym p.stands ∙ sym stood ∙ add-one (at - 1))

    pub earlier : at - 1 < n
    earlier = omega (arith, p.stands, p.within, last_most store (bucket_at store n) p.below)

    next_is : {next : ℕ} → next ≡ get_or links (at - 1) 0 → next ≡ last_of store (bucket_at store n) (at - 1)
    unfolding is_of
    next_is e =
        let b = both_true (is_record store (at - 1)) _ is_here in
        let u : Unrefused store (at - 1) = eqb-true _ _ b.0 in
        let q : bucket_at store (at - 1) ≡ bucket_at store n = eqb-true _ _ b.1 in
        e ∙ d.link (at - 1) (omega (arith, h, earlier)) u ∙ ap (λ (x : ℕ). last_of store x (at - 1)) q

    pub next_less : {next : ℕ} → next ≡ get_or links (at - 1) 0 → next < at
    next_less e = omega (arith, next_is e, last_most store (bucket_at store n) (at - 1))

    pub passed_more : {next : ℕ} → next ≡ get_or links (at - 1) 0 → repeats store n (at - 1) ≡ false → Passed store n next
    passed_more {next} e f =
        let s = next_is e in
        record {
          below = at - 1;
          within = omega (arith, earlier);
          stands = s;
          none =
              λ k l m. cases (ltb k (at - 1))
              (λ t. unrepeated store n k (last_past store (bucket_at store n) (at - 1) k (rw s at l) (ltb-true _ _ t)))
              (λ g. ⊎_elim (λ q. rw q at f) (λ o. p.none k (omega arith) m) (eq-or-lt_of_le (ltb-false k (at - 1) g)));
        }

  walked : {at : ℕ} → Passed store n at → at ≤ 0 → goes store n ≡ false
  walked {at} p z =
      not_so _
      (λ t. let l = goes_first store n t in
      true_false (sym (repeats_so store n (first_of store n) (first_repeated store n l)) ∙ p.none (first_of store n) (omega arith) l))

  pub met_none : {at : ℕ} → Passed store n at → at ≤ 0 → Met store n n
  met_none p z = met_stays store n (walked p z)

  pub met_here : {at : ℕ} → Passed store n at → 0 < at → repeats store n (at - 1) ≡ true → Met store n (at - 1)
  met_here p some t = let l = earlier p some in record { within = omega arith; repeated = λ _. t; stays = λ w. absurd (omega arith) }

-- ---- what it finds

pub met_goes : {store : List ℕ} {n found : ℕ} → Met store n found → found < n → goes store n ≡ true
met_goes {store} {n} {found} m l = goes_by store n found l (repeats_means store n found (m.repeated l))
