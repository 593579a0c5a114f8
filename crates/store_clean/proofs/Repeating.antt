-- Laws of `repeats` and `goes`: what each test gives, and that the computing definitions are what the words say. Assumes nothing.
use mathlib.Core.Path.{◌≡◌, refl, sym, ◌∙◌, ap, ap₂}
use mathlib.Core.Bool.{Bool, true, false, not}
use mathlib.Core.List.{List}
use Prim.Native.Nat.{ℕ, ◌≤◌, ◌<◌}
use native.Mathlib.Omega.{arith}
use lib.Dec.{eqb}
use borrow.Author.Tests.{not-true, eq-eqb, ne_eqb, eqb-true, eqb-false, lt-ltb, le-ltb, ltb-true, ltb-false}
use Rattle.laws.specs.Every.{same}
use Rattle.laws.proofs.Tests.{both_true}
use Rattle.laws.proofs.Firsts.{first_passes, first_least, first_never}
use Rattle.laws.proofs.Sameness.{not_so, same_so, same_means}
use Rattle.bc6h_spec.specs.Fields.{mode_of}
use Rattle.store_records.specs.Store.{format_of, block_of, record_refusal, Unrefused, part_at}
use Rattle.store_records.proofs.Readings.{part_of}
use Rattle.store_spec.specs.Shown.{Reserved, is_record, is_reserved}
use Rattle.store_spec.proofs.Shown.{is_record_lem, is_refused}
use Rattle.store_clean.specs.Clean.{Repeats, repeats, first_of, goes, Goes}

-- ---- one test after the other

module _ (store : List ℕ) (n earlier : ℕ) where
  pub repeats_refused : (Unrefused store n → ⊥) → repeats store n earlier ≡ false
  unfolding repeats
  repeats_refused r = rw (is_refused store n r)

  module _ (u : Unrefused store n) where
    pub other_refused : (Unrefused store earlier → ⊥) → repeats store n earlier ≡ false
    unfolding repeats
    other_refused r = rw (is_record_lem store n u, is_refused store earlier r)

    module _ (v : Unrefused store earlier) {f g : ℕ} (ef : f ≡ format_of store n) (eg : g ≡ format_of store earlier) where
      pub two_formats : (f ≡ g → ⊥) → repeats store n earlier ≡ false
      unfolding repeats
      two_formats d = rw (is_record_lem store n u, is_record_lem store earlier v, ne_eqb (format_of store n) (format_of store earlier) (λ e. d (ef ∙ e ∙ sym eg)))

      pub same_blocks : f ≡ g → (Reserved store n → ⊥) → {r : Bool} {x y : List ℕ} → x ≡ part_at (record_refusal store n) store n
          → y ≡ part_at (record_refusal store earlier) store earlier → r ≡ same x y → r ≡ repeats store n earlier
      unfolding repeats
      same_blocks d z ex ey e =
          e ∙ ap₂ same (ex ∙ part_of store n u) (ey ∙ part_of store earlier v)
          ∙ rw (
            is_record_lem store n u,
            is_record_lem store earlier v,
            eq-eqb (format_of store n) (format_of store earlier) (sym ef ∙ d ∙ eg),
            ne_eqb (mode_of (block_of store n)) 0 z,
          ) refl

  pub repeats_means : repeats store n earlier ≡ true → Repeats store n earlier
  unfolding repeats
  repeats_means t =
      let a = both_true (is_record store n) _ t in
      let b = both_true (is_record store earlier) _ a.1 in
      let d = both_true (eqb (format_of store n) (format_of store earlier)) _ b.1 in
      let e = both_true (not (is_reserved store n)) _ d.1 in
      let z : Reserved store n → ⊥ = eqb-false _ _ (not-true (is_reserved store n) e.0) in
      let bytes = same_means (block_of store n) (block_of store earlier) e.1 in
      record {
        unrefused = eqb-true _ _ a.0;
        earlier_unrefused = eqb-true _ _ b.0;
        same_format = eqb-true _ _ d.0;
        unreserved = z;
        earlier_unreserved = λ q. z (ap mode_of bytes ∙ q);
        same_bytes = bytes;
      }

  pub repeats_reserved : Reserved store n → repeats store n earlier ≡ false
  repeats_reserved z = not_so _ (λ t. (repeats_means t).unreserved z)

  pub repeats_so : Repeats store n earlier → repeats store n earlier ≡ true
  repeats_so p =
      sym (same_blocks p.unrefused p.earlier_unrefused refl refl p.same_format p.unreserved
      (sym (part_of store n p.unrefused)) (sym (part_of store earlier p.earlier_unrefused))
      (sym (same_so (block_of store n) (block_of store earlier) p.same_bytes)))

-- ---- which records go

module _ (store : List ℕ) (n : ℕ) where
  pub none_refused : (Unrefused store n → ⊥) → first_of store n ≡ n
  unfolding first_of
  none_refused r = first_never (repeats store n) (λ k. repeats_refused store n k r) n

  pub none_reserved : Reserved store n → first_of store n ≡ n
  unfolding first_of
  none_reserved z = first_never (repeats store n) (λ k. repeats_reserved store n k z) n

  stays_here : first_of store n ≡ n → false ≡ goes store n
  unfolding goes
  stays_here e = sym (le-ltb (first_of store n) n (omega arith))

  pub refused_stays : (Unrefused store n → ⊥) → false ≡ goes store n
  refused_stays r = stays_here (none_refused r)

  pub reserved_stays : Reserved store n → false ≡ goes store n
  reserved_stays z = stays_here (none_reserved z)

  pub goes_first : goes store n ≡ true → first_of store n < n
  unfolding goes
  goes_first t = ltb-true _ _ t

  pub stays_first : goes store n ≡ false → n ≤ first_of store n
  unfolding goes
  stays_first f = ltb-false _ _ f

  pub first_repeated : first_of store n < n → Repeats store n (first_of store n)
  unfolding first_of
  first_repeated h = repeats_means store n _ (first_passes (repeats store n) n h)

  -- no record before the first is repeated
  pub no_earlier : (k : ℕ) → k < n → Repeats store n k → first_of store n ≤ k
  unfolding first_of
  no_earlier k h p = first_least (repeats store n) n k h (repeats_so store n k p)

pub repeats_through : {store : List ℕ} {n middle first : ℕ} → Repeats store n middle → Repeats store middle first → Repeats store n first
repeats_through a b =
    record {
      unrefused = a.unrefused;
      earlier_unrefused = b.earlier_unrefused;
      same_format = a.same_format ∙ b.same_format;
      unreserved = a.unreserved;
      earlier_unreserved = b.earlier_unreserved;
      same_bytes = a.same_bytes ∙ b.same_bytes;
    }

-- the first record that a record repeats stays
pub first_stays : (store : List ℕ) (n : ℕ) → first_of store n < n → goes store (first_of store n) ≡ false
first_stays store n h =
    let e = first_of store n in
    not_so _
    (λ t. let l = goes_first store e t in
    omega (arith, l, no_earlier store n (first_of store e) (omega arith) (repeats_through (first_repeated store n h) (first_repeated store e l))))

-- S-45: a record that goes has an earlier one that stays.
pub each_has_one : (store : List ℕ) (n : ℕ) → goes store n ≡ true → Goes store n
each_has_one store n t =
    let h = goes_first store n t in
    record { earlier = first_of store n; before = h; stays = first_stays store n h; repeated = first_repeated store n h }

pub goes_by : (store : List ℕ) (n k : ℕ) → k < n → Repeats store n k → goes store n ≡ true
unfolding goes
goes_by store n k h p = lt-ltb (first_of store n) n (omega (arith, no_earlier store n k h p))

-- from what is asked of the two records, one by one
pub repeated_goes : (store : List ℕ) (n k : ℕ) → k < n → Unrefused store n → Unrefused store k → format_of store n ≡ format_of store k
    → (Reserved store n → ⊥) → block_of store n ≡ block_of store k → goes store n ≡ true
repeated_goes store n k h u v f z b =
    goes_by store n k h
    (record {
      unrefused = u;
      earlier_unrefused = v;
      same_format = f;
      unreserved = z;
      earlier_unreserved = λ q. z (ap mode_of b ∙ q);
      same_bytes = b;
    })

-- S-45: no other record goes.
pub only_those : (store : List ℕ) (n : ℕ) → Goes store n → goes store n ≡ true
only_those store n g = goes_by store n g.earlier g.before g.repeated
