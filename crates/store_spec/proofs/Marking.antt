-- Laws of twins and marks: what the computing definitions mean, and that the mark is the one that the words ask. Assumes nothing.
use mathlib.Core.Path.{◌≡◌, refl, sym, ◌∙◌, ap, ap₂}
use mathlib.Core.Bool.{Bool, true, false, not}
use mathlib.Core.List.{List, ◌++◌}
use Prim.Native.Nat.{ℕ, ◌≤◌, ◌<◌}
use native.Mathlib.Omega.{arith}
use lib.Dec.{eqb, ltb}
use lib.ListN.{length, get_or}
use borrow.Author.Tests.{not-true, eq-eqb, ne_eqb, eqb-true, eqb-false, lt-ltb, le-ltb, ltb-true, ltb-false}
use Rattle.laws.specs.Every.{same}
use Rattle.laws.specs.First.{first_below}
use Rattle.laws.proofs.Tests.{picks, cases, both_true}
use Rattle.laws.proofs.Firsts.{first_end, first_at, first_passes, first_least, first_never}
use Rattle.laws.proofs.Sameness.{not_so, same_so, same_means}
use Rattle.bc6h_spec.specs.Fields.{mode_of}
use Rattle.bc6h_spec.specs.Picture.{value_count}
use Rattle.store_records.specs.Store.{records_in, format_of, block_of, Unrefused}
use Rattle.store_spec.specs.Shown.{picture_at, Reserved, is_record, is_reserved}
use Rattle.store_spec.specs.Scratch.{picture_in, kind_at, print_of, Pictured, Kept}
use Rattle.store_spec.proofs.Shown.{is_record_lem, is_refused, whole_picture}
use Rattle.store_spec.proofs.Keeping.{kind_format, at_count}
use Rattle.store_spec.specs.Twins.{Alike, Twin, Marked, kept_mark, twin_mark, bad_mark, holding, showing, alike, first_twin, mark_at}

-- ---- which records hold a picture

-- record n is not refused, of the format and not reserved
pub record Holds (store : List ℕ) (n format : ℕ) : Type 0 where
  pub unrefused : Unrefused store n
  pub of_format : format_of store n ≡ format
  pub unreserved : Reserved store n → ⊥

module _ (store : List ℕ) (n format : ℕ) where
  pub holding_refused : (Unrefused store n → ⊥) → holding store n format ≡ false
  unfolding holding
  holding_refused r = rw (is_refused store n r)

  pub holding_other : Unrefused store n → (format_of store n ≡ format → ⊥) → holding store n format ≡ false
  unfolding holding
  holding_other u f = rw (is_record_lem store n u, ne_eqb _ _ f)

  pub holding_mode : {mode : ℕ} → Unrefused store n → format_of store n ≡ format → mode ≡ mode_of (block_of store n)
      → not (eqb mode 0) ≡ holding store n format
  unfolding holding
  holding_mode u f m = rw (is_record_lem store n u, eq-eqb _ _ f, m)

  pub holding_so : Holds store n format → holding store n format ≡ true
  unfolding holding
  holding_so h = rw (is_record_lem store n h.unrefused, eq-eqb _ _ h.of_format, ne_eqb _ _ h.unreserved)

  pub holding_means : holding store n format ≡ true → Holds store n format
  unfolding holding
  holding_means t =
      let a = both_true (is_record store n) _ t in
      let b = both_true (eqb (format_of store n) format) _ a.1 in
      record {
        unrefused = eqb-true _ _ a.0;
        of_format = eqb-true _ _ b.0;
        unreserved = eqb-false _ _ (not-true (is_reserved store n) b.1);
      }

  pub holding_reserved : Reserved store n → holding store n format ≡ false
  holding_reserved z = not_so _ (λ t. (holding_means t).unreserved z)

-- ---- alike

module _ (store : List ℕ) (n format : ℕ) (values : List ℕ) where
  pub showing_none : holding store n format ≡ false → showing store n format values ≡ false
  unfolding showing
  showing_none e = rw e

  pub showing_picture : holding store n format ≡ true → showing store n format values ≡ same (picture_at store n) values
  unfolding showing
  showing_picture e = rw e

module _ (store : List ℕ) (n earlier : ℕ) where
  pub alike_showing : Unrefused store n → (Reserved store n → ⊥)
      → alike store n earlier ≡ showing store earlier (format_of store n) (picture_at store n)
  unfolding alike
  alike_showing u z = rw (holding_so store n (format_of store n) (record { unrefused = u; of_format = refl; unreserved = z }))

  pub alike_refused : (Unrefused store n → ⊥) → alike store n earlier ≡ false
  unfolding alike
  alike_refused r = rw (holding_refused store n (format_of store n) r)

  pub alike_reserved : Reserved store n → alike store n earlier ≡ false
  unfolding alike
  alike_reserved z = rw (holding_reserved store n (format_of store n) z)

  pub alike_means : alike store n earlier ≡ true → Alike store n earlier
  unfolding alike showing
  alike_means t =
      let a = both_true (holding store n (format_of store n)) _ t in
      let b = both_true (holding store earlier (format_of store n)) _ a.1 in
      let h = holding_means store n (format_of store n) a.0 in
      let k = holding_means store earlier (format_of store n) b.0 in
      record {
        unrefused = h.unrefused;
        earlier_unrefused = k.unrefused;
        same_format = k.of_format;
        unreserved = h.unreserved;
        earlier_unreserved = k.unreserved;
        same_values = same_means _ _ b.1;
      }

  pub alike_so : Alike store n earlier → alike store n earlier ≡ true
  alike_so a =
      alike_showing a.unrefused a.unreserved
      ∙ showing_picture store earlier (format_of store n) (picture_at store n)
      (holding_so store earlier (format_of store n)
      (record { unrefused = a.earlier_unrefused; of_format = a.same_format; unreserved = a.earlier_unreserved }))
      ∙ same_so _ _ a.same_values

  -- by the pictures that were kept, of a record that holds one of the format
  module _ {format : ℕ} (u : Unrefused store n) (f : format ≡ format_of store n) (z : Reserved store n → ⊥) where
    pub other_kept : holding store earlier format ≡ false → false ≡ alike store n earlier
    other_kept e = sym (alike_showing u z ∙ showing_none store earlier (format_of store n) (picture_at store n) (rw f at e))

    pub alike_kept : {scratch a b : List ℕ} {count : ℕ} {r : Bool} → Pictured store scratch → count ≡ records_in store → holding store earlier format ≡ true → n < records_in store
        → earlier < n → a ≡ picture_in scratch count earlier → b ≡ picture_in scratch count n → r ≡ same a b
        → r ≡ alike store n earlier
    alike_kept p q t h l ea eb e =
        let k : holding store earlier (format_of store n) ≡ true = rw f at t in
        let v = (holding_means store earlier (format_of store n) k).unrefused in
        e ∙ ap₂ same (ea ∙ at_count store _ _ earlier q p (omega arith) v) (eb ∙ at_count store _ _ n q p h u)
        ∙ sym (alike_showing u z ∙ showing_picture store earlier (format_of store n) (picture_at store n) k)

-- by pictures that were decoded for it
pub shown_picture : (store : List ℕ) (n format : ℕ) (more values : List ℕ) {shown : List ℕ} {r : Bool} → holding store n format ≡ true
    → shown ≡ picture_at store n ++ more → length shown ≡ value_count → r ≡ same shown values → r ≡ showing store n format values
shown_picture store n format more values t e l s =
    s ∙ ap (λ (x : List ℕ). same x values) (whole_picture store n more e l) ∙ sym (showing_picture store n format values t)

pub alike_shown : (store : List ℕ) (n earlier : ℕ) (more : List ℕ) {format : ℕ} {picture : List ℕ} {r : Bool} → Unrefused store n
    → format ≡ format_of store n → (Reserved store n → ⊥) → picture ≡ picture_at store n ++ more → length picture ≡ value_count
    → r ≡ showing store earlier format picture → alike store n earlier ≡ r
alike_shown store n earlier more u f z e l s =
    alike_showing store n earlier u z ∙ sym (s ∙ ap₂ (showing store earlier) f (whole_picture store n more e l))

same_kind : (store : List ℕ) (n earlier : ℕ) → Alike store n earlier → kind_at store earlier ≡ kind_at store n
same_kind store n earlier a = sym (kind_format store earlier a.earlier_unreserved) ∙ a.same_format ∙ kind_format store n a.unreserved

-- a record with another fingerprint is passed by
pub alike_other : {store scratch : List ℕ} → Kept store scratch → (n earlier : ℕ) → n < records_in store → earlier < n
    → (get_or scratch earlier 0 ≡ get_or scratch n 0 → ⊥) → alike store n earlier ≡ false
alike_other {store} d n earlier h l other =
    not_so _
    (λ t. let a = alike_means store n earlier t in
    other
    (d.print earlier (omega arith) a.earlier_unrefused ∙ ap₂ print_of (same_kind store n earlier a) a.same_values
    ∙ sym (d.print n h a.unrefused)))

-- ---- twins

pub no_twin : (store : List ℕ) (n : ℕ) → (Unrefused store n → ⊥) → first_twin store n ≡ n
unfolding first_twin
no_twin store n r = first_never (alike store n) (λ k. alike_refused store n k r) n

pub reserved_no_twin : (store : List ℕ) (n : ℕ) → Reserved store n → first_twin store n ≡ n
unfolding first_twin
reserved_no_twin store n z = first_never (alike store n) (λ k. alike_reserved store n k z) n

pub first_alike : (store : List ℕ) (n : ℕ) → first_twin store n < n → Alike store n (first_twin store n)
unfolding first_twin
first_alike store n h = alike_means store n _ (first_passes (alike store n) n h)

pub twin_means : (store : List ℕ) (n : ℕ) → first_twin store n < n → Twin store n
twin_means store n h = record { earlier = first_twin store n; before = h; shows = first_alike store n h }

-- the first twin is the first of all that n is a twin of
pub twin_so : (store : List ℕ) (n : ℕ) (t : Twin store n) → first_twin store n ≤ t.earlier
unfolding first_twin
twin_so store n t = first_least (alike store n) n t.earlier t.before (alike_so store n t.earlier t.shows)

-- the search for it came to the end, or found it
pub unfound : (store : List ℕ) (n k : ℕ) → k ≤ n → n ≤ k → first_below (alike store n) k ≡ k → n ≤ first_twin store n
unfolding first_twin
unfound store n k l h e = let q = first_end (alike store n) n k l h e in omega arith

pub found : (store : List ℕ) (n k : ℕ) → first_below (alike store n) k ≡ k → k < n → alike store n k ≡ true → first_twin store n < n
unfolding first_twin
found store n k e h t = let q = first_at (alike store n) n k e t h in omega arith

-- ---- marks

module _ (store : List ℕ) (n : ℕ) where
  pub mark_bad : (Unrefused store n → ⊥) → bad_mark ≡ mark_at store n
  unfolding mark_at
  mark_bad r = rw (is_refused store n r)

  pub mark_twin : Unrefused store n → first_twin store n < n → twin_mark ≡ mark_at store n
  unfolding mark_at
  mark_twin u h = rw (is_record_lem store n u, lt-ltb _ _ h)

  pub mark_kept : Unrefused store n → n ≤ first_twin store n → kept_mark ≡ mark_at store n
  unfolding mark_at
  mark_kept u h = rw (is_record_lem store n u, le-ltb _ _ h)

  pub mark_reserved : Unrefused store n → Reserved store n → kept_mark ≡ mark_at store n
  mark_reserved u z = mark_kept u (let e = reserved_no_twin store n z in omega arith)

  pub mark_small : mark_at store n ≤ 2
  unfolding mark_at
  mark_small =
      picks (is_record store n) _ bad_mark (λ k. k ≤ 2)
      (λ a. picks (ltb (first_twin store n) n) twin_mark kept_mark (λ k. k ≤ 2) (λ t. omega arith) (λ f. omega arith)) (λ f. omega arith)

  -- what a mark says
  pub twin_marked : mark_at store n ≡ twin_mark → first_twin store n < n
  unfolding mark_at
  twin_marked e =
      cases (is_record store n)
      (λ a. cases (ltb (first_twin store n) n) (λ t. ltb-true _ _ t) (λ f. absurd (omega (arith, rw (a, f) at e))))
      (λ f. absurd (omega (arith, rw f at e)))

  -- S-43: the computed mark is one that the words admit.
  pub mark_is : Marked store n (mark_at store n)
  mark_is = record {
    bad = λ r. sym (mark_bad r);
    twin = λ t. sym (mark_twin t.shows.unrefused (let l = twin_so store n t in let b = t.before in omega arith));
    kept = λ u r. sym (mark_kept u (no_less (λ h. r (twin_means store n h))));
  }
    where
      no_less : (first_twin store n < n → ⊥) → n ≤ first_twin store n
      no_less r = cases (ltb (first_twin store n) n) (λ t. absurd (r (ltb-true _ _ t))) (λ f. ltb-false _ _ f)

  -- S-43: the words admit no other mark.
  pub mark_one : (mark : ℕ) → Marked store n mark → mark ≡ mark_at store n
  mark_one mark m =
      cases (is_record store n)
      (λ a. let u : Unrefused store n = eqb-true _ _ a in
      cases (ltb (first_twin store n) n)
      (λ t. let h = ltb-true _ _ t in m.twin (twin_means store n h) ∙ mark_twin u h)
      (λ f. let h = ltb-false _ _ f in
      m.kept u (λ t. let l = twin_so store n t in let b = t.before in omega arith) ∙ mark_kept u h))
      (λ f. let r = eqb-false _ _ f in m.bad r ∙ mark_bad r)

-- ---- the first record that a twin equals is no twin itself

pub alike_through : {store : List ℕ} {n middle first : ℕ} → Alike store n middle → Alike store middle first → Alike store n first
alike_through a b =
    record {
      unrefused = a.unrefused;
      earlier_unrefused = b.earlier_unrefused;
      same_format = b.same_format ∙ a.same_format;
      unreserved = a.unreserved;
      earlier_unreserved = b.earlier_unreserved;
      same_values = b.same_values ∙ a.same_values;
    }

pub first_stays : (store : List ℕ) (n : ℕ) → first_twin store n < n → mark_at store (first_twin store n) ≡ kept_mark
first_stays store n h =
    let a = first_alike store n h in
    let e = first_twin store n in
    sym (mark_kept store e a.earlier_unrefused
    (cases (ltb (first_twin store e) e)
    (λ t. let l : first_twin store e < e = ltb-true _ _ t in
    let first : Twin store n = record { earlier = first_twin store e; before = omega arith; shows = alike_through a (first_alike store e l) } in
    absurd (omega (arith, twin_so store n first, l)))
    (λ f. ltb-false _ _ f)))
