-- Laws of `repeats_in` over any form of a record: what each test gives, and that the computing definitions are what the words say. Assumes nothing.
use mathlib.Core.Path.{◌≡◌, refl, sym, ◌∙◌, ap₂}
use mathlib.Core.Bool.{Bool, true, false, not}
use mathlib.Core.List.{List}
use Prim.Native.Nat.{ℕ, ◌≤◌, ◌<◌}
use native.Mathlib.Omega.{arith}
use lib.Dec.{eqb}
use borrow.Author.Tests.{eq-eqb, ne_eqb, eqb-true, eqb-false, lt-ltb, le-ltb, ltb-true, not-true}
use Rattle.laws.specs.Every.{same}
use Rattle.laws.proofs.Tests.{both_true}
use Rattle.laws.proofs.Firsts.{first_passes, first_least}
use Rattle.laws.proofs.Sameness.{not_so, same_so, same_means}
use Rattle.bcn_spec.specs.Answers.{done}
use Rattle.bc6h_spec.specs.Fields.{mode_of}
use Rattle.store_clean.specs.Clean as clean
use Rattle.store_faulty.specs.Faulty.{RecordForm}
use Rattle.text_places_audit.specs.Copies.{RepeatsIn, repeats_in, first_in, is_copy}
use Rattle.text_places_audit.specs.Theorems.{CopiesBeside, AllTold, AsCleaned}

-- ---- one test after the other

module _ (form : RecordForm) (store : List ℕ) (n earlier : ℕ) where
  pub refused : (form.refusal store n ≡ done → ⊥) → false ≡ repeats_in form store n earlier
  unfolding repeats_in
  refused r = rw (ne_eqb (form.refusal store n) done r)

  module _ (u : form.refusal store n ≡ done) where
    pub other_refused : (form.refusal store earlier ≡ done → ⊥) → false ≡ repeats_in form store n earlier
    unfolding repeats_in
    other_refused r = rw (eq-eqb (form.refusal store n) done u, ne_eqb (form.refusal store earlier) done r)

    module _ (v : form.refusal store earlier ≡ done) {f g : ℕ} (ef : f ≡ form.format store n) (eg : g ≡ form.format store earlier) where
      pub two_formats : (f ≡ g → ⊥) → false ≡ repeats_in form store n earlier
      unfolding repeats_in
      two_formats d =
          rw (
            eq-eqb (form.refusal store n) done u,
            eq-eqb (form.refusal store earlier) done v,
            ne_eqb (form.format store n) (form.format store earlier) (λ e. d (ef ∙ e ∙ sym eg)),
          )

      module _ (d : f ≡ g) {mode : ℕ} (em : mode ≡ mode_of (form.block store n)) where
        pub reserved : mode ≡ 0 → false ≡ repeats_in form store n earlier
        unfolding repeats_in
        reserved z =
            rw (
              eq-eqb (form.refusal store n) done u,
              eq-eqb (form.refusal store earlier) done v,
              eq-eqb (form.format store n) (form.format store earlier) (sym ef ∙ d ∙ eg),
              eq-eqb (mode_of (form.block store n)) 0 (sym em ∙ z),
            )

        pub same_blocks : (mode ≡ 0 → ⊥) → {r : Bool} {x y : List ℕ} → x ≡ form.block store n → y ≡ form.block store earlier → r ≡ same x y
            → r ≡ repeats_in form store n earlier
        unfolding repeats_in
        same_blocks z ex ey e =
            e ∙ ap₂ same ex ey
            ∙ rw (
              eq-eqb (form.refusal store n) done u,
              eq-eqb (form.refusal store earlier) done v,
              eq-eqb (form.format store n) (form.format store earlier) (sym ef ∙ d ∙ eg),
              ne_eqb (mode_of (form.block store n)) 0 (λ q. z (em ∙ q)),
            ) refl

  pub repeats_means : repeats_in form store n earlier ≡ true → RepeatsIn form store n earlier
  unfolding repeats_in
  repeats_means t =
      let a = both_true (eqb (form.refusal store n) done) _ t in
      let b = both_true (eqb (form.refusal store earlier) done) _ a.1 in
      let d = both_true (eqb (form.format store n) (form.format store earlier)) _ b.1 in
      let e = both_true (not (eqb (mode_of (form.block store n)) 0)) _ d.1 in
      record {
        unrefused = eqb-true _ _ a.0;
        earlier_unrefused = eqb-true _ _ b.0;
        same_format = eqb-true _ _ d.0;
        unreserved = eqb-false _ _ (not-true (eqb (mode_of (form.block store n)) 0) e.0);
        same_bytes = same_means (form.block store n) (form.block store earlier) e.1;
      }

  pub repeats_so : RepeatsIn form store n earlier → repeats_in form store n earlier ≡ true
  repeats_so p =
      sym (same_blocks p.unrefused p.earlier_unrefused refl refl p.same_format refl p.unreserved refl refl
      (sym (same_so (form.block store n) (form.block store earlier) p.same_bytes)))

-- ---- the first that is repeated

module _ (form : RecordForm) (store : List ℕ) (n : ℕ) where
  pub first_repeated : first_in form store n < n → RepeatsIn form store n (first_in form store n)
  unfolding first_in
  first_repeated h = repeats_means form store n _ (first_passes (repeats_in form store n) n h)

  pub no_earlier : (k : ℕ) → k < n → RepeatsIn form store n k → first_in form store n ≤ k
  unfolding first_in
  no_earlier k h p = first_least (repeats_in form store n) n k h (repeats_so form store n k p)

  pub copy_when : first_in form store n < n → is_copy form store n ≡ true
  unfolding is_copy
  copy_when h = lt-ltb _ _ h

  pub no_copy_when : n ≤ first_in form store n → is_copy form store n ≡ false
  unfolding is_copy
  no_copy_when h = le-ltb _ _ h

  copy_first : is_copy form store n ≡ true → first_in form store n < n
  unfolding is_copy
  copy_first t = ltb-true _ _ t

through : {form : RecordForm} {store : List ℕ} {n middle first : ℕ} → RepeatsIn form store n middle → RepeatsIn form store middle first
    → RepeatsIn form store n first
through a b =
    record {
      unrefused = a.unrefused;
      earlier_unrefused = b.earlier_unrefused;
      same_format = a.same_format ∙ b.same_format;
      unreserved = a.unreserved;
      same_bytes = a.same_bytes ∙ b.same_bytes;
    }

pub copies_beside : CopiesBeside
copies_beside form store n t =
    let h = copy_first form store n t in
    let e = first_in form store n in
    record {
      before = h;
      repeated = first_repeated form store n h;
      no_copy =
          not_so (is_copy form store e)
          (λ c. let l = copy_first form store e c in
          omega (arith, l, no_earlier form store n (first_in form store e) (omega arith) (through (first_repeated form store n h) (first_repeated form store e l))));
    }

pub all_told : AllTold
all_told form store n earlier h p = copy_when form store n (omega (arith, no_earlier form store n earlier h p))

-- one definition for both forms: at 24-byte records it computes to the clean-up's
pub as_cleaned : AsCleaned
unfolding first_in repeats_in clean.first_of clean.repeats
as_cleaned store n = refl
