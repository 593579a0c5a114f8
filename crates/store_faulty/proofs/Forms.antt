-- What a form's byte settles, why a record is faulty, and a loop that counts. Assumes nothing.
use mathlib.Core.Path.{◌≡◌, refl, sym, ap, ◌∙◌}
use mathlib.Core.Bool.{Bool, true, false, not}
use mathlib.Core.List.{List}
use Prim.Native.Nat.{ℕ, ◌+◌, ◌%◌, ◌≤◌, ◌<◌}
use native.Mathlib.Numerals.{add-one}
use native.Mathlib.Omega.{arith}
use lib.Dec.{eqb}
use lib.ListN.{length}
use borrow.Author.Tests.{lt-ltb, le-ltb, eq-eqb, ne_eqb, eqb-true, ltb-false, not-false}
use Rattle.laws.specs.Pick.{pick}
use Rattle.laws.proofs.Tests.{cases}
use Rattle.laws.proofs.Checks.{none_met}
use Rattle.bcn_spec.specs.Answers.{done, long_store, uneven_store, reserved_block}
use Rattle.bcn_spec.specs.Bits.{block_size, number_of}
use Rattle.bc6h_spec.specs.Fields.{mode_in, mode_of}
use Rattle.store_records.specs.Store.{record_refusal, part_at, most_records}
use Rattle.store_records.proofs.Refusals as plain
use Rattle.store_records.proofs.Readings as plain-readings
use Rattle.probe_places.specs.Places.{place_size}
use Rattle.probe_places.specs.Readings.{placed_refusal, placed_part}
use Rattle.probe_places.proofs.Readings as placed
use Rattle.store_faulty.specs.Faulty.{RecordForm, plain_form, placed_form, form_of, count_in, store_checks, store_refusal, is_refused, is_damaged, cause_of, how_many, counts_of, Counted}

-- ---- which form

module _ (byte : ℕ) where
  pub is_placed : byte ≡ place_size → form_of byte ≡ placed_form
  unfolding form_of
  is_placed e = rw (eq-eqb _ _ e)

  pub is_plain : (byte ≡ place_size → ⊥) → form_of byte ≡ plain_form
  unfolding form_of
  is_plain o = rw (ne_eqb _ _ o)

  -- what holds of both forms
  pub by_form : (P : RecordForm → Type 0) → P placed_form → P plain_form → P (form_of byte)
  unfolding form_of
  by_form P x y = cases (eqb byte place_size) (λ t. rw t x) (λ f. rw f y)

  pub size_some : 1 ≤ (form_of byte).size
  size_some = by_form (λ f. 1 ≤ f.size) (omega arith) (omega arith)

-- ---- a store

module _ (form : RecordForm) (size : ℕ) where
  pub long : form.limit < size → long_store ≡ store_refusal form size
  unfolding store_refusal
  long h = rw (lt-ltb _ _ h)

  pub uneven : size ≤ form.limit → (size % form.size ≡ 0 → ⊥) → uneven_store ≡ store_refusal form size
  unfolding store_refusal
  uneven h w = rw (le-ltb _ _ h, ne_eqb _ _ w)

  pub whole : size ≤ form.limit → size % form.size ≡ 0 → done ≡ store_refusal form size
  unfolding store_refusal
  whole h w = rw (le-ltb _ _ h, eq-eqb _ _ w)

  pub fits : store_refusal form size ≡ done → size ≤ form.limit
  unfolding store_refusal
  fits z = ltb-false _ _ (none_met (store_checks form size) tt z).0

  pub even : store_refusal form size ≡ done → size % form.size ≡ 0
  unfolding store_refusal
  even z = eqb-true _ _ (not-false _ (none_met (store_checks form size) tt z).1.0)

pub few_records : (byte : ℕ) (store : List ℕ) → store_refusal (form_of byte) (length store) ≡ done → count_in (form_of byte) store ≤ most_records
few_records byte store z =
    by_form byte (λ f. store_refusal f (length store) ≡ done → count_in f store ≤ most_records)
    (λ e. omega (arith, fits placed_form (length store) e)) (λ e. omega (arith, fits plain_form (length store) e)) z

-- ---- a record's block and mode

module _ (byte : ℕ) (store : List ℕ) (n : ℕ) (u : (form_of byte).refusal store n ≡ done) where
  pub placed_block : {part : List ℕ} → byte ≡ place_size → part ≡ placed_part (placed_refusal store n) store n → part ≡ (form_of byte).block store n
  placed_block e p =
      let v : placed_refusal store n ≡ done = rw (is_placed byte e) at u in
      rw (is_placed byte e) (p ∙ sym (placed.part_of store n refl v))

  pub plain_block : {part : List ℕ} → (byte ≡ place_size → ⊥) → part ≡ part_at (record_refusal store n) store n → part ≡ (form_of byte).block store n
  plain_block o p =
      let v : record_refusal store n ≡ done = rw (is_plain byte o) at u in
      rw (is_plain byte o) (p ∙ plain-readings.part_of store n v)

  block_length : length ((form_of byte).block store n) ≡ block_size
  block_length =
      by_form byte (λ f. f.refusal store n ≡ done → length (f.block store n) ≡ block_size)
      (λ v. placed.block_length (placed.known store n v)) (λ v. plain.block_length (plain.known store n v)) u

  pub part_length : {part : List ℕ} → part ≡ (form_of byte).block store n → length part ≡ block_size
  part_length p = ap length p ∙ block_length

pub mode-is : {block part : List ℕ} {number mode : ℕ} → part ≡ block → number ≡ number_of part → mode ≡ mode_in number → mode ≡ mode_of block
unfolding mode_of
mode-is p q m = rw (m, q, p)

-- ---- why it is faulty

module _ (form : RecordForm) (store : List ℕ) (n : ℕ) where
  pub refused_when : {r : ℕ} → r ≡ form.refusal store n → not (eqb r done) ≡ is_refused form store n
  unfolding is_refused
  refused_when e = rw e

  pub refused_undamaged : {r : ℕ} → r ≡ form.refusal store n → (r ≡ done → ⊥) → false ≡ is_damaged form store n
  unfolding is_damaged
  refused_undamaged e z = rw (ne_eqb (form.refusal store n) done (λ q. z (e ∙ q)))

  pub damaged_by_mode : {mode : ℕ} → form.refusal store n ≡ done → mode ≡ mode_of (form.block store n) → eqb mode 0 ≡ is_damaged form store n
  unfolding is_damaged
  damaged_by_mode u m = rw (eq-eqb _ _ u, m)

  pub cause_damaged : is_damaged form store n ≡ true → reserved_block ≡ cause_of form store n
  unfolding cause_of
  cause_damaged d = rw d

  pub cause_refusal : {r : ℕ} → is_damaged form store n ≡ false → r ≡ form.refusal store n → r ≡ cause_of form store n
  unfolding cause_of
  cause_refusal d e = rw d e

-- ---- how many are

pub more : (test : ℕ → Bool) (n : ℕ) → how_many test (n + 1) ≡ how_many test n + pick (test n) 1 0
unfolding how_many
more test n = rw (add-one n)

module _ (form : RecordForm) (store : List ℕ) where
  pub none_counted : Counted form store 0 0 0
  unfolding how_many
  none_counted = record { refused_is = refl; damaged_is = refl; few = (omega arith, omega arith) }

  pub one_counted : {n refused damaged a b : ℕ} {x y : Bool} → Counted form store n refused damaged → x ≡ is_refused form store n
      → (a ≤ 1) × (a ≡ pick x 1 0) → y ≡ is_damaged form store n → (b ≤ 1) × (b ≡ pick y 1 0) → Counted form store (n + 1) (refused + a) (damaged + b)
  one_counted {n} {refused} {damaged} {a} {b} c r p d q =
      let ra : a ≡ pick (is_refused form store n) 1 0 = rw r at p.1 in
      let db : b ≡ pick (is_damaged form store n) 1 0 = rw d at q.1 in
      record {
        refused_is = let e = more (is_refused form store) n in let f = c.refused_is in omega arith;
        damaged_is = let e = more (is_damaged form store) n in let f = c.damaged_is in omega arith;
        few = let f = c.few in (omega arith, omega arith);
      }

  pub all_counted : {n refused damaged : ℕ} → n ≤ count_in form store → count_in form store ≤ n → Counted form store n refused damaged
      → record { refused = refused; damaged = damaged } ≡ counts_of form store
  unfolding counts_of
  all_counted {n} h k c =
      let is : n ≡ count_in form store = omega arith in
      rw (rw is at c.refused_is, rw is at c.damaged_is)
