-- Which check gives the call its answer, its statement at each return, and what it says. Assumes nothing.
use Rattle.std.proofs.Common.{◌≡◌, ℕ, zero, suc, ◌+◌, ◌*◌, ◌<◌, ◌≤◌, true, ltb, List, ◌++◌, length, take, drop, sym, refl, ap, ◌∙◌, arith, take_at, drop_at, ltb-false, ltb-true, le-ltb, lt-ltb, eq-eqb, ne_eqb, eqb-true}
use borrow.Author.Tests.{not-false}
use Rattle.laws.specs.Made.{made, join}
use Rattle.laws.specs.Checks.{left_by}
use Rattle.laws.proofs.Tests.{both_true}
use Rattle.laws.proofs.Checks.{none_met}
use Rattle.laws.proofs.Joined.{run_length}
use Rattle.bcn_spec.specs.Answers.{done, bad_format, short_output, blocks_misfit, bad_edge}
use Rattle.bcn_spec.specs.Bits.{block_size}
use Rattle.probe_places.specs.declared.Place.{Place}
use Rattle.probe_places.specs.Places.{place_size}
use Rattle.probe.specs.Probe.{edge_limit}
use Rattle.probe_build.specs.declared.Built.{Built}
use Rattle.probe_build.specs.Building.{record_count, place_for, tile_for, record_with, built_record, built_of, build_checks, build_refusal, built_at, BuiltTo}
use Rattle.probe_build.proofs.Records.{record_length}

-- ---- the bytes

pub each_length : (blocks : List ℕ) (format edge first n : ℕ) → length (built_record blocks format edge first n) ≡ place_size
unfolding built_record
each_length blocks format edge first n = record_length blocks n (tile_for first n) format (place_for edge n)

pub record_is : (blocks : List ℕ) (format edge first n : ℕ) {tile : ℕ} {place : Place} → tile ≡ tile_for first n → place ≡ place_for edge n
    → record_with blocks n tile format place ≡ built_record blocks format edge first n
unfolding built_record
record_is blocks format edge first n t p = rw (t, p)

pub built_length : (blocks : List ℕ) (format edge first : ℕ) → length (built_of blocks format edge first) ≡ place_size * record_count edge
unfolding built_of
built_length blocks format edge first = run_length (built_record blocks format edge first) place_size (each_length blocks format edge first) (record_count edge)

-- a record that was written into its part
pub record_shown : (blocks : List ℕ) (format edge first n : ℕ) (part : List ℕ) {tile : ℕ} {place : Place} {after : List ℕ} → tile ≡ tile_for first n → place ≡ place_for edge n
    → after ≡ record_with blocks n tile format place ++ drop place_size part → after ≡ built_record blocks format edge first n ++ drop place_size part
record_shown blocks format edge first n part t p e = e ∙ ap (λ (l : List ℕ). l ++ drop place_size part) (record_is blocks format edge first n t p)

-- all records were written
pub built_whole : (blocks : List ℕ) (format edge first : ℕ) (lent : List ℕ) {count : ℕ} {after : List ℕ} → count ≡ record_count edge
    → after ≡ join (made (built_record blocks format edge first) count) ++ drop (place_size * count) lent
    → after ≡ built_of blocks format edge first ++ drop (place_size * record_count edge) lent
unfolding built_of
built_whole blocks format edge first lent c e = rw c at e

-- ---- the checks

module _ (size format edge room : ℕ) where
  pub no_edge : edge ≡ 0 → bad_edge ≡ build_refusal size format edge room
  unfolding build_refusal
  no_edge e = rw e

  pub long_edge : edge_limit < edge → bad_edge ≡ build_refusal size format edge room
  unfolding build_refusal
  long_edge h = rw (lt-ltb 0 edge (omega arith), le-ltb edge (edge_limit + 1) (omega arith))

  module _ (a : edge ≡ 0 → ⊥) (b : edge ≤ edge_limit) where
    first_edge : ltb 0 edge ≡ true
    first_edge = lt-ltb 0 edge (omega (arith, a))

    last_edge : ltb edge (edge_limit + 1) ≡ true
    last_edge = lt-ltb edge (edge_limit + 1) (omega arith)

    pub bad_format_lem : 1 < format → bad_format ≡ build_refusal size format edge room
    unfolding build_refusal
    bad_format_lem h = rw (first_edge, last_edge, lt-ltb 1 format h)

    module _ (f : format ≤ 1) where
      pub bad_blocks : (size ≡ block_size * record_count edge → ⊥) → blocks_misfit ≡ build_refusal size format edge room
      unfolding build_refusal
      bad_blocks h = rw (first_edge, last_edge, le-ltb _ _ f, ne_eqb size (block_size * record_count edge) h)

      module _ (s : size ≡ block_size * record_count edge) where
        pub short : room < place_size * record_count edge → short_output ≡ build_refusal size format edge room
        unfolding build_refusal
        short h = rw (first_edge, last_edge, le-ltb _ _ f, eq-eqb size (block_size * record_count edge) s, lt-ltb _ _ h)

        pub unrefused : place_size * record_count edge ≤ room → done ≡ build_refusal size format edge room
        unfolding build_refusal
        unrefused h = rw (first_edge, last_edge, le-ltb _ _ f, eq-eqb size (block_size * record_count edge) s, le-ltb _ _ h)

  pub record Buildable : Type 0 where
    pub edge_first : 1 ≤ edge
    pub edge_last : edge ≤ edge_limit
    pub small : format ≤ 1
    pub whole : size ≡ block_size * record_count edge
    pub enough : place_size * record_count edge ≤ room

  pub buildable : build_refusal size format edge room ≡ done → Buildable
  unfolding build_refusal
  buildable z =
      let m = none_met (build_checks size format edge room) tt z in
      let e = both_true (ltb 0 edge) (ltb edge (edge_limit + 1)) (not-false _ m.0) in
      let l : edge < edge_limit + 1 = ltb-true _ _ e.1 in
      record {
        edge_first = ltb-true _ _ e.0;
        edge_last = omega arith;
        small = ltb-false _ _ m.1.0;
        whole = eqb-true _ _ (not-false _ m.1.1.0);
        enough = ltb-false _ _ m.1.1.1.0;
      }

-- ---- the statement, at each return

module _ (blocks : List ℕ) (format edge first : ℕ) (lent : List ℕ) {a wide : ℕ} (w : wide ≡ edge) (c : a ≡ build_refusal (length blocks) format wide (length lent)) where
  e : a ≡ build_refusal (length blocks) format edge (length lent)
  e = rw w at c

  pub built_refused : {r : Built} → (a ≡ done → ⊥) → r ≡ record { answer = a; records = 0 } → BuiltTo blocks format edge first lent r lent
  built_refused {r} z q = let g = go (build_refusal (length blocks) format edge (length lent)) e in record { answers = g.0; holds = g.1 }
    where
      go : (k : ℕ) → a ≡ k → (r ≡ built_at k (record_count edge)) × (lent ≡ left_by k (built_of blocks format edge first) lent)
      go zero w = absurd (z w)
      go (suc k) w = (q ∙ rw w, refl)

  pub built_done : {r : Built} {after : List ℕ} {count : ℕ} → a ≡ done → r ≡ built_at 0 count → count ≡ record_count wide
      → after ≡ built_of blocks format wide first ++ drop (place_size * record_count wide) lent → BuiltTo blocks format edge first lent r after
  built_done z q o h =
      let n : build_refusal (length blocks) format edge (length lent) ≡ 0 = sym e ∙ z in
      record { answers = q ∙ rw (n, o, w); holds = rw (n, built_length blocks format edge first) (rw w at h) }

-- ---- what it says

answer_is : (k count : ℕ) → (built_at k count).answer ≡ k
answer_is zero count = refl
answer_is (suc k) count = refl

module _ {blocks : List ℕ} {format edge first : ℕ} {lent after : List ℕ} {r : Built} (d : BuiltTo blocks format edge first lent r after) where
  pub one_outcome : {s : Built} {other : List ℕ} → BuiltTo blocks format edge first lent s other → (r ≡ s) × (after ≡ other)
  one_outcome o = (d.answers ∙ sym o.answers, d.holds ∙ sym o.holds)

  pub answer_number : r.answer ≡ build_refusal (length blocks) format edge (length lent)
  answer_number = ap (λ (x : Built). x.answer) d.answers ∙ answer_is (build_refusal (length blocks) format edge (length lent)) (record_count edge)

  -- a refusal writes nothing, and has no records
  pub silent : (r.answer ≡ done → ⊥) → (after ≡ lent) × (r.records ≡ 0)
  silent n = let g = go (build_refusal (length blocks) format edge (length lent)) refl in (d.holds ∙ g.0, ap (λ (x : Built). x.records) d.answers ∙ g.1)
    where
      go : (k : ℕ) → build_refusal (length blocks) format edge (length lent) ≡ k → (left_by k (built_of blocks format edge first) lent ≡ lent) × ((built_at k (record_count edge)).records ≡ 0)
      go zero q = absurd (n (answer_number ∙ q))
      go (suc k) q = (refl, refl)

  module _ (z : r.answer ≡ done) where
    passed : build_refusal (length blocks) format edge (length lent) ≡ done
    passed = sym answer_number ∙ z

    pub was_buildable : Buildable (length blocks) format edge (length lent)
    was_buildable = buildable (length blocks) format edge (length lent) passed

    pub all_built : r.records ≡ record_count edge
    all_built = ap (λ (x : Built). x.records) d.answers ∙ rw passed

    whole : after ≡ built_of blocks format edge first ++ drop (length (built_of blocks format edge first)) lent
    whole = rw passed at d.holds

    -- the first 32 bytes a record are the store, and the rest stays
    pub front_is : take (place_size * r.records) after ≡ built_of blocks format edge first
    front_is =
        ap (λ (l : List ℕ). take (place_size * r.records) l) whole
        ∙ take_at (built_of blocks format edge first) _ (place_size * r.records)
        (built_length blocks format edge first ∙ ap (λ (x : ℕ). place_size * x) (sym all_built))

    pub rest_stays : drop (place_size * r.records) after ≡ drop (place_size * r.records) lent
    rest_stays =
        let e : length (built_of blocks format edge first) ≡ place_size * r.records = built_length blocks format edge first ∙ ap (λ (x : ℕ). place_size * x) (sym all_built) in
        ap (λ (l : List ℕ). drop (place_size * r.records) l) whole
        ∙ drop_at (built_of blocks format edge first) _ (place_size * r.records) e
        ∙ ap (λ (k : ℕ). drop k lent) e
