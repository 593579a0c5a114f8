-- Laws of `covered`: what each of its tests gives, and that it shows what the clean-up theorem asks. Assumes nothing.
use mathlib.Core.Path.{◌≡◌, refl, sym, ◌∙◌, ap, ap₂, subst}
use mathlib.Core.Logic.{inl}
use mathlib.Core.Bool.{Bool, true, false}
use mathlib.Core.List.{List}
use Prim.Native.Nat.{ℕ, ◌<◌, ◌≤◌}
use lib.Dec.{T, eqb, leb, eqb→eq, leb→le}
use lib.ListN.{length, get_or}
use borrow.Author.Tests.{eq-eqb, ne_eqb}
use Rattle.laws.specs.Pick.{both}
use Rattle.laws.proofs.Tests.{both_left, both_right}
use Rattle.laws.proofs.Search.{holds, is_true}
use Rattle.bc6h_spec.specs.declared.Fields.{Fields}
use Rattle.bcn_spec.specs.Answers.{done}
use Rattle.bcn_spec.specs.Bits.{block_size}
use Rattle.bc6h_spec.specs.Fields.{mode_of, fields_of}
use Rattle.bc6h_spec.proofs.Reading.{fields_mode}
use Rattle.store_copies.specs.Trust.{Trusted, trusted}
use Rattle.store_copies.proofs.Trust.{sound, none_lost, one_region_eligible, one_region_differs}
use Rattle.store_records.specs.Store.{records_in, format_of, block_of, record_refusal, Unrefused, part_at}
use Rattle.store_records.proofs.Readings.{part_of}
use Rattle.store_spec.specs.declared.TwinList.{TwinList}
use Rattle.store_spec.specs.Shown.{is_record}
use Rattle.store_spec.specs.Twins.{twin_mark, Alike, first_twin, Listed}
use Rattle.store_spec.proofs.Shown.{is_record_lem, is_refused}
use Rattle.store_spec.proofs.Marking.{first_alike}
use Rattle.store_covered.specs.CleanUp.{Covered, Copy, ByDemand3, covered_pair, covered, by_demand_3}
use Rattle.store_spec.proofs.Listing.{marked_first}
use Rattle.store_covered.proofs.Theorem.{one_picture, clean_up}

-- ---- two blocks

pub trusted_length : (format : ℕ) (block : List ℕ) → trusted format block ≡ true → length block ≡ block_size
trusted_length format block t = (sound format block (holds t)).suited.bytes.sixteen

mode-is : (format : ℕ) (block : List ℕ) {f : Fields} → f ≡ fields_of format block → f.mode ≡ mode_of block
mode-is format block e = ap (λ (x : Fields). x.mode) e ∙ fields_mode format block

module _ (format : ℕ) (block earlier : List ℕ) where
  pub pair_untrusted : trusted format block ≡ false → false ≡ covered_pair format block earlier
  unfolding covered_pair
  pair_untrusted f = rw f

  module _ (t : trusted format block ≡ true) where
    pub pair_other_untrusted : trusted format earlier ≡ false → false ≡ covered_pair format block earlier
    unfolding covered_pair
    pair_other_untrusted f = rw (t, f)

    module _ (u : trusted format earlier ≡ true) {f g : Fields} (e : f ≡ fields_of format block) (q : g ≡ fields_of format earlier) where
      pub pair_two_modes : (f.mode ≡ g.mode → ⊥) → false ≡ covered_pair format block earlier
      unfolding covered_pair
      pair_two_modes n = rw (t, u, ne_eqb (mode_of block) (mode_of earlier) (λ m. n (mode-is format block e ∙ m ∙ sym (mode-is format earlier q))))

      pub pair_partitions : f.mode ≡ g.mode → eqb f.partition g.partition ≡ covered_pair format block earlier
      unfolding covered_pair
      pair_partitions m =
          ap₂ eqb (ap (λ (x : Fields). x.partition) e) (ap (λ (x : Fields). x.partition) q)
          ∙ rw (t, u, eq-eqb (mode_of block) (mode_of earlier) (sym (mode-is format block e) ∙ m ∙ mode-is format earlier q)) refl

-- ---- two records

module _ (store : List ℕ) (n earlier : ℕ) where
  pub covered_refused : (Unrefused store n → ⊥) → false ≡ covered store n earlier
  unfolding covered
  covered_refused r = rw (is_refused store n r)

  module _ (u : Unrefused store n) where
    pub covered_other_refused : (Unrefused store earlier → ⊥) → false ≡ covered store n earlier
    unfolding covered
    covered_other_refused r = rw (is_record_lem store n u, is_refused store earlier r)

    module _ (v : Unrefused store earlier) {f g : ℕ} (ef : f ≡ format_of store n) (eg : g ≡ format_of store earlier) where
      pub covered_two_formats : (f ≡ g → ⊥) → false ≡ covered store n earlier
      unfolding covered
      covered_two_formats d = rw (is_record_lem store n u, is_record_lem store earlier v, ne_eqb (format_of store n) (format_of store earlier) (λ e. d (ef ∙ e ∙ sym eg)))

      pub covered_blocks : f ≡ g → {r : Bool} {x y : List ℕ} → x ≡ part_at (record_refusal store n) store n
          → y ≡ part_at (record_refusal store earlier) store earlier → r ≡ covered_pair f x y → r ≡ covered store n earlier
      unfolding covered
      covered_blocks d {x = x} {y = y} ex ey e =
          e ∙ ap (λ (k : ℕ). covered_pair k x y) ef ∙ ap₂ (covered_pair (format_of store n)) (ex ∙ part_of store n u) (ey ∙ part_of store earlier v)
          ∙ rw (is_record_lem store n u, is_record_lem store earlier v, eq-eqb (format_of store n) (format_of store earlier) (sym ef ∙ d ∙ eg)) refl

-- ---- what it shows

pub record Shown (store : List ℕ) (n earlier : ℕ) : Type 0 where
  pub same_format : format_of store n ≡ format_of store earlier
  pub trust : Trusted (format_of store n) (block_of store n)
  pub earlier_trust : Trusted (format_of store n) (block_of store earlier)
  pub one_mode : mode_of (block_of store n) ≡ mode_of (block_of store earlier)
  pub one_partition : (fields_of (format_of store n) (block_of store n)).partition ≡ (fields_of (format_of store n) (block_of store earlier)).partition

tests_show : (store : List ℕ) (n earlier : ℕ) → T (covered store n earlier) → Shown store n earlier
unfolding covered covered_pair
tests_show store n earlier c =
    let f = format_of store n in
    let x = block_of store n in
    let y = block_of store earlier in
    let t = both_right (both (is_record store n) (is_record store earlier)) _ c in
    let pair = both_right (eqb f (format_of store earlier)) _ t in
    let rest = both_right (trusted f x) _ pair in
    let last = both_right (trusted f y) _ rest in
    record {
      same_format = eqb→eq _ _ (both_left (eqb f (format_of store earlier)) _ t);
      trust = sound f x (both_left (trusted f x) _ pair);
      earlier_trust = sound f y (both_left (trusted f y) _ rest);
      one_mode = eqb→eq _ _ (both_left (eqb (mode_of x) (mode_of y)) _ last);
      one_partition = eqb→eq _ _ (both_right (eqb (mode_of x) (mode_of y)) _ last);
    }

pub covered_shows : (store : List ℕ) (n earlier : ℕ) → covered store n earlier ≡ true → Covered store n earlier
covered_shows store n earlier e =
    let s = tests_show store n earlier (holds e) in
    record {
      suited = s.trust.suited;
      earlier_suited = s.earlier_trust.suited;
      matched = record { one_mode = s.one_mode; one_partition = s.one_partition; differ = λ r h. inl (s.trust.differs r h); one_format = refl };
    }

-- what `is_covered` answers of a twin and the first record that it equals: if true, their blocks are the same sixteen bytes
pub covered_copy : (store lent after : List ℕ) (r : TwinList) → Listed store lent r after → r.answer ≡ done → (n : ℕ) → n < records_in store
    → get_or after n 0 ≡ twin_mark → covered store n (first_twin store n) ≡ true → Copy store n (first_twin store n)
covered_copy store lent after r d z n h m e = clean_up store lent after r d z n h m (covered_shows store n (first_twin store n) e)

-- and it misses no twin that the theorem covers: where two such blocks show one picture, each is trusted by itself
alike_covered : {store : List ℕ} {n earlier : ℕ} → Alike store n earlier → Covered store n earlier → covered store n earlier ≡ true
unfolding covered covered_pair
alike_covered {store} {n} {earlier} a c =
    let f = format_of store n in
    let x = block_of store n in
    let y = block_of store earlier in
    let t = none_lost f x y c.suited c.earlier_suited c.matched (one_picture a) in
    rw (
      is_record_lem store n a.unrefused,
      is_record_lem store earlier a.earlier_unrefused,
      eq-eqb f (format_of store earlier) (sym a.same_format),
      is_true (trusted f x) t.0,
      is_true (trusted f y) t.1,
      eq-eqb (mode_of x) (mode_of y) c.matched.one_mode,
      eq-eqb (fields_of f x).partition (fields_of f y).partition c.matched.one_partition,
    ) refl

pub covered_all : (store lent after : List ℕ) (r : TwinList) → Listed store lent r after → r.answer ≡ done → (n : ℕ) → n < records_in store
    → get_or after n 0 ≡ twin_mark → Covered store n (first_twin store n) → covered store n (first_twin store n) ≡ true
covered_all store lent after r d z n h m = alike_covered (first_alike store n (marked_first d z n h m))

-- ---- demand 3 alone

module _ (store : List ℕ) (n earlier : ℕ) where
  pub demand_3_uncovered : covered store n earlier ≡ false → false ≡ by_demand_3 store n earlier
  unfolding by_demand_3
  demand_3_uncovered f = rw f

  module _ (c : covered store n earlier ≡ true) where
    -- a covered record is not refused, and has a block
    pub covered_unrefused : (Unrefused store n → ⊥) → ⊥
    covered_unrefused r = subst T (sym (covered_refused store n earlier r)) (holds c)

    pub covered_length : {x : List ℕ} → Unrefused store n → x ≡ part_at (record_refusal store n) store n → length x ≡ block_size
    covered_length u e =
        ap length (e ∙ part_of store n u) ∙ (tests_show store n earlier (holds c)).trust.suited.bytes.sixteen

    pub demand_3_signed : (format_of store n ≡ 0 → ⊥) → false ≡ by_demand_3 store n earlier
    unfolding by_demand_3
    demand_3_signed f = rw (c, ne_eqb (format_of store n) 0 f)

    pub demand_3_modes : format_of store n ≡ 0 → Unrefused store n → {x : List ℕ} {f : Fields} → x ≡ part_at (record_refusal store n) store n → f ≡ fields_of 0 x
        → leb 11 f.mode ≡ by_demand_3 store n earlier
    unfolding by_demand_3
    demand_3_modes z u e q =
        ap (leb 11) (ap (λ (g : Fields). g.mode) q ∙ fields_mode 0 _ ∙ ap mode_of (e ∙ part_of store n u))
        ∙ rw (c, eq-eqb (format_of store n) 0 z) refl

-- its premises hold
pub demand_3_shows : (store : List ℕ) (n earlier : ℕ) → by_demand_3 store n earlier ≡ true → ByDemand3 store n earlier
unfolding by_demand_3
demand_3_shows store n earlier e =
    record {
      unsigned = zero_format;
      earlier_unsigned = sym s.same_format ∙ zero_format;
      eligible = one_region_eligible (block_of store n) x from;
      earlier_eligible = one_region_eligible (block_of store earlier) y (subst (λ (m : ℕ). 11 ≤ m) s.one_mode from);
      one_mode = s.one_mode;
      differs = inl (one_region_differs (block_of store n) x from);
    }
  where
    rest : T (both (eqb (format_of store n) 0) (leb 11 (mode_of (block_of store n))))
    rest = both_right (covered store n earlier) _ (holds e)

    zero_format : format_of store n ≡ 0
    zero_format = eqb→eq _ _ (both_left (eqb (format_of store n) 0) _ rest)

    from : 11 ≤ mode_of (block_of store n)
    from = leb→le _ _ (both_right (eqb (format_of store n) 0) _ rest)

    s : Shown store n earlier
    s = tests_show store n earlier (both_left (covered store n earlier) _ (holds e))

    x : Trusted 0 (block_of store n)
    x = subst (λ (k : ℕ). Trusted k (block_of store n)) zero_format s.trust

    y : Trusted 0 (block_of store earlier)
    y = subst (λ (k : ℕ). Trusted k (block_of store earlier)) zero_format s.earlier_trust
