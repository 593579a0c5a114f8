-- The words that the exports over a store answer, from what the calls ensure. Assumes nothing.
use mathlib.Core.Path.{◌≡◌, sym, ap, ◌∙◌}
use mathlib.Core.List.{List, [], ◌∷◌}
use Prim.Native.Nat.{ℕ, suc, ◌+◌, ◌-◌, ◌*◌, ◌<◌, ◌≤◌}
use native.Mathlib.Omega.{arith}
use lib.Dec.{eqb}
use lib.ListN.{take, drop}
use borrow.Author.Tests.{eqb-true, eqb-false}
use Rattle.laws.proofs.Tests.{cases}
use Rattle.bcn_spec.specs.Answers.{done}
use Rattle.bcn_spec.specs.Bits.{block_size}
use Rattle.store_records.specs.declared.Record.{Record}
use Rattle.std.specs.Prelude.{Result, Ok, Err}
use Rattle.bcn_spec.specs.declared.Refusal.{Refusal}
use Rattle.bcn_spec.specs.Refusals.{refusal_number}
use Rattle.store_records.specs.Store.{record_size, head_size, store_limit, most_records, tile_of, format_of, block_of, record_refusal, Unrefused, RecordRead, part_at}
use Rattle.store_records.proofs.Refusals.{known}
use Rattle.store_records.proofs.Readings.{unrefused, refused}
use Rattle.store_spec.specs.declared.TwinList.{TwinList}
use Rattle.store_spec.specs.Twins.{refusal, Listed, ListedIn}
use Rattle.store_spec.proofs.Listing.{refused_alone, counts_add_up, whole, list_is, silent_in}
use Rattle.store_twins.specs.Strict.{StrictlyListed}
use Rattle.store_twins.proofs.Strictness as strict
use Rattle.knotpasture.specs.Store.{reading_word, offset_at, twins_word, TwinsCalled, StrictCalled, TwinsInCalled}

-- ---- the record calls

module _ {store : List ℕ} {n : ℕ} {x : Result Record Refusal} (d : RecordRead store n x) where
  pub record_word : {r : Record} → x ≡ Ok r → r.format * 0x100 + r.tile * 0x100000000 ≡ reading_word store n
  record_word {r} e =
      let u = unrefused d e in
      let v : r.tile ∷ r.format ∷ [] ≡ tile_of store n ∷ format_of store n ∷ [] = rw (e, u) at d.gives in
      let t : r.tile ≡ tile_of store n = cc in
      let f : r.format ≡ format_of store n = cc in
      rw (u, t, f)

  some_number : {number : Refusal} → x ≡ Err number → record_refusal store n ≡ suc (record_refusal store n - 1)
  some_number e = omega (arith, refused d e)

  pub refused_word : {why : Refusal} → x ≡ Err why → refusal_number why ≡ reading_word store n
  refused_word {why} e =
      let a : refusal_number why ≡ record_refusal store n = rw e at d.answers in
      a ∙ rw (some_number e)

  pub record_offset : {r : Record} → x ≡ Ok r → n * record_size + head_size ≡ offset_at (record_refusal store n) n
  record_offset e = rw (unrefused d e)

  pub refused_offset : {why : Refusal} → x ≡ Err why → 0 ≡ offset_at (record_refusal store n) n
  refused_offset e = rw (some_number e)

  -- a record that is there starts inside the store
  pub inside : {r : Record} → x ≡ Ok r → n * record_size < store_limit
  inside e = let k = known store n (unrefused d e) in omega arith

-- from the offset on stand the bytes that `record_block` gives; where it gives none, the offset is 0
pub block_at_offset : (store : List ℕ) (n : ℕ) {offset : ℕ} {part : List ℕ} → offset ≡ offset_at (record_refusal store n) n
    → part ≡ part_at (record_refusal store n) store n → Unrefused store n → take block_size (drop offset store) ≡ part
unfolding block_of
block_at_offset store n {offset} e p u =
    let o : offset ≡ n * record_size + head_size = e ∙ rw u in
    ap (λ (at : ℕ). take block_size (drop at store)) o ∙ sym (p ∙ rw u)

-- the offset is 0 exactly where there is no such block
pub offset_none : (store : List ℕ) (n : ℕ) {offset : ℕ} → offset ≡ offset_at (record_refusal store n) n → offset ≡ 0 → Unrefused store n → ⊥
offset_none store n {offset} e z u = let o : offset ≡ n * record_size + head_size = e ∙ rw u in omega arith

-- ---- the twin lists

pub no_counts : {number : ℕ} {list : TwinList} → list ≡ refusal number → list.kept + list.twins + list.bad ≤ most_records
no_counts e = rw e (omega arith)

module _ {store lent after : List ℕ} {r : TwinList} (d : Listed store lent r after) where
  pub twins_called : {word : ℕ} → word ≡ twins_word r → TwinsCalled store lent word after
  twins_called e = record { answers = e ∙ ap twins_word d.answers; holds = d.holds }

  -- no count is above the number of records, 2,000
  few_done : r.answer ≡ done → r.kept + r.twins + r.bad ≤ most_records
  few_done z = let w = whole d z in let c = counts_add_up d z in omega arith

  pub few : r.kept + r.twins + r.bad ≤ most_records
  few =
      cases (eqb r.answer done) (λ z. few_done (eqb-true _ _ z)) (λ f. no_counts (refused_alone d (eqb-false _ _ f)))

module _ {store lent after : List ℕ} {r : TwinList} (d : StrictlyListed store lent r after) where
  pub strict_called : {word : ℕ} → word ≡ twins_word r → StrictCalled store lent word after
  strict_called e = record { answers = e ∙ ap twins_word d.answers; holds = d.holds }

  pub strict_few : r.kept + r.twins + r.bad ≤ most_records
  strict_few =
      cases (eqb r.answer done) (λ z. few (strict.list_is d (eqb-true _ _ z)))
      (λ f. no_counts (strict.refused_alone d (eqb-false _ _ f)))

  -- a refusal's word is its number: no count in it is other than 0
  pub strict_word_alone : {word : ℕ} → word ≡ twins_word r → (r.answer ≡ done → ⊥) → word ≡ r.answer
  strict_word_alone e n = e ∙ ap twins_word (strict.refused_alone d n) ∙ omega arith

pub one_list : {store lent : List ℕ} {r s : ℕ} {a b : List ℕ} → TwinsCalled store lent r a → TwinsCalled store lent s b → (r ≡ s) × (a ≡ b)
one_list d e = (d.answers ∙ sym e.answers, d.holds ∙ sym e.holds)

pub one_strict_list : {store lent : List ℕ} {r s : ℕ} {a b : List ℕ} → StrictCalled store lent r a → StrictCalled store lent s b
    → (r ≡ s) × (a ≡ b)
one_strict_list d e = (d.answers ∙ sym e.answers, d.holds ∙ sym e.holds)

-- ---- the twin list over lent scratch space

module _ {store lent space after spaceAfter : List ℕ} {r : TwinList} (d : ListedIn store lent space r after spaceAfter) where
  pub twins_in_called : {word : ℕ} → word ≡ twins_word r → TwinsInCalled store lent space word after spaceAfter
  twins_in_called e = record { answers = e ∙ ap twins_word d.answers; holds = d.holds; leaves = d.leaves }

  pub few_in : r.kept + r.twins + r.bad ≤ most_records
  few_in =
      cases (eqb r.answer done) (λ z. few (list_is d (eqb-true _ _ z))) (λ f. no_counts (silent_in d (eqb-false _ _ f)).alone)

pub one_list_in : {store lent space : List ℕ} {r s : ℕ} {a b u v : List ℕ} → TwinsInCalled store lent space r a u → TwinsInCalled store lent space s b v
    → (r ≡ s) × (a ≡ b) × (u ≡ v)
one_list_in d e = (d.answers ∙ sym e.answers, d.holds ∙ sym e.holds, d.leaves ∙ sym e.leaves)
