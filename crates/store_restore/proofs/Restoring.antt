-- The way back: which entry is a record's, the loop, the returns, and that the call admits one outcome. Assumes nothing.
use mathlib.Core.Path.{◌≡◌, refl, sym, ◌∙◌, ap, ap₂}
use mathlib.Core.Bool.{Bool, true, false}
use mathlib.Core.List.{List, ◌++◌, append_assoc}
use mathlib.Core.Logic.{⊎_elim}
use Prim.Native.Nat.{ℕ, zero, suc, ◌+◌, ◌-◌, ◌*◌, ◌≤◌, ◌<◌}
use native.Mathlib.Nat.{eq-or-lt_of_le}
use native.Mathlib.Numerals.{add-one}
use native.Mathlib.Omega.{arith}
use lib.Dec.{eqb, ltb}
use lib.ListN.{length, take, drop, length-append, length-take, length-drop}
use lib.Seq.{take_all, take-append-le, drop-append-le, paste}
use borrow.Author.Count.{below_none, below_more}
use borrow.Author.Tests.{lt-ltb, le-ltb, eq-eqb, ltb-true, ltb-false, eqb-true}
use Rattle.laws.specs.Pick.{both}
use Rattle.laws.specs.First.{first_below}
use Rattle.laws.proofs.Tests.{cases, both_true}
use Rattle.laws.proofs.Firsts.{first_passes, first_least}
use Rattle.laws.proofs.Sameness.{true_false, not_so}
use Rattle.bcn_spec.specs.Answers.{done}
use Rattle.store_records.specs.Store.{record_size, records_in}
use Rattle.store_clean.specs.Clean.{record_of, staying}
use Rattle.store_clean.proofs.Leaving.{record_length, staying_none, staying_gone, staying_more}
use Rattle.store_receipt.specs.declared.Entry.{Entry}
use Rattle.store_receipt.specs.Receipt.{entry_size, entries_in, removed_number, stays_at, entry_at, tile_bytes}
use Rattle.laws.proofs.Pasting.{pasted}
use Rattle.store_restore.specs.declared.Restored.{Restored}
use Rattle.store_restore.specs.Restore.{total_of, is_for, entry_for, is_told, put_back, restored_upto, restored_of, restored_at, RestoredInto, restore_refusal, with_tile, put_into}
use Rattle.store_restore.proofs.Fitting.{FitReceipt, climbs_to, Restorable}

-- ---- which entry is record n's

-- an entry with the number, if there is one
pub record Entered (receipt : List ℕ) (n : ℕ) : Type 0 where
  pub there : entry_for receipt n < entries_in receipt
  pub number : removed_number receipt (entry_for receipt n) ≡ n

module _ (receipt : List ℕ) (n : ℕ) where
  pub told_means : is_told receipt n ≡ true → Entered receipt n
  unfolding is_told entry_for
  told_means t =
      let l : first_below (is_for receipt n) (entries_in receipt) < entries_in receipt = ltb-true _ _ t in
      record { there = l; number = eqb-true _ _ (first_passes (is_for receipt n) (entries_in receipt) l) }

  pub told_low : (e : ℕ) → e < entries_in receipt → removed_number receipt e ≡ n → entry_for receipt n ≤ e
  unfolding entry_for
  told_low e h q = first_least (is_for receipt n) (entries_in receipt) e h (eq-eqb _ _ q)

  pub told_so : (e : ℕ) → e < entries_in receipt → removed_number receipt e ≡ n → is_told receipt n ≡ true
  unfolding is_told
  told_so e h q = lt-ltb (entry_for receipt n) (entries_in receipt) (omega (arith, told_low e h q))

-- the first `used` entries are of records below n, and the others are not
pub record Split (receipt : List ℕ) (n used : ℕ) : Type 0 where
  pub some : used ≤ entries_in receipt
  pub passed : (k : ℕ) → k < used → removed_number receipt k < n
  pub ahead : (k : ℕ) → used ≤ k → k < entries_in receipt → n ≤ removed_number receipt k

abbrev pub next : List ℕ → ℕ → ℕ → Bool
next receipt e n = both (ltb e (entries_in receipt)) (eqb (removed_number receipt e) n)

pub record IsNext (receipt : List ℕ) (e n : ℕ) : Type 0 where
  pub there : e < entries_in receipt
  pub number : removed_number receipt e ≡ n

pub is_next : (receipt : List ℕ) (e n : ℕ) → next receipt e n ≡ true → IsNext receipt e n
is_next receipt e n t =
    let a = both_true (ltb e (entries_in receipt)) _ t in record { there = ltb-true _ _ a.0; number = eqb-true _ _ a.1 }

pub not_next : (receipt : List ℕ) (e n : ℕ) → next receipt e n ≡ false → e < entries_in receipt → removed_number receipt e ≡ n → ⊥
not_next receipt e n f h q = true_false (sym (rw (lt-ltb _ _ h, eq-eqb _ _ q)) ∙ f)

-- as the code asks it
pub next_none : (receipt : List ℕ) (e n : ℕ) → entries_in receipt ≤ e → false ≡ next receipt e n
next_none receipt e n h = rw (le-ltb _ _ h)

pub next_is : (receipt : List ℕ) (e n : ℕ) (x : Entry) → x ≡ entry_at receipt e → e < entries_in receipt → eqb x.number n ≡ next receipt e n
next_is receipt e n x q h = rw (lt-ltb _ _ h) (ap (λ (y : Entry). eqb y.number n) q)

pub split_none : (receipt : List ℕ) → Split receipt 0 0
split_none receipt = record { some = omega arith; passed = below_none _; ahead = λ k l h. omega arith }

module _ {receipt : List ℕ} {total n used : ℕ} (w : FitReceipt receipt total) (s : Split receipt n used) where
  pub told_here : IsNext receipt used n → entry_for receipt n ≡ used
  told_here x =
      let low = told_low receipt n used x.there x.number in
      let e = told_means receipt n (told_so receipt n used x.there x.number) in
      ⊎_elim (λ q. q)
      (λ l. absurd (omega (arith, s.passed (entry_for receipt n) l, e.number)))
      (eq-or-lt_of_le low)

  pub split_told : IsNext receipt used n → Split receipt (n + 1) (used + 1)
  split_told x =
      let h = x.there in
      let q = x.number in
      record {
        some = omega arith;
        passed = below_more _ _ (λ k l. omega (arith, s.passed k l)) (omega (arith, q));
        ahead = λ k l m. omega (arith, q, climbs_to receipt total w used k (omega arith) m);
      }

  module _ (f : next receipt used n ≡ false) where
    past : (k : ℕ) → used ≤ k → k < entries_in receipt → n < removed_number receipt k
    past k l h =
        let a : removed_number receipt used + (k - used) ≤ removed_number receipt k = climbs_to receipt total w used k l h in
        let b : n ≤ removed_number receipt used = s.ahead used (omega arith) (omega arith) in
        ⊎_elim (λ q. absurd (not_next receipt used n f (omega arith) (sym q))) (λ m. omega (arith, a, m)) (eq-or-lt_of_le b)

    pub not_told : is_told receipt n ≡ false
    not_told =
        not_so _
        (λ t. let e = told_means receipt n t in
        let h = e.there in
        let q = e.number in
        cases (ltb (entry_for receipt n) used) (λ l. omega (arith, q, s.passed (entry_for receipt n) (ltb-true _ _ l)))
        (λ g. omega (arith, q, past (entry_for receipt n) (ltb-false _ _ g) h)))

    pub split_past : Split receipt (n + 1) used
    split_past =
        record {
          some = s.some;
          passed = λ k l. omega (arith, s.passed k l);
          ahead = λ k l h. omega (arith, past k l h);
        }

    -- so many records of the cleaned store are left
    pub left_over : (count : ℕ) → total ≡ count + entries_in receipt → n < total → n < used + count
    left_over count e h =
        let m = s.some in
        ⊎_elim (λ q. omega (arith, q, e))
        (λ l. let last : ℕ = entries_in receipt - 1 in
        let b : last < entries_in receipt = omega (arith, l) in
        let c : removed_number receipt used + (last - used) ≤ removed_number receipt last = climbs_to receipt total w used last (omega (arith, l)) b in
        let d : n < removed_number receipt used = past used (omega arith) l in
        let g : removed_number receipt last < total = (w.fits last b).inside in
        omega (arith, l, c, d, g, e))
        (eq-or-lt_of_le m)

-- ---- one record more

full : (front lent : List ℕ) (at : ℕ) → length front ≡ at → at ≤ length lent → length (front ++ drop at lent) ≡ length lent
full front lent at e h = simp (length-append, length-drop) (omega arith)

module _ (front receipt lent out : List ℕ) (n e : ℕ) (size : length front ≡ n * record_size) (w : out ≡ front ++ drop (n * record_size) lent)
    (there : e < entries_in receipt) (before : stays_at receipt e < n) where
  tile_length : length (tile_bytes receipt e) ≡ 4
  tile_length = simp (length-take, length-drop) (omega arith)

  abbrev from : ℕ
  from = stays_at receipt e * record_size + 4

  tiled : with_tile receipt e out n ≡ (front ++ tile_bytes receipt e) ++ drop (n * record_size + 4) lent
  tiled = pasted front (drop (e * entry_size + 4) receipt) lent out (n * record_size) 4 size w

  same_part : take 20 (drop from (with_tile receipt e out n)) ≡ take 20 (drop from front)
  same_part =
      ap (λ (l : List ℕ). take 20 (drop from l)) (tiled ∙ append_assoc front (tile_bytes receipt e) (drop (n * record_size + 4) lent))
      ∙ ap (take 20) (drop-append-le from front (tile_bytes receipt e ++ drop (n * record_size + 4) lent) (omega (arith, size)))
      ∙ take-append-le 20 (drop from front) (tile_bytes receipt e ++ drop (n * record_size + 4) lent) (simp length-drop (omega (arith, size)))

  pub put_is : put_into receipt e out n ≡ (front ++ put_back front receipt e) ++ drop ((n + 1) * record_size) lent
  unfolding put_into put_back
  put_is =
      let w2 = with_tile receipt e out n in
      let tile = tile_bytes receipt e in
      let at : length (front ++ tile) ≡ n * record_size + 4 = simp length-append (omega (arith, size, tile_length)) in
      let end : n * record_size + 4 + 20 ≡ (n + 1) * record_size = omega arith in
      pasted (front ++ tile) (drop from w2) lent w2 (n * record_size + 4) 20 at tiled
      ∙ ap₂ (λ (x : List ℕ) (k : ℕ). x ++ drop k lent)
      (ap (λ (x : List ℕ). (front ++ tile) ++ x) same_part ∙ append_assoc front tile (take 20 (drop from front))) end

  pub put_length : length (put_back front receipt e) ≡ record_size
  unfolding put_back
  put_length =
      let p : length (take 20 (drop from front)) ≡ 20 = simp (length-take, length-drop) (omega (arith, size)) in
      simp length-append (omega (arith, tile_length, p))

-- the code's two copies
pub put_both : (receipt : List ℕ) (e : ℕ) (lent : List ℕ) (n : ℕ) (first second : List ℕ) (stays : ℕ) → stays ≡ stays_at receipt e
    → first ≡ with_tile receipt e lent n → second ≡ paste first (n * record_size + 4) (drop (stays * record_size + 4) first) 20
    → second ≡ put_into receipt e lent n
unfolding put_into
put_both receipt e lent n first second stays q a p =
    p ∙ ap₂ (λ (l : List ℕ) (k : ℕ). paste l (n * record_size + 4) (drop (k * record_size + 4) l) 20) a q

-- ---- the loop

pub record Back (cleaned receipt lent out : List ℕ) (n used : ℕ) : Type 0 where
  pub inside : n ≤ total_of cleaned receipt
  pub split : Split receipt n used
  pub counted : used + staying (is_told receipt) n ≡ n
  pub written : out ≡ restored_upto cleaned receipt n ++ drop (n * record_size) lent
  pub front : length (restored_upto cleaned receipt n) ≡ n * record_size
  pub same_length : length out ≡ length lent

pub back_none : (cleaned receipt lent : List ℕ) → Back cleaned receipt lent lent 0 0
unfolding restored_upto
back_none cleaned receipt lent =
    record {
      inside = omega arith;
      split = split_none receipt;
      counted = omega (arith, staying_none (is_told receipt));
      written = refl;
      front = refl;
      same_length = refl;
    }

restored_told : (cleaned receipt : List ℕ) (n : ℕ) → is_told receipt n ≡ true
    → restored_upto cleaned receipt (n + 1) ≡ restored_upto cleaned receipt n ++ put_back (restored_upto cleaned receipt n) receipt (entry_for receipt n)
unfolding restored_upto
restored_told cleaned receipt n t = rw (add-one n, t)

restored_next : (cleaned receipt : List ℕ) (n : ℕ) → is_told receipt n ≡ false
    → restored_upto cleaned receipt (n + 1) ≡ restored_upto cleaned receipt n ++ record_of cleaned (staying (is_told receipt) n)
unfolding restored_upto
restored_next cleaned receipt n f = rw (add-one n, f)

module _ {cleaned receipt lent out : List ℕ} {n used : ℕ} (b : Back cleaned receipt lent out n used) (r : Restorable cleaned receipt (length lent))
    (h : n < total_of cleaned receipt) where
  grown : (piece : List ℕ) → length piece ≡ record_size → restored_upto cleaned receipt (n + 1) ≡ restored_upto cleaned receipt n ++ piece
      → length (restored_upto cleaned receipt (n + 1)) ≡ (n + 1) * record_size
  grown piece l e = ap length e ∙ simp length-append (omega (arith, b.front, l))

  module _ (x : IsNext receipt used n) where
    pub before_next : stays_at receipt used < n
    before_next = omega (arith, x.number, (r.whole.fits used x.there).before)

    pub back_told : {after : List ℕ} → after ≡ put_into receipt used out n → Back cleaned receipt lent after (n + 1) (used + 1)
    back_told {after} q =
        let so_far = restored_upto cleaned receipt n in
        let t = told_so receipt n used x.there x.number in
        let e : restored_upto cleaned receipt (n + 1) ≡ so_far ++ put_back so_far receipt used =
        restored_told cleaned receipt n t ∙ ap (λ (k : ℕ). so_far ++ put_back so_far receipt k) (told_here r.whole b.split x) in
        let size = grown (put_back so_far receipt used) (put_length so_far receipt lent out n used b.front b.written x.there before_next) e in
        let is : after ≡ restored_upto cleaned receipt (n + 1) ++ drop ((n + 1) * record_size) lent =
        q ∙ put_is so_far receipt lent out n used b.front b.written x.there before_next
        ∙ ap (λ (l : List ℕ). l ++ drop ((n + 1) * record_size) lent) (sym e) in
        record {
          inside = omega arith;
          split = split_told r.whole b.split x;
          counted = omega (arith, b.counted, staying_gone (is_told receipt) n (staying (is_told receipt) n) refl t);
          written = is;
          front = size;
          same_length = ap length is ∙ full (restored_upto cleaned receipt (n + 1)) lent ((n + 1) * record_size) size (omega (arith, r.room_for));
        }

  module _ (f : next receipt used n ≡ false) where
    place_is : staying (is_told receipt) n ≡ n - used
    place_is = omega (arith, b.counted)

    pub next_there : n - used < records_in cleaned
    next_there = omega (arith, b.counted, left_over r.whole b.split f (records_in cleaned) refl h)

    pub back_next : {after : List ℕ} → after ≡ paste out (n * record_size) (record_of cleaned (n - used)) record_size
        → Back cleaned receipt lent after (n + 1) used
    back_next {after} q =
        let so_far = restored_upto cleaned receipt n in
        let piece = record_of cleaned (n - used) in
        let u = not_told r.whole b.split f in
        let e : restored_upto cleaned receipt (n + 1) ≡ so_far ++ piece =
        restored_next cleaned receipt n u ∙ ap (λ (k : ℕ). so_far ++ record_of cleaned k) place_is in
        let l : length piece ≡ record_size = record_length cleaned (n - used) next_there in
        let size = grown piece l e in
        let end : n * record_size + record_size ≡ (n + 1) * record_size = omega arith in
        let is : after ≡ restored_upto cleaned receipt (n + 1) ++ drop ((n + 1) * record_size) lent =
        q ∙ pasted so_far piece lent out (n * record_size) record_size b.front b.written
        ∙ ap₂ (λ (x : List ℕ) (k : ℕ). x ++ drop k lent)
        (ap (λ (x : List ℕ). so_far ++ x) (take_all record_size piece (omega (arith, l))) ∙ sym e) end in
        record {
          inside = omega arith;
          split = split_past r.whole b.split f;
          counted = omega (arith, b.counted, staying_more (is_told receipt) n (staying (is_told receipt) n) refl u);
          written = is;
          front = size;
          same_length = ap length is ∙ full (restored_upto cleaned receipt (n + 1)) lent ((n + 1) * record_size) size (omega (arith, r.room_for));
        }

-- ---- the statement, at each return

module _ (cleaned receipt lent : List ℕ) where
  pub restored_refused : (number : ℕ) {r : Restored} → number ≡ restore_refusal cleaned receipt (length lent) → (number ≡ done → ⊥)
      → r ≡ record { answer = number; records = 0 } → RestoredInto cleaned receipt lent r lent
  restored_refused zero a z e = absurd (z refl)
  restored_refused (suc k) a z e = let s = sym a in record { answers = rw s e; holds = rw s }

  pub restored_done : {after : List ℕ} {total n used : ℕ} → total ≡ total_of cleaned receipt → restore_refusal cleaned receipt (length lent) ≡ done → Back cleaned receipt lent after n used
      → total_of cleaned receipt ≤ n → RestoredInto cleaned receipt lent (record { answer = done; records = total }) after
  restored_done {after} {total} {n} t z b l =
      let q : n ≡ total_of cleaned receipt = omega (arith, b.inside) in
      record {
        answers = rw (z, t);
        holds = rw z (b.written ∙ ap (λ (m : ℕ). restored_upto cleaned receipt m ++ drop (m * record_size) lent) q);
      }

-- ---- what it says

answer_is : (k count : ℕ) → (restored_at k count).answer ≡ k
answer_is zero count = refl
answer_is (suc k) count = refl

module _ {cleaned receipt lent after : List ℕ} {r : Restored} (d : RestoredInto cleaned receipt lent r after) where
  pub one_outcome : {s : Restored} {other : List ℕ} → RestoredInto cleaned receipt lent s other → (r ≡ s) × (after ≡ other)
  one_outcome e = (d.answers ∙ sym e.answers, d.holds ∙ sym e.holds)

  pub answer_number : r.answer ≡ restore_refusal cleaned receipt (length lent)
  answer_number =
      ap (λ (x : Restored). x.answer) d.answers ∙ answer_is (restore_refusal cleaned receipt (length lent)) (total_of cleaned receipt)

  -- a refusal is its number alone, and no byte is changed
  pub silent : (r.answer ≡ done → ⊥) → (r ≡ record { answer = r.answer; records = 0 }) × (after ≡ lent)
  silent n = go (restore_refusal cleaned receipt (length lent)) refl
    where
      go : (k : ℕ) → restore_refusal cleaned receipt (length lent) ≡ k → (r ≡ record { answer = r.answer; records = 0 }) × (after ≡ lent)
      go zero q = absurd (n (answer_number ∙ q))
      go (suc k) q =
          let a : r.answer ≡ suc k = answer_number ∙ q in
          let e : r ≡ record { answer = suc k; records = 0 } = rw q at d.answers in
          (e ∙ ap (λ (x : ℕ). record { answer = x; records = 0 }) (sym a), rw q at d.holds)

  -- done: the whole store, with the rest of the lent bytes as it was
  module _ (z : restore_refusal cleaned receipt (length lent) ≡ done) where
    pub all_restored : r ≡ record { answer = done; records = total_of cleaned receipt }
    all_restored = rw z at d.answers

    pub store_is : after ≡ restored_of cleaned receipt ++ drop (total_of cleaned receipt * record_size) lent
    store_is = rw z at d.holds
