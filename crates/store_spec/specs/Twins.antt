-- S-42, S-43: what a twin is, in words and by computing; the marks and counts of a store. Assumes nothing.
use Rattle.std.specs.Prelude.{◌≡◌, Bool, not, List, [], ◌∷◌, ◌++◌, ℕ, zero, suc, ◌/◌, ◌%◌, ◌<◌, eqb, ltb, length, get_or, drop}
use Rattle.laws.specs.Pick.{pick, both}
use Rattle.laws.specs.Checks.{first_met, ifDone, or_next}
use Rattle.laws.specs.Every.{same}
use Rattle.laws.specs.Made.{made, count_of}
use Rattle.laws.specs.First.{first_below}
use Rattle.bcn_spec.specs.Answers.{done, short_output, long_store, uneven_store}
use Rattle.store_records.specs.Store.{record_size, store_limit, records_in, format_of, Unrefused}
use Rattle.store_spec.specs.Shown.{picture_at, Reserved, is_record, is_reserved}
use Rattle.store_spec.specs.Scratch.{scratch_entry, scratch_of}
use Rattle.store_spec.specs.declared.TwinList.{TwinList}

-- ---- in words

-- S-42: two unrefused records of one format, with the same 48 values, neither of them reserved.
pub record Alike (store : List ℕ) (n earlier : ℕ) : Type 0 where
  pub unrefused : Unrefused store n
  pub earlier_unrefused : Unrefused store earlier
  pub same_format : format_of store earlier ≡ format_of store n
  pub unreserved : Reserved store n → ⊥
  pub earlier_unreserved : Reserved store earlier → ⊥
  pub same_values : picture_at store earlier ≡ picture_at store n

-- S-42: a twin is a record with an earlier one that is alike.
pub record Twin (store : List ℕ) (n : ℕ) : Type 0 where
  pub earlier : ℕ
  pub before : earlier < n
  pub shows : Alike store n earlier

-- S-43: the marks of kept records, twins and refused ones.
abbrev pub kept_mark : ℕ
kept_mark = 0

abbrev pub twin_mark : ℕ
twin_mark = 1

abbrev pub bad_mark : ℕ
bad_mark = 2

abbrev pub marks : List ℕ
marks = kept_mark ∷ twin_mark ∷ bad_mark ∷ []

-- S-43: mark 2 for a refused record, 1 for a twin, 0 for any other.
pub record Marked (store : List ℕ) (n mark : ℕ) : Type 0 where
  pub bad : (Unrefused store n → ⊥) → mark ≡ bad_mark
  pub twin : Twin store n → mark ≡ twin_mark
  pub kept : Unrefused store n → (Twin store n → ⊥) → mark ≡ kept_mark

-- ---- by computing: proofs/ shows that `mark_at` is the one number that `Marked` admits

-- S-42: record n holds a picture of the format: it is not refused, of that format and not reserved
unfoldable pub holding : List ℕ → ℕ → ℕ → Bool
holding store n format = both (is_record store n) (both (eqb (format_of store n) format) (not (is_reserved store n)))

-- record n holds such a picture and decodes to the values
unfoldable pub showing : List ℕ → ℕ → ℕ → List ℕ → Bool
showing store n format values = both (holding store n format) (same (picture_at store n) values)

unfoldable pub alike : List ℕ → ℕ → ℕ → Bool
alike store n earlier = both (holding store n (format_of store n)) (showing store earlier (format_of store n) (picture_at store n))

-- S-42, S-83: the first record that record n is a twin of; n where there is none.
unfoldable pub first_twin : List ℕ → ℕ → ℕ
first_twin store n = first_below (alike store n) n

-- S-43: the mark of record n, and the marks of a store.
unfoldable pub mark_at : List ℕ → ℕ → ℕ
mark_at store n = pick (is_record store n) (pick (ltb (first_twin store n) n) twin_mark kept_mark) bad_mark

unfoldable pub marks_of : List ℕ → List ℕ
marks_of store = made (mark_at store) (records_in store)

-- marks that begin so
pub record Marks (store marks : List ℕ) : Type 0 where
  pub at : (n : ℕ) → n < records_in store → get_or marks n 0 ≡ mark_at store n

-- ---- the call

-- S-43: 5, 6, 3: the first check that is met, from the store's size and the room for marks.
abbrev pub list_checks : ℕ → ℕ → List (Bool × ℕ)
list_checks size room =
    (ltb store_limit size, long_store) ∷
    (not (eqb (size % record_size) 0), uneven_store) ∷
    (ltb room (size / record_size), short_output) ∷ []

unfoldable pub list_refusal : ℕ → ℕ → ℕ
list_refusal size room = first_met (list_checks size room)

abbrev pub refusal : ℕ → TwinList
refusal number = record { answer = number; kept = 0; twins = 0; bad = 0 }

-- S-43: three counts, each the number of its marks.
abbrev pub answer_at : ℕ → List ℕ → TwinList
answer_at zero store =
    record {
      answer = done;
      kept = count_of kept_mark (marks_of store);
      twins = count_of twin_mark (marks_of store);
      bad = count_of bad_mark (marks_of store);
    }
answer_at (suc number) store = refusal (suc number)

-- S-30: done writes exactly one mark a record; a refusal writes nothing.
abbrev pub marks_at : ℕ → List ℕ → List ℕ → List ℕ
marks_at number store lent = ifDone number (marks_of store ++ drop (records_in store) lent) lent

-- S-43: the statement of `twin_list`: its answer r, and the lent marks `after`.
pub record Listed (store lent : List ℕ) (r : TwinList) (after : List ℕ) : Type 0 where
  pub answers : r ≡ answer_at (list_refusal (length store) (length lent)) store
  pub holds : after ≡ marks_at (list_refusal (length store) (length lent)) store lent

-- ---- the call over lent scratch space

-- S-85: 5, 6, 3, where 3 is also met by scratch space for fewer records than the store has.
unfoldable pub scratch_refusal : ℕ → ℕ → ℕ → ℕ
scratch_refusal size room space = or_next (list_refusal size room) (list_refusal size (space / scratch_entry))

-- S-85: a refusal changes no lent value either
abbrev pub scratch_at : ℕ → List ℕ → List ℕ → List ℕ
scratch_at number store lent = ifDone number (scratch_of store lent) lent

pub record ListedIn (store lent space : List ℕ) (r : TwinList) (after spaceAfter : List ℕ) : Type 0 where
  pub answers : r ≡ answer_at (scratch_refusal (length store) (length lent) (length space)) store
  pub holds : after ≡ marks_at (scratch_refusal (length store) (length lent) (length space)) store lent
  pub leaves : spaceAfter ≡ scratch_at (scratch_refusal (length store) (length lent) (length space)) store space
