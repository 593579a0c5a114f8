-- The theorems of specs/Growing on a clean-up night by night. Assumes nothing.
use mathlib.Core.Path.{◌≡◌, refl, sym, ◌∙◌, ap, ap₂, subst}
use mathlib.Core.Bool.{Bool, true}
use mathlib.Core.List.{List, [], ◌++◌, append-nil, append_assoc}
use Prim.Native.Nat.{ℕ, zero, suc, ◌+◌, ◌-◌, ◌*◌, ◌≤◌, ◌<◌}
use native.Mathlib.Omega.{arith}
use lib.Dec.{ltb}
use lib.ListN.{length, take, drop, length-append}
use lib.Seq.{take_at, drop_at, drop-drop}
use borrow.Author.Tests.{ltb-true, ltb-false}
use Rattle.laws.specs.Pick.{pick}
use Rattle.laws.proofs.Tests.{cases}
use Rattle.laws.proofs.Sameness.{true_false, not_so}
use Rattle.store_records.specs.Store.{record_size, records_in}
use Rattle.store_clean.specs.Clean.{goes, record_of, left, cleaned_of, stay_count}
use Rattle.store_clean.proofs.Repeating.{each_has_one, goes_by}
use Rattle.store_clean.proofs.Leaving.{record_front}
use Rattle.store_clean.proofs.Cleaning as cleaning
use Rattle.store_clean.proofs.Moving.{Sized, Moved, repeats_moved, cleaned_size, cleaned_records, cleaned_sized, cleaned_again}
use Rattle.store_theorems.specs.Growing.{CleanedGrows, Nightly}
use Rattle.store_theorems.proofs.Carrying.{turned, stays_there, origin}
use Rattle.store_theorems.proofs.Pictures.{sized_when}
use Rattle.store_theorems.proofs.Growing.{there, goes_appended}

-- ---- the records that stay from record a on

left_from : (ℕ → Bool) → List ℕ → ℕ → ℕ → List ℕ
left_from gone store a zero = []
left_from gone store a (suc b) = left_from gone store a b ++ pick (gone (a + b)) [] (record_of store (a + b))

left_on : (gone : ℕ → Bool) (store : List ℕ) (a b : ℕ) → left gone store (a + b) ≡ left gone store a ++ left_from gone store a b
unfolding left left_from
left_on gone store a zero = let e : a + 0 ≡ a = omega arith in rw e (sym (append-nil (left gone store a)))
left_on gone store a (suc b) =
    let e : a + suc b ≡ suc (a + b) = omega arith in
    rw e
    (ap (λ (l : List ℕ). l ++ pick (gone (a + b)) [] (record_of store (a + b))) (left_on gone store a b)
    ∙ append_assoc (left gone store a) (left_from gone store a b) (pick (gone (a + b)) [] (record_of store (a + b))))

left_from_same : (f g : ℕ → Bool) (s t : List ℕ) (a c b : ℕ) → ((j : ℕ) → j < b → f (a + j) ≡ g (c + j)) → ((j : ℕ) → j < b → record_of s (a + j) ≡ record_of t (c + j))
    → left_from f s a b ≡ left_from g t c b
unfolding left_from
left_from_same f g s t a c zero e q = refl
left_from_same f g s t a c (suc b) e q =
    ap₂ (λ (x y : List ℕ). x ++ y) (left_from_same f g s t a c b (λ j h. e j (omega arith)) (λ j h. q j (omega arith)))
    (ap₂ (λ (y : Bool) (x : List ℕ). pick y [] x) (e b (omega arith)) (q b (omega arith)))

-- ---- a store that goes on

-- record j behind the first ones
record_behind : (front more : List ℕ) (count j : ℕ) → length front ≡ count * record_size → record_of (front ++ more) (count + j) ≡ record_of more j
unfolding record_of
record_behind front more count j e =
    let k : (count + j) * record_size ≡ count * record_size + j * record_size = omega arith in
    ap (take record_size)
    (ap (λ (i : ℕ). drop i (front ++ more)) k ∙ sym (drop-drop (j * record_size) (count * record_size) (front ++ more))
    ∙ ap (drop (j * record_size)) (drop_at front more (count * record_size) e))

module _ (store more : List ℕ) (sized : Sized store) (longer : Sized (store ++ more)) where
  front_left : (n : ℕ) → n ≤ records_in store → left (goes (store ++ more)) (store ++ more) n ≡ left (goes store) store n
  unfolding left
  front_left zero h = refl
  front_left (suc n) h =
      ap₂ (λ (x y : List ℕ). x ++ y) (front_left n (omega arith))
      (ap₂ (λ (y : Bool) (x : List ℕ). pick y [] x) (goes_appended store more sized longer n h) (record_front store more n (omega arith)))

  size : length store ≡ records_in store * record_size
  size = omega (arith, sized.even)

  count : records_in (store ++ more) ≡ records_in store + records_in more
  count = let l : length (store ++ more) ≡ length store + length more = length-append store more in omega (arith, l, sized.even)

  -- the cleaned store is that of the first records, and what stays of the others
  cleaned_on : cleaned_of (store ++ more) ≡ cleaned_of store ++ left_from (goes (store ++ more)) (store ++ more) (records_in store) (records_in more)
  cleaned_on =
      ap (left (goes (store ++ more)) (store ++ more)) count
      ∙ left_on (goes (store ++ more)) (store ++ more) (records_in store) (records_in more)
      ∙ ap (λ (l : List ℕ). l ++ left_from (goes (store ++ more)) (store ++ more) (records_in store) (records_in more)) (front_left (records_in store) (omega arith))

pub cleaned_grows : CleanedGrows
cleaned_grows store more lent after r d z wide later s e y =
    ap (take (r.kept * record_size)) (cleaning.front_is e y ∙ cleaned_on store more (sized_when d z) (sized_when e y))
    ∙ take_at (cleaned_of store) _ (r.kept * record_size) (cleaning.cleaned_length d z)
    ∙ sym (cleaning.front_is d z)

-- ---- cleaned first, then appended to

moved_on : {a b c : List ℕ} {k n m : ℕ} → Moved a b k n → Moved b c n m → Moved a c k m
moved_on p q = record { here = p.here; there = q.there; same_record = p.same_record ∙ q.same_record }

module _ (store more : List ℕ) (sized : Sized store) (longer : Sized (store ++ more)) (nightly : Sized (cleaned_of store ++ more)) where
  abbrev whole : List ℕ
  whole = store ++ more

  abbrev night : List ℕ
  night = cleaned_of store ++ more

  small : Sized (cleaned_of store)
  small = cleaned_sized store sized

  stay_count_lem : records_in (cleaned_of store) ≡ stay_count store
  stay_count_lem = cleaned_records store sized

  -- a record that stays, and an appended one, in both
  kept_moved : (k n : ℕ) → Moved (cleaned_of store) store k n → Moved night whole k n
  kept_moved k n m =
      moved_on (there (cleaned_of store) more small nightly k m.here) (moved_on m (turned (there store more sized longer n m.there)))

  new_moved : (j : ℕ) → j < records_in more → Moved night whole (stay_count store + j) (records_in store + j)
  new_moved j h =
      record {
        here = omega (arith, count (cleaned_of store) more small nightly, stay_count_lem);
        there = omega (arith, count store more sized longer);
        same_record =
            record_behind (cleaned_of store) more (stay_count store) j (cleaned_size store sized)
            ∙ sym (record_behind store more (records_in store) j (size store more sized longer));
      }

  module _ (j : ℕ) (h : j < records_in more) where
    goes_night : goes whole (records_in store + j) ≡ true → goes night (stay_count store + j) ≡ true
    goes_night t =
        let g = each_has_one whole (records_in store + j) t in
        let b = g.before in
        let e = g.earlier in
        cases (ltb e (records_in store))
        (λ l. let i : e < records_in store = ltb-true _ _ l in
        let m = stays_there store sized e i (sym (goes_appended store more sized longer e i) ∙ g.stays) in
        goes_by night (stay_count store + j) _ (omega (arith, m.here, stay_count_lem))
        (repeats_moved longer nightly (turned (new_moved j h)) (turned (kept_moved _ _ m)) g.repeated))
        (λ l. let low : records_in store ≤ e = ltb-false _ _ l in
        let q : records_in store + (e - records_in store) ≡ e = omega arith in
        let m : Moved whole night e (stay_count store + (e - records_in store)) =
        subst (λ (x : ℕ). Moved whole night x (stay_count store + (e - records_in store))) q (turned (new_moved (e - records_in store) (omega arith))) in
        goes_by night (stay_count store + j) _ (omega arith) (repeats_moved longer nightly (turned (new_moved j h)) m g.repeated))

    goes_whole : goes night (stay_count store + j) ≡ true → goes whole (records_in store + j) ≡ true
    goes_whole t =
        let g = each_has_one night (stay_count store + j) t in
        let b = g.before in
        let e = g.earlier in
        cases (ltb e (stay_count store))
        (λ l. let i : e < records_in (cleaned_of store) = omega (arith, ltb-true e (stay_count store) l, stay_count_lem) in
        let m = (origin store sized e i).moved in
        goes_by whole (records_in store + j) _ (omega (arith, m.there)) (repeats_moved nightly longer (new_moved j h) (kept_moved _ _ m) g.repeated))
        (λ l. let low : stay_count store ≤ e = ltb-false _ _ l in
        let q : stay_count store + (e - stay_count store) ≡ e = omega arith in
        let m : Moved night whole e (records_in store + (e - stay_count store)) =
        subst (λ (x : ℕ). Moved night whole x (records_in store + (e - stay_count store))) q (new_moved (e - stay_count store) (omega arith)) in
        goes_by whole (records_in store + j) _ (omega arith) (repeats_moved nightly longer (new_moved j h) m g.repeated))

    goes_alike : goes night (stay_count store + j) ≡ goes whole (records_in store + j)
    goes_alike =
        cases (goes whole (records_in store + j)) (λ t. goes_night t ∙ sym t) (λ f. not_so _ (λ t. true_false (sym (goes_whole t) ∙ f)) ∙ sym f)

  night_same : cleaned_of night ≡ cleaned_of whole
  night_same =
      cleaned_on (cleaned_of store) more small nightly
      ∙ ap₂ (λ (x y : List ℕ). x ++ y) (cleaned_again store sized)
      (ap (λ (k : ℕ). left_from (goes night) night k (records_in more)) stay_count_lem
      ∙ left_from_same (goes night) (goes whole) night whole (stay_count store) (records_in store) (records_in more) goes_alike (λ j h. (new_moved j h).same_record))
      ∙ sym (cleaned_on store more sized longer)

night_by : (store more bytes : List ℕ) → bytes ≡ cleaned_of store → Sized store → Sized (store ++ more) → Sized (bytes ++ more)
    → cleaned_of (bytes ++ more) ≡ cleaned_of (store ++ more)
night_by store more bytes e s l n =
    ap (λ (x : List ℕ). cleaned_of (x ++ more)) e ∙ night_same store more s l (subst (λ (x : List ℕ). Sized (x ++ more)) e n)

pub nightly : Nightly
nightly store more lent after r d z wide later s e y room last t f w =
    cleaning.front_is f w ∙ night_by store more _ (cleaning.front_is d z) (sized_when d z) (sized_when e y) (sized_when f w) ∙ sym (cleaning.front_is e y)
