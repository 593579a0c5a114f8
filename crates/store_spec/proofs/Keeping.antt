-- Laws of the scratch space: a picture that is put at its place, a fingerprint that is put at its own, and what is found of them. Assumes
-- nothing.
use mathlib.Core.Path.{◌≡◌, sym, ◌∙◌, ap, ap₂}
use mathlib.Core.List.{List, ◌++◌, append_assoc}
use Prim.Native.Nat.{ℕ, ◌+◌, ◌-◌, ◌*◌, ◌≤◌, ◌<◌}
use native.Mathlib.Numerals.{add-one}
use native.Mathlib.Omega.{arith}
use lib.ListN.{length, get_or, take, drop, set, length-take, length-drop, take-append-drop, get_or-append}
use lib.Seq.{drop_at, drop-drop, get_or-take, get_or-drop, set-get_or, length-take-le}
use borrow.Author.Tests.{eq-eqb, ne_eqb}
use borrow.Rule.Slice.PartMut.{mid_of, put_mid}
use Rattle.laws.specs.Pick.{pick}
use Rattle.laws.specs.Made.{made, join}
use Rattle.laws.proofs.Rows.{length_made, get_d_made, made_more, made_next, made_each, made-same}
use Rattle.laws.proofs.Joined.{run_more, run_step, run_end, run_at_lem}
use Rattle.laws.proofs.Pasting.{rest_lent, rest_put}
use Rattle.bc6h_spec.specs.Picture.{value_count}
use Rattle.store_records.specs.Store.{records_in, format_of, Unrefused}
use Rattle.store_spec.specs.Shown.{picture_at, Reserved, is_record}
use Rattle.store_spec.specs.Scratch.{no_picture, kind_at, mixed_on, picture_mixed, print_of, print_at, scratch_value, slot_at, pictures_of, scratch_of, picture_in, Pictured, Kept}
use Rattle.store_spec.proofs.Shown.{is_record_lem, is_refused, picture_length}

-- ---- the fingerprint

pub kind_reserved : (store : List ℕ) (n : ℕ) → Reserved store n → no_picture ≡ kind_at store n
unfolding kind_at
kind_reserved store n e = rw (eq-eqb _ _ e)

pub kind_format : (store : List ℕ) (n : ℕ) → (Reserved store n → ⊥) → format_of store n ≡ kind_at store n
unfolding kind_at
kind_format store n e = rw (ne_eqb _ _ e)

-- a pixel more
pub mixed_more : (kind : ℕ) (picture : List ℕ) (pixel mix on red green blue : ℕ) → mix ≡ picture_mixed kind picture pixel → on ≡ mixed_on mix
    → red ≡ get_or picture (pixel * 3) 0 → green ≡ get_or picture (pixel * 3 + 1) 0 → blue ≡ get_or picture (pixel * 3 + 2) 0
    → on + red + green * 0x1000 + blue * 0x1000000 ≡ picture_mixed kind picture (pixel + 1)
unfolding picture_mixed
mixed_more kind picture pixel mix on red green blue p o r g b = rw (add-one pixel, o, p, r, g, b)

-- the picture of a record, in scratch space with a fingerprint for each record
pub at_count : (store scratch : List ℕ) (count n : ℕ) → count ≡ records_in store → Pictured store scratch → n < records_in store → Unrefused store n
    → picture_in scratch count n ≡ picture_at store n
at_count store scratch count n e p h u = rw e (p.at n h u)

-- ---- the pictures, one after the other

pub picture_in_length : (scratch : List ℕ) (count n : ℕ) → count + (value_count * n + value_count) ≤ length scratch
    → length (picture_in scratch count n) ≡ value_count
unfolding picture_in
picture_in_length scratch count n room = simp (length-take, length-drop) (omega arith)

module _ (store lent : List ℕ) where
  pub slot_length : (n : ℕ) → length (slot_at store lent n) ≡ value_count
  unfolding slot_at
  slot_length n = length_made (scratch_value store lent n) value_count

  pub slot_picture : (n : ℕ) → Unrefused store n → slot_at store lent n ≡ picture_at store n
  unfolding slot_at scratch_value
  slot_picture n u = sym (made_each (scratch_value store lent n) (picture_at store n) value_count (picture_length store n) (λ k h. rw (is_record_lem store n u)))

  slot_lent : (n : ℕ) → (Unrefused store n → ⊥) → value_count * n + value_count ≤ length lent → slot_at store lent n ≡ take value_count (drop (value_count * n) lent)
  unfolding slot_at scratch_value
  slot_lent n r room =
      sym (made_each (scratch_value store lent n) (take value_count (drop (value_count * n) lent)) value_count
      (length-take-le value_count (drop (value_count * n) lent) (simp length-drop (omega arith)))
      (λ k h. rw (is_refused store n r) (get_or-take value_count (drop (value_count * n) lent) k 0 h ∙ get_or-drop (value_count * n) lent k 0)))

  -- the first n are kept
  abbrev pub Fore : ℕ → List ℕ → Type 0
  Fore n pictures = pictures ≡ join (made (slot_at store lent) n) ++ drop (value_count * n) lent

  -- one that is refused leaves its place as it was
  pub slot_passed : (pictures : List ℕ) (n : ℕ) → Fore n pictures → (Unrefused store n → ⊥) → value_count * n + value_count ≤ length lent → Fore (n + 1) pictures
  slot_passed pictures n e r room =
      let next : value_count * n + value_count ≡ value_count * (n + 1) = omega arith in
      let behind : drop value_count (drop (value_count * n) lent) ≡ drop (value_count * (n + 1)) lent =
      drop-drop value_count (value_count * n) lent ∙ ap (λ (k : ℕ). drop k lent) next in
      e
      ∙ ap (λ (t : List ℕ). join (made (slot_at store lent) n) ++ t)
      (sym (take-append-drop value_count (drop (value_count * n) lent)) ∙ ap₂ (λ (s t : List ℕ). s ++ t) (sym (slot_lent n r room)) behind)
      ∙ sym (append_assoc (join (made (slot_at store lent) n)) (slot_at store lent n) (drop (value_count * (n + 1)) lent))
      ∙ ap (λ (t : List ℕ). t ++ drop (value_count * (n + 1)) lent) (sym (run_more (slot_at store lent) n))

  -- another is put there
  pub slot_put : (pictures part : List ℕ) (n : ℕ) → Fore n pictures → Unrefused store n
      → part ≡ picture_at store n ++ drop value_count (mid_of (value_count * n) (length pictures - value_count * n) pictures)
      → Fore (n + 1) (put_mid (value_count * n) (length pictures - value_count * n) pictures part)
  slot_put pictures part n e u shown =
      run_step (slot_at store lent) value_count slot_length lent pictures part n e
      (shown ∙ ap (λ (t : List ℕ). t ++ drop value_count (mid_of (value_count * n) (length pictures - value_count * n) pictures)) (sym (slot_picture n u)))

  pub slots_done : (pictures : List ℕ) (n : ℕ) → Fore n pictures → n ≤ records_in store → records_in store ≤ n → pictures ≡ pictures_of store lent
  unfolding pictures_of
  slots_done pictures n e l h = run_end (slot_at store lent) value_count slot_length lent pictures (records_in store) n e l h

-- ---- the whole

-- scratch space whose pictures, behind so many other values, were kept
pictures_kept : (store lent front : List ℕ) {scratch : List ℕ} → scratch ≡ front ++ pictures_of store lent → length front ≡ records_in store → Pictured store scratch
unfolding pictures_of picture_in
pictures_kept store lent front {scratch} e l = record {
  at =
      λ k h u. ap (take value_count)
      (sym (drop-drop (value_count * k) (records_in store) scratch)
      ∙ ap (drop (value_count * k)) (ap (drop (records_in store)) e ∙ drop_at front (pictures_of store lent) (records_in store) l))
      ∙ run_at_lem (slot_at store lent) value_count (slot_length store lent) (records_in store) k (drop (value_count * records_in store) lent) h
      ∙ slot_picture store lent k u;
}

module _ (store lent : List ℕ) where
  -- the first n fingerprints are put
  abbrev pub Printed : ℕ → List ℕ → Type 0
  Printed n scratch = scratch ≡ made (print_at store lent) n ++ drop n lent

  pub print_passed : (scratch : List ℕ) (n : ℕ) → Printed n scratch → (Unrefused store n → ⊥) → n < length lent → Printed (n + 1) scratch
  unfolding print_at
  print_passed scratch n e r h =
      let same : get_or scratch n 0 ≡ print_at store lent n = ap (λ (t : List ℕ). get_or t n 0) e ∙ made_next (print_at store lent) lent n 0 ∙ rw (is_refused store n r) in
      sym (set-get_or scratch n 0) ∙ ap₂ (λ (t : List ℕ) (x : ℕ). set t n x) e same ∙ made_more (print_at store lent) lent n h

  pub print_put : (n : ℕ) {print : ℕ} → Unrefused store n → print ≡ print_of (kind_at store n) (picture_at store n) → print ≡ print_at store lent n
  unfolding print_at
  print_put n u e = rw (is_record_lem store n u) e

  -- the pictures are as they were
  pub behind_prints : (scratch : List ℕ) (count n k : ℕ) → Printed n scratch → n ≤ count → picture_in scratch count k ≡ picture_in lent count k
  unfolding picture_in
  behind_prints scratch count n k e h =
      let far = count - n + value_count * k in
      let split : count + value_count * k ≡ n + far = omega arith in
      let rest : drop n scratch ≡ drop n lent =
      ap (drop n) e ∙ drop_at (made (print_at store lent) n) (drop n lent) n (length_made (print_at store lent) n) in
      ap (take value_count)
      (ap (λ (j : ℕ). drop j scratch) split ∙ sym (drop-drop far n scratch) ∙ ap (drop far) rest ∙ drop-drop far n lent
      ∙ ap (λ (j : ℕ). drop j lent) (sym split))

-- the pictures were kept in the part behind the fingerprints' places
pub put_behind : (store lent part : List ℕ) (count : ℕ) → count ≡ records_in store
    → part ≡ pictures_of store (mid_of count (length lent - count) lent)
    → put_mid count (length lent - count) lent part ≡ take (records_in store) lent ++ pictures_of store (drop (records_in store) lent)
put_behind store lent part count c e =
    rest_put lent count part
    ∙ ap (λ (t : List ℕ). take count lent ++ t) (e ∙ ap (pictures_of store) (rest_lent lent count))
    ∙ ap (λ (n : ℕ). take n lent ++ pictures_of store (drop n lent)) c

pub pictured_behind : (store lent part : List ℕ) (count : ℕ) → count ≡ records_in store → records_in store ≤ length lent
    → part ≡ pictures_of store (mid_of count (length lent - count) lent) → Pictured store (put_mid count (length lent - count) lent part)
pictured_behind store lent part count c room e =
    pictures_kept store (drop (records_in store) lent) (take (records_in store) lent) (put_behind store lent part count c e)
    (length-take-le (records_in store) lent room)

-- the fingerprints before the pictures: all that is kept
pub scratch_is : (store lent : List ℕ) {pictured scratch : List ℕ} → records_in store ≤ length lent
    → pictured ≡ take (records_in store) lent ++ pictures_of store (drop (records_in store) lent)
    → scratch ≡ made (print_at store pictured) (records_in store) ++ drop (records_in store) pictured → scratch ≡ scratch_of store lent
unfolding scratch_of print_at
scratch_is store lent {pictured} {scratch} room p e =
    let size : length (take (records_in store) lent) ≡ records_in store = length-take-le (records_in store) lent room in
    let before : (k : ℕ) → k < records_in store → print_at store pictured k ≡ print_at store lent k =
    λ k h. ap (λ (x : ℕ). pick (is_record store k) (print_of (kind_at store k) (picture_at store k)) x)
    (ap (λ (t : List ℕ). get_or t k 0) p ∙ get_or-append (take (records_in store) lent) _ 0 k (omega arith) ∙ get_or-take (records_in store) lent k 0 h) in
    e
    ∙ ap₂ (λ (s t : List ℕ). s ++ t) (made-same (print_at store pictured) (print_at store lent) (records_in store) before)
    (ap (drop (records_in store)) p ∙ drop_at (take (records_in store) lent) (pictures_of store (drop (records_in store) lent)) (records_in store) size)

pub scratch_kept : (store lent : List ℕ) {scratch : List ℕ} → scratch ≡ scratch_of store lent → Kept store scratch
unfolding scratch_of print_at
scratch_kept store lent {scratch} e =
    let count = records_in store in
    let size : length (made (print_at store lent) count) ≡ count = length_made (print_at store lent) count in
    record {
      pictured = pictures_kept store (drop count lent) (made (print_at store lent) count) e size;
      print =
          λ k h u. ap (λ (t : List ℕ). get_or t k 0) e
          ∙ get_or-append (made (print_at store lent) count) (pictures_of store (drop count lent)) 0 k (omega arith)
          ∙ get_d_made (print_at store lent) count k 0 h
          ∙ rw (is_record_lem store k u);
    }
