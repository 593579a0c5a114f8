-- What a place that is put changes: five bytes of its record, and no other byte. Assumes nothing.
use mathlib.Core.Path.{◌≡◌, refl, sym, ◌∙◌, ap, ap₂}
use mathlib.Core.List.{List, [], ◌∷◌, ◌++◌, append_assoc}
use mathlib.Core.Logic.{◌⊎◌, ⊎_elim, inl, inr}
use Prim.Native.Nat.{ℕ, suc, ◌+◌, ◌-◌, ◌*◌, ◌≤◌, ◌<◌}
use native.Mathlib.Omega.{arith}
use lib.Dec.{ltb}
use borrow.Rule.Slice.PartMut.{put_mid}
use lib.ListN.{length, get_or, set, take, drop, length-set}
use lib.Seq.{sets, length-sets, sets-eq, drop-drop}
use borrow.Author.Tests.{ltb-true, ltb-false}
use Rattle.laws.proofs.Tests.{cases}
use Rattle.laws.proofs.Stores.{sets_append, sets_left, sets_miss, sets_hit}
use Rattle.bcn_spec.specs.Answers.{done}
use Rattle.probe_places.specs.declared.Place.{Place}
use Rattle.probe_places.specs.Places.{place_size, places_in, byte_at, format_in, column_in, row_in, place_in, place_refusal}
use Rattle.probe_places.specs.Readings.{Readable}
use Rattle.probe_places.proofs.Checks.{fine_so}
use Rattle.probe_places.proofs.Readings.{of_record}
use Rattle.probe_moves.specs.declared.Moved.{Moved}
use Rattle.probe_moves.proofs.Calls.{answer_number, moved_front}
use Rattle.probe_put.specs.Put.{place_bytes, put_store, PlacePut}
use Rattle.probe_put.proofs.Checks.{Puttable, puttable, head_fine}

-- ---- five bytes

-- a list that is copied into its part
sets_mid : (l w part : List ℕ) (at k : ℕ) → part ≡ w → k ≡ length w → at + length w ≤ length l → put_mid at k l part ≡ sets l at w
sets_mid l w part at k same size h =
    rw (same, size)
    (ap (λ (t : List ℕ). take at l ++ (w ++ t)) (drop-drop (length w) at l)
    ∙ sym (append_assoc (take at l) w (drop (at + length w) l))
    ∙ sym (sets-eq w l at h))

-- a byte, and two numbers of two bytes behind it
pub five : (l xs ys : List ℕ) (n a b c d e : ℕ) → xs ≡ b ∷ c ∷ [] → ys ≡ d ∷ e ∷ [] → n + 5 ≤ length l
    → put_mid (n + 3) (n + 5 - (n + 3)) (put_mid (n + 1) (n + 3 - (n + 1)) (set l n a) xs) ys ≡ sets l n (a ∷ b ∷ c ∷ d ∷ e ∷ [])
five l xs ys n a b c d e p q h =
    let one : List ℕ = set l n a in
    let long : length one ≡ length l = length-set l n a in
    let first = sets_mid one (b ∷ c ∷ []) xs (n + 1) (n + 3 - (n + 1)) p (omega arith) (omega arith) in
    let kept : length (sets one (n + 1) (b ∷ c ∷ [])) ≡ length one = length-sets one (n + 1) (b ∷ c ∷ []) in
    let next : n + 1 ≡ suc n = omega arith in
    ap (λ (t : List ℕ). put_mid (n + 3) (n + 5 - (n + 3)) t ys) first
    ∙ sets_mid (sets one (n + 1) (b ∷ c ∷ [])) (d ∷ e ∷ []) ys (n + 3) (n + 5 - (n + 3)) q (omega arith) (omega arith)
    ∙ sets_append (b ∷ c ∷ []) (d ∷ e ∷ []) one (n + 1) (n + 3) (omega arith)
    ∙ ap (λ (i : ℕ). sets one i (b ∷ c ∷ d ∷ e ∷ [])) next

-- ---- the store

pub put_length : (store : List ℕ) (n : ℕ) (p : Place) → length (put_store store n p) ≡ length store
unfolding put_store
put_length store n p = length-sets store (n * place_size + 5) (place_bytes p)

-- the copy, with the place in it
pub put_copied : (store lent part after : List ℕ) (n : ℕ) (p : Place) → n < places_in store → part ≡ store
    → after ≡ sets (part ++ drop (length store) lent) (n * place_size + 5) (place_bytes p) → after ≡ put_store store n p ++ drop (length store) lent
unfolding put_store
put_copied store lent part after n p h c e =
    e ∙ rw c (sets_left (place_bytes p) store (drop (length store) lent) (n * place_size + 5) (omega arith))

-- every byte but the five of the place is the store's
pub others_stay : (store : List ℕ) (n : ℕ) (p : Place) (j : ℕ) → (j < n * place_size + 5) ⊎ (n * place_size + 10 ≤ j) → get_or (put_store store n p) j 0 ≡ get_or store j 0
unfolding put_store
others_stay store n p j h =
    ⊎_elim
    (λ l. sets_miss (place_bytes p) store (n * place_size + 5) j (λ k b e. omega arith))
    (λ l. sets_miss (place_bytes p) store (n * place_size + 5) j (λ k b e. omega arith))
    h

-- ---- what the record then says

module _ (store : List ℕ) (n : ℕ) (p : Place) where
  -- the five bytes of the place
  put_byte : n < places_in store → (k : ℕ) → k < 5 → byte_at (put_store store n p) n (5 + k) ≡ get_or (place_bytes p) k 0
  unfolding put_store
  put_byte h k l =
      let q : n * place_size + (5 + k) ≡ n * place_size + 5 + k = omega arith in
      ap (λ (j : ℕ). get_or (sets store (n * place_size + 5) (place_bytes p)) j 0) q ∙ sets_hit (place_bytes p) store (n * place_size + 5) k l (omega arith)

  -- every other byte of the record, and of the other records
  pub head_stays : (k : ℕ) → k < 5 → byte_at (put_store store n p) n k ≡ byte_at store n k
  head_stays k h = others_stay store n p (n * place_size + k) (inl (omega arith))

  pub rest_stays : (k : ℕ) → 10 ≤ k → byte_at (put_store store n p) n k ≡ byte_at store n k
  rest_stays k h = others_stay store n p (n * place_size + k) (inr (omega arith))

  pub record_stays : (m k : ℕ) → (m ≡ n → ⊥) → k < place_size → byte_at (put_store store n p) m k ≡ byte_at store m k
  record_stays m k d h =
      cases (ltb m n)
      (λ t. let l : m < n = ltb-true _ _ t in others_stay store n p (m * place_size + k) (inl (omega arith)))
      (λ t. let l : n ≤ m = ltb-false _ _ t in others_stay store n p (m * place_size + k) (inr (omega (arith, d))))

  module _ (h : n < places_in store) (column : p.column < 65536) (row : p.row < 65536) where
    -- the place is the one that was given
    pub place_is : place_in (put_store store n p) n ≡ p
    place_is =
        let f = put_byte h 0 (omega arith) in
        let c0 = put_byte h 1 (omega arith) in
        let c1 = put_byte h 2 (omega arith) in
        let r0 = put_byte h 3 (omega arith) in
        let r1 = put_byte h 4 (omega arith) in
        let c : column_in (put_store store n p) n ≡ p.column = omega arith in
        let r : row_in (put_store store n p) n ≡ p.row = omega arith in
        ap₂ (λ (x y : ℕ). record { face = x; column = y; row = row_in (put_store store n p) n }) f c
        ∙ ap (λ (z : ℕ). record { face = p.face; column = p.column; row = z }) r

    -- the record is one that the record call reads, where the call is done
    pub readable : (room : ℕ) → Puttable store n p room → Readable (put_store store n p) n
    readable room k =
        let s = put_store store n p in
        let len : length s ≡ length store = put_length store n p in
        let a = k.fits in
        let b = k.even in
        sym
        (of_record s n (omega arith) (omega arith) (omega arith)
        (sym
        (fine_so s n (record {
          small = (let e : format_in s n ≡ format_in store n = head_stays 4 (omega arith) in let f = fine_head.0 in omega arith);
          zeros = λ j l. rest_stays (10 + j) (omega arith) ∙ fine_head.1 j l;
          place = ap place_refusal place_is ∙ k.place;
        }))))
      where
        fine_head : (format_in store n ≤ 1) × ((j : ℕ) → j < 6 → byte_at store n (10 + j) ≡ 0)
        fine_head = head_fine store n k.head

-- ---- what the call leaves

-- the lent bytes begin with that store, where the call is done
pub put_front : (store : List ℕ) (n : ℕ) (p : Place) {lent after : List ℕ} {r : Moved} → PlacePut store n p lent r after → r.answer ≡ done
    → take (length store) after ≡ put_store store n p
put_front store n p d z = moved_front d z (length store) (put_length store n p)

pub put_known : (store : List ℕ) (n : ℕ) (p : Place) {lent after : List ℕ} {r : Moved} → PlacePut store n p lent r after → r.answer ≡ done
    → Puttable store n p (length lent)
put_known store n p {lent} d z = puttable store n p (length lent) refl (sym (answer_number d) ∙ z)
