-- Laws of `left`, `staying` and `going`: the records that are left where some go, one by one. Assumes nothing.
use mathlib.Core.Path.{◌≡◌, refl, sym, ◌∙◌, ap, ap₂}
use mathlib.Core.Bool.{Bool, true, false}
use mathlib.Core.List.{List, [], ◌++◌, append-nil}
use mathlib.Core.Logic.{⊎_elim}
use Prim.Native.Nat.{ℕ, zero, suc, ◌+◌, ◌*◌, ◌≤◌, ◌<◌}
use native.Mathlib.Nat.{not-suc-le-zero, le_of_suc-le-suc, eq-or-lt_of_le}
use native.Mathlib.Numerals.{add-one}
use native.Mathlib.Omega.{arith}
use lib.Dec.{eqb, ltb}
use lib.ListN.{length, get_or, take, drop, length-append, length-take, length-drop}
use lib.Seq.{take_all, drop_at, take-append-le, drop-append-le, take-add, take-take, take-suc, get_or-take, get_or-drop, paste}
use borrow.Author.Tests.{ltb-true, ltb-false}
use Rattle.laws.specs.Pick.{pick}
use Rattle.laws.specs.Made.{count_of}
use Rattle.laws.proofs.Tests.{cases}
use Rattle.laws.proofs.Counts.{count_last}
use Rattle.store_records.specs.Store.{record_size, records_in}
use Rattle.store_clean.specs.Clean.{record_of, left, staying, going}

-- ---- a record's 24 bytes

pub record_length : (store : List ℕ) (n : ℕ) → n < records_in store → length (record_of store n) ≡ record_size
unfolding record_of
record_length store n h = simp (length-take, length-drop) (omega arith)

pub record_byte : (store : List ℕ) (n k : ℕ) → k < record_size → get_or (record_of store n) k 0 ≡ get_or store (n * record_size + k) 0
unfolding record_of
record_byte store n k h = get_or-take record_size (drop (n * record_size) store) k 0 h ∙ get_or-drop (n * record_size) store k 0

-- copied to lent bytes, as a part of the store
pub record_pasted : (store : List ℕ) (n : ℕ) (lent : List ℕ) (to : ℕ)
    → paste lent to (drop (n * record_size) store) record_size ≡ paste lent to (record_of store n) record_size
unfolding record_of
record_pasted store n lent to =
    ap (λ (x : List ℕ). take to lent ++ x ++ drop (to + record_size) lent) (sym (take-take record_size record_size (drop (n * record_size) store) (omega arith)))

-- in a list that goes on, and at the seam of two
pub record_front : (a b : List ℕ) (k : ℕ) → k * record_size + record_size ≤ length a → record_of (a ++ b) k ≡ record_of a k
unfolding record_of
record_front a b k h =
    ap (take record_size) (drop-append-le (k * record_size) a b (omega arith))
    ∙ take-append-le record_size (drop (k * record_size) a) b (simp length-drop (omega arith))

pub record_seam : (a r : List ℕ) (k : ℕ) → length a ≡ k * record_size → length r ≡ record_size → record_of (a ++ r) k ≡ r
unfolding record_of
record_seam a r k e l = ap (take record_size) (drop_at a r (k * record_size) e) ∙ take_all record_size r (omega arith)

-- ---- how many stay

module _ (gone : ℕ → Bool) where
  pub staying_none : 0 ≡ staying gone 0
  unfolding staying
  staying_none = refl

  pub staying_gone : (n k : ℕ) → k ≡ staying gone n → gone n ≡ true → k ≡ staying gone (n + 1)
  unfolding staying
  staying_gone n k e t = rw (add-one n, t) (omega arith)

  pub staying_more : (n k : ℕ) → k ≡ staying gone n → gone n ≡ false → k + 1 ≡ staying gone (n + 1)
  unfolding staying
  staying_more n k e f = rw (add-one n, f) (omega arith)

  pub staying_adds : (n : ℕ) → staying gone n + going gone n ≡ n
  unfolding staying going
  staying_adds zero = refl
  staying_adds (suc n) = cases (gone n) (λ t. rw t (omega (arith, staying_adds n))) (λ f. rw f (omega (arith, staying_adds n)))

  pub staying_mono : (j k : ℕ) → j ≤ k → staying gone j ≤ staying gone k
  unfolding staying
  staying_mono j zero h = let e : j ≡ 0 = omega arith in rw e (omega arith)
  staying_mono j (suc k) h =
      ⊎_elim (λ e. rw e (omega arith)) (λ l. omega (arith, staying_mono j k (le_of_suc-le-suc l))) (eq-or-lt_of_le h)

  pub staying_less : (j k : ℕ) → j < k → gone j ≡ false → staying gone j < staying gone k
  unfolding staying
  staying_less j k h f =
      let m : staying gone j + pick (gone j) 0 1 ≤ staying gone k = staying_mono (suc j) k h in
      omega (arith, rw f at m)

  -- the number that stands at place k
  pub record Place (m k : ℕ) : Type 0 where
    pub number : ℕ
    pub below : number < m
    pub stays : gone number ≡ false
    pub place : staying gone number ≡ k

  wider : {m k : ℕ} → Place m k → Place (suc m) k
  wider p = record { number = p.number; below = (let l = p.below in omega arith); stays = p.stays; place = p.place }

  pub place_of : (m k : ℕ) → k < staying gone m → Place m k
  unfolding staying
  place_of zero k h = absurd (not-suc-le-zero h)
  place_of (suc m) k h =
      cases (gone m) (λ t. wider (place_of m k (omega (arith, rw t at h))))
      (λ f. cases (ltb k (staying gone m)) (λ l. wider (place_of m k (ltb-true _ _ l)))
      (λ g. let low : staying gone m ≤ k = ltb-false _ _ g in
      record { number = m; below = omega arith; stays = f; place = omega (arith, rw f at h) }))

  -- ---- the bytes of those that stay

  module _ (store : List ℕ) where
    pub left_none : (lent : List ℕ) → lent ≡ left gone store 0 ++ drop (0 * record_size) lent
    unfolding left
    left_none lent = refl

    pub left_length : (n : ℕ) → n ≤ records_in store → length (left gone store n) ≡ staying gone n * record_size
    unfolding left staying
    left_length zero h = refl
    left_length (suc n) h =
        cases (gone n) (λ t. rw t (simp length-append (omega (arith, left_length n (omega arith)))))
        (λ f. rw f (simp length-append (omega (arith, left_length n (omega arith), record_length store n h))))

    pub left_gone : (n : ℕ) → gone n ≡ true → left gone store (n + 1) ≡ left gone store n
    unfolding left
    left_gone n t = rw (add-one n, t) (append-nil (left gone store n))

    pub left_more : (n : ℕ) → gone n ≡ false → left gone store (n + 1) ≡ left gone store n ++ record_of store n
    unfolding left
    left_more n f = rw (add-one n, f)

    -- each that stays is there, at its place
    pub left_at : (m n : ℕ) → n < m → m ≤ records_in store → gone n ≡ false → record_of (left gone store m) (staying gone n) ≡ record_of store n
    unfolding left
    left_at zero n h r f = absurd (not-suc-le-zero h)
    left_at (suc m) n h r f =
        ⊎_elim
        (λ e. let g : gone m ≡ false = ap gone (sym e) ∙ f in
        rw (e, g) (record_seam (left gone store m) (record_of store m) (staying gone m) (left_length m (omega arith)) (record_length store m r)))
        (λ l. record_front (left gone store m) (pick (gone m) [] (record_of store m)) (staying gone n)
        (omega (arith, left_length m (omega arith), staying_less n m l f))
        ∙ left_at m n l (omega arith) f)
        (eq-or-lt_of_le (le_of_suc-le-suc h))

    -- where none of the first n goes, they are the first n
    pub left_all : (n : ℕ) → n ≤ records_in store → ((k : ℕ) → k < n → gone k ≡ false) → left gone store n ≡ take (n * record_size) store
    unfolding left record_of
    left_all zero h s = refl
    left_all (suc n) h s =
        let next : n * record_size + record_size ≡ suc n * record_size = omega arith in
        rw (s n (omega arith))
        (ap (λ (l : List ℕ). l ++ record_of store n) (left_all n (omega arith) (λ k l. s k (omega arith)))
        ∙ sym (take-add (n * record_size) record_size store) ∙ ap (λ (k : ℕ). take k store) next)

-- only the records that are looked at count
pub left_same : (f g : ℕ → Bool) (store : List ℕ) (n : ℕ) → ((k : ℕ) → k < n → f k ≡ g k) → left f store n ≡ left g store n
unfolding left
left_same f g store zero e = refl
left_same f g store (suc n) e =
    ap₂ (λ (l : List ℕ) (t : Bool). l ++ pick t [] (record_of store n)) (left_same f g store n (λ k h. e k (omega arith))) (e n (omega arith))

pub staying_same : (f g : ℕ → Bool) (n : ℕ) → ((k : ℕ) → k < n → f k ≡ g k) → staying f n ≡ staying g n
unfolding staying
staying_same f g zero e = refl
staying_same f g (suc n) e = ap₂ (λ (m : ℕ) (t : Bool). m + pick t 0 1) (staying_same f g n (λ k h. e k (omega arith))) (e n (omega arith))

pub going_same : (f g : ℕ → Bool) (n : ℕ) → ((k : ℕ) → k < n → f k ≡ g k) → going f n ≡ going g n
going_same f g n e = omega (arith, staying_adds f n, staying_adds g n, staying_same f g n e)

-- how many of the first n elements of a list are v
pub going_count : (v : ℕ) (l : List ℕ) (n : ℕ) → n ≤ length l → going (λ k. eqb (get_or l k 0) v) n ≡ count_of v (take n l)
unfolding going count_of
going_count v l zero h = refl
going_count v l (suc n) h =
    ap (λ (m : ℕ). m + pick (eqb (get_or l n 0) v) 1 0) (going_count v l n (omega arith))
    ∙ sym (ap (count_of v) (take-suc l n 0 h) ∙ count_last v (take n l) (get_or l n 0))

-- where none goes
pub staying_all : (gone : ℕ → Bool) (n : ℕ) → ((k : ℕ) → k < n → gone k ≡ false) → staying gone n ≡ n
unfolding staying
staying_all gone zero s = refl
staying_all gone (suc n) s = rw (s n (omega arith)) (omega (arith, staying_all gone n (λ k h. s k (omega arith))))
