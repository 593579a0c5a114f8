-- Laws of a receipt: its length, and that each entry stands at its place and is read as it was written. Assumes nothing.
use mathlib.Core.Path.{◌≡◌, refl, sym, ◌∙◌, ap, ap₂}
use mathlib.Core.Bool.{Bool, true, false}
use mathlib.Core.List.{List, [], ◌∷◌, ◌++◌, append-nil}
use mathlib.Core.Logic.{⊎_elim}
use Prim.Native.Nat.{ℕ, zero, suc, ◌+◌, ◌*◌, ◌≤◌, ◌<◌}
use native.Mathlib.Nat.{add-zero, not-suc-le-zero, le_of_suc-le-suc, eq-or-lt_of_le}
use native.Mathlib.Numerals.{add-one}
use native.Mathlib.Omega.{arith}
use lib.Dec.{lit<}
use lib.ListN.{length, get_or, take, drop, length-append, length-drop}
use lib.Seq.{take_all, drop_at, take-append-le, drop-append-le, get_or-take, get_or-drop}
use Rattle.laws.specs.Pick.{pick}
use Rattle.laws.proofs.Tests.{cases}
use Rattle.raw_bytes.specs.Bytes.{low_first}
use Rattle.store_records.specs.Store.{records_in, byte_of}
use Rattle.store_clean.specs.Clean.{first_of, goes, going, gone_count}
use Rattle.store_receipt.specs.Receipt.{entry_size, low, high, entry_of, entries_in, entry_byte, removed_number, stays_at, receipt_upto, receipt_of}

-- ---- one entry

pub entry_is : (store : List ℕ) (n first : ℕ) → first ≡ first_of store n
    → low n ∷ high n ∷ low first ∷ high first ∷ get_or store (n * 24) 0 ∷ byte_of store n 1 ∷ byte_of store n 2 ∷ byte_of store n 3 ∷ [] ≡ entry_of store n
unfolding entry_of
entry_is store n first e =
    ap₂ (λ (f i : ℕ). low n ∷ high n ∷ low f ∷ high f ∷ get_or store i 0 ∷ byte_of store n 1 ∷ byte_of store n 2 ∷ byte_of store n 3 ∷ [])
    e (sym (add-zero (n * 24)))

pub entry_length : (store : List ℕ) (n : ℕ) → length (entry_of store n) ≡ entry_size
unfolding entry_of
entry_length store n = refl

pub entry_whole : (store : List ℕ) (n : ℕ) → take entry_size (entry_of store n) ≡ entry_of store n
unfolding entry_of
entry_whole store n = refl

-- ---- how many

module _ (gone : ℕ → Bool) where
  pub going_less : (j k : ℕ) → j < k → gone j ≡ true → going gone j < going gone k
  unfolding going
  going_less j zero h t = absurd (not-suc-le-zero h)
  going_less j (suc k) h t =
      ⊎_elim (λ e. let g : gone k ≡ true = ap gone (sym e) ∙ t in rw (e, g) (omega arith)) (λ l. omega (arith, going_less j k l t)) (eq-or-lt_of_le (le_of_suc-le-suc h))

  -- the number that stands at place k of those that go
  pub record Gone (m k : ℕ) : Type 0 where
    pub number : ℕ
    pub below : number < m
    pub goes_too : gone number ≡ true
    pub place : going gone number ≡ k

  wider : {m k : ℕ} → Gone m k → Gone (suc m) k
  wider p = record { number = p.number; below = (let l = p.below in omega arith); goes_too = p.goes_too; place = p.place }

  pub gone_of : (m k : ℕ) → k < going gone m → Gone m k
  unfolding going
  gone_of zero k h = absurd (not-suc-le-zero h)
  gone_of (suc m) k h =
      cases (gone m)
      (λ t. let l : k < going gone m + 1 = rw t at h in
      ⊎_elim (λ e. record { number = m; below = omega arith; goes_too = t; place = sym e }) (λ s. wider (gone_of m k s))
      (eq-or-lt_of_le (let s : k ≤ going gone m = omega arith in s)))
      (λ f. wider (gone_of m k (let l : k < going gone m + 0 = rw f at h in omega arith)))

-- ---- a receipt, entry by entry

entry_in : List ℕ → ℕ → List ℕ
entry_in receipt e = take entry_size (drop (e * entry_size) receipt)

entry_byte_lem : (receipt : List ℕ) (e k : ℕ) → k < entry_size → get_or (entry_in receipt e) k 0 ≡ entry_byte receipt e k
unfolding entry_in
entry_byte_lem receipt e k h = get_or-take entry_size (drop (e * entry_size) receipt) k 0 h ∙ get_or-drop (e * entry_size) receipt k 0

entry_front : (a b : List ℕ) (e : ℕ) → e * entry_size + entry_size ≤ length a → entry_in (a ++ b) e ≡ entry_in a e
unfolding entry_in
entry_front a b e h =
    ap (take entry_size) (drop-append-le (e * entry_size) a b (omega arith))
    ∙ take-append-le entry_size (drop (e * entry_size) a) b (simp length-drop (omega arith))

entry_seam : (a r : List ℕ) (e : ℕ) → length a ≡ e * entry_size → length r ≡ entry_size → entry_in (a ++ r) e ≡ r
unfolding entry_in
entry_seam a r e q l = ap (take entry_size) (drop_at a r (e * entry_size) q) ∙ take_all entry_size r (omega arith)

module _ (store : List ℕ) where
  pub receipt_none : (lent : List ℕ) → lent ≡ receipt_upto store 0 ++ drop (0 * entry_size) lent
  unfolding receipt_upto
  receipt_none lent = refl

  pub receipt_length : (n : ℕ) → length (receipt_upto store n) ≡ going (goes store) n * entry_size
  unfolding receipt_upto going
  receipt_length zero = refl
  receipt_length (suc n) =
      cases (goes store n) (λ t. rw t (simp length-append (omega (arith, receipt_length n, entry_length store n))))
      (λ f. rw f (simp length-append (omega (arith, receipt_length n))))

  pub receipt_gone : (n : ℕ) → goes store n ≡ true → receipt_upto store (n + 1) ≡ receipt_upto store n ++ entry_of store n
  unfolding receipt_upto
  receipt_gone n t = rw (add-one n, t)

  pub receipt_stays : (n : ℕ) → goes store n ≡ false → receipt_upto store (n + 1) ≡ receipt_upto store n
  unfolding receipt_upto
  receipt_stays n f = rw (add-one n, f) (append-nil (receipt_upto store n))

  entry_there : (m n : ℕ) → n < m → goes store n ≡ true → entry_in (receipt_upto store m) (going (goes store) n) ≡ entry_of store n
  unfolding receipt_upto
  entry_there zero n h t = absurd (not-suc-le-zero h)
  entry_there (suc m) n h t =
      ⊎_elim
      (λ e. let g : goes store m ≡ true = ap (goes store) (sym e) ∙ t in
      rw (e, g) (entry_seam (receipt_upto store m) (entry_of store m) (going (goes store) m) (receipt_length m) (entry_length store m)))
      (λ l. entry_front (receipt_upto store m) (pick (goes store m) (entry_of store m) []) (going (goes store) n)
      (omega (arith, receipt_length m, going_less (goes store) n m l t))
      ∙ entry_there m n l t)
      (eq-or-lt_of_le (le_of_suc-le-suc h))

  -- the entry of record n is entry `going .. n`, and is read as it was written
  module _ (n : ℕ) (h : n < records_in store) (t : goes store n ≡ true) where
    at_byte : (k : ℕ) → k < entry_size → entry_byte (receipt_of store) (going (goes store) n) k ≡ get_or (entry_of store n) k 0
    at_byte k l =
        sym (entry_byte_lem (receipt_of store) (going (goes store) n) k l)
        ∙ ap (λ (x : List ℕ). get_or x k 0) (entry_there (records_in store) n h t)

    pub number_told : removed_number (receipt_of store) (going (goes store) n) ≡ n
    unfolding entry_of low_first
    number_told =
        let a : entry_byte (receipt_of store) (going (goes store) n) 0 ≡ low n = at_byte 0 (lit< tt) in
        let b : entry_byte (receipt_of store) (going (goes store) n) 1 ≡ high n = at_byte 1 (lit< tt) in
        omega arith

    pub stays_told : stays_at (receipt_of store) (going (goes store) n) ≡ first_of store n
    unfolding entry_of low_first
    stays_told =
        let i : going (goes store) n * entry_size + 2 + 0 ≡ going (goes store) n * entry_size + 2 = omega arith in
        let j : going (goes store) n * entry_size + 2 + 1 ≡ going (goes store) n * entry_size + 3 = omega arith in
        let a : entry_byte (receipt_of store) (going (goes store) n) 2 ≡ low (first_of store n) = at_byte 2 (lit< tt) in
        let b : entry_byte (receipt_of store) (going (goes store) n) 3 ≡ high (first_of store n) = at_byte 3 (lit< tt) in
        rw (i, j) (omega arith)

    pub tile_told : (k : ℕ) → k < 4 → entry_byte (receipt_of store) (going (goes store) n) (4 + k) ≡ byte_of store n k
    unfolding entry_of
    tile_told zero l = at_byte 4 (lit< tt)
    tile_told (suc zero) l = at_byte 5 (lit< tt)
    tile_told (suc (suc zero)) l = at_byte 6 (lit< tt)
    tile_told (suc (suc (suc zero))) l = at_byte 7 (lit< tt)
    tile_told (suc (suc (suc (suc k)))) l = absurd (omega (arith, l))

  pub entries_count : entries_in (receipt_of store) ≡ gone_count store
  entries_count = let e : length (receipt_of store) ≡ gone_count store * entry_size = receipt_length (records_in store) in omega arith
