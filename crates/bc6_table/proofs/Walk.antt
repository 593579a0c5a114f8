-- Reading bit by bit comes to what is gathered.
-- Assumes nothing.
use mathlib.Core.Path.{◌≡◌, ◌∙◌, refl, sym, ap, subst}
use mathlib.Core.Bool.{Bool, true, false}
use mathlib.Core.List.{List}
use Prim.Native.Nat.{ℕ, zero, suc, ◌+◌, ◌-◌, ◌*◌, ◌/◌, ◌%◌, ◌^◌, ◌<◌, ◌≤◌}
use native.Mathlib.Nat.{le_of_suc-le-suc, lt_of_le_of_lt, lt_of_lt_of_le, div-one, zero-add}
use native.Mathlib.Numerals.{add-one}
use native.Mathlib.Omega.{arith}
use lib.Dec.{eqb, lit≤}
use lib.Pow.{shr-shr, pow_mono}
use lib.ListN.{length, get_or, set, length-set, take, drop, replicate, length-drop}
use lib.Seq.{drop-cons, drop-length, get_or-set_same, get_or-set_other, ext_get_or, get_or-take, get_or-drop, length-take-le}
use borrow.Author.Tests.{eqb-true, eqb-false, eq-eqb}
use Rattle.laws.specs.Pick.{pick}
use Rattle.laws.specs.Made.{made}
use Rattle.laws.proofs.Tests.{picks}
use Rattle.laws.proofs.Rows.{made_each}
use Rattle.bc6h_spec.specs.Layout.{row, width, table, rows, row1, row2, row3, row4, row5, row6, row7, row8, row9, row10, row11, row12, row13, row14, table_bits, row_start, two_regions}
use Rattle.bc6h_spec.specs.Fields.{gathered}
use Rattle.bc6h_spec.proofs.Once.{full, row_once, in_table, in_range}
use Rattle.bc6h_spec.proofs.Gather.{gathered_le}

next : (l : List ℕ) (k n p : ℕ) → k < length l
    → gathered (drop k l) n p ≡ pick (eqb (get_or l k 0 / 16) p) (n % 2 * 2 ^ (get_or l k 0 % 16)) 0 + gathered (drop (suc k) l) (n / 2) p
unfolding gathered
next l k n p h = rw (drop-cons l k 0)

put_case : (values : List ℕ) (q p v : ℕ) → q < length values → (b : Bool) → eqb q p ≡ b
    → get_or (set values q (get_or values q 0 + v)) p 0 ≡ get_or values p 0 + pick b v 0
put_case values q p v h true e =
    subst (λ (x : ℕ). get_or (set values q (get_or values q 0 + v)) x 0 ≡ get_or values x 0 + v) (eqb-true q p e) (get_or-set_same values q _ 0 h)
put_case values q p v h false e =
    get_or-set_other values q p (get_or values q 0 + v) 0 (λ x. eqb-false q p e (sym x)) ∙ omega arith

put : (values : List ℕ) (q p v : ℕ) → q < length values
    → get_or (set values q (get_or values q 0 + v)) p 0 ≡ get_or values p 0 + pick (eqb q p) v 0
put values q p v h = put_case values q p v h (eqb q p) refl

-- k bits of n are read: what is gathered so far, and what is yet to come, is the whole
pub record So (l : List ℕ) (n k : ℕ) (values : List ℕ) (rest : ℕ) : Type 0 where
  pub left : rest ≡ n / 2 ^ k
  pub sum : (p : ℕ) → get_or values p 0 + gathered (drop k l) rest p ≡ gathered l n p

module _ (l : List ℕ) (n k : ℕ) (values : List ℕ) (rest : ℕ) (s : So l n k values rest) (h : k < length l) where
  so_room : get_or values (get_or l k 0 / 16) 0 + rest % 2 * 2 ^ (get_or l k 0 % 16) ≤ full l (get_or l k 0 / 16)
  so_room =
      let q = get_or l k 0 / 16 in
      let a : gathered (drop k l) rest q ≡ rest % 2 * 2 ^ (get_or l k 0 % 16) + gathered (drop (suc k) l) (rest / 2) q = next l k rest q h ∙ rw (eq-eqb q q refl) in
      omega (arith, a, s.sum q, gathered_le l n q)

  so_next : get_or l k 0 / 16 < length values
      → So l n (k + 1) (set values (get_or l k 0 / 16) (get_or values (get_or l k 0 / 16) 0 + rest % 2 * 2 ^ (get_or l k 0 % 16))) (rest / 2)
  so_next hq =
      record {
        left = ap (λ (x : ℕ). x / 2) s.left ∙ shr-shr n k 1;
        sum =
            λ p.
            rw (add-one k)
            (omega (arith, put values (get_or l k 0 / 16) p (rest % 2 * 2 ^ (get_or l k 0 % 16)) hq, next l k rest p h, s.sum p));
      }

so_done : (l : List ℕ) (n k : ℕ) (values : List ℕ) (rest : ℕ) → So l n k values rest → k ≡ length l → (p : ℕ) → get_or values p 0 ≡ gathered l n p
unfolding gathered
so_done l n k values rest s e p =
    let a : gathered (drop k l) rest p ≡ 0 = ap (λ (x : ℕ). gathered (drop x l) rest p) e ∙ ap (λ (x : List ℕ). gathered x rest p) (drop-length l) in
    omega (arith, a, s.sum p)

zeros : (n p : ℕ) → ◌≡◌ {A = ℕ} (get_or (replicate n 0) p 0) 0
zeros zero p = refl
zeros (suc n) zero = refl
zeros (suc n) (suc p) = zeros n p

so_first : (l : List ℕ) (n : ℕ) → So l n 0 (replicate 14 0) n
so_first l n = record { left = sym (div-one n); sum = λ p. rw (zeros 14 p) (zero-add _) }

-- ---- a mode's row, as a part of the table

table_length : length table ≡ 1080
unfolding table rows row1 row2 row3 row4 row5 row6 row7 row8 row9 row10 row11 row12 row13 row14
table_length = refl

bits_positive : (m : ℕ) → 1 ≤ table_bits m
bits_positive m = picks (two_regions m) 82 65 (λ (n : ℕ). 1 ≤ n) (λ _. lit≤ tt) (λ _. lit≤ tt)

module _ {m start count : ℕ} {codes : List ℕ} (low : 1 ≤ m) (high : m ≤ 14) (e : codes ≡ table) (begins : start ≡ row_start m) (counts : count ≡ table_bits m) where
  pub row_fits : start + count ≤ length codes
  row_fits =
      let last : row_start m + (table_bits m - 1) < 1080 = in_range m (table_bits m - 1) low high (let p = bits_positive m in omega arith) in
      omega (arith, ap length e, table_length, bits_positive m)

  pub row_cut : take (start + count - start) (drop start codes) ≡ row m
  row_cut =
      let n : start + count - start ≡ table_bits m = omega arith in
      let long : length (take (table_bits m) (drop start codes)) ≡ table_bits m = length-take-le (table_bits m) (drop start codes) (omega (arith, length-drop start codes, row_fits)) in
      rw n
      (ext_get_or 0 _ _ (long ∙ sym (row_once m low high).size)
      (λ k l.
      let i : k < table_bits m = omega arith in
      get_or-take (table_bits m) (drop start codes) k 0 i ∙ get_or-drop start codes k 0
      ∙ ap (λ (x : ℕ). get_or codes (x + k) 0) begins ∙ ap (λ (t : List ℕ). get_or t (row_start m + k) 0) e ∙ in_table m low high k i))

-- ---- the loop over a row: k of its bits are read

pub record Walked (m n : ℕ) (values : List ℕ) (rest k : ℕ) : Type 0 where
  pub low : 1 ≤ m
  pub high : m ≤ 14
  pub size : length values ≡ 14
  pub so : So (row m) n k values rest

module _ {m n : ℕ} {values : List ℕ} {rest k : ℕ} (w : Walked m n values rest k) {codes : List ℕ} (e : codes ≡ row m) (h : k < length codes) where
  in_row : k < length (row m)
  in_row = subst (λ (l : List ℕ). k < length l) e h

  inside : k < table_bits m
  inside = omega (arith, in_row, (row_once m w.low w.high).size)

  of_row : get_or codes k 0 ≡ get_or (row m) k 0
  of_row = ap (λ (l : List ℕ). get_or l k 0) e

  module _ {place : ℕ} (p : place ≡ get_or codes k 0 / 16) where
    pub walked_place : place < 14
    walked_place = rw (p, of_row) ((row_once m w.low w.high).place k inside)

    module _ {bit put : ℕ} (b : bit ≡ rest % 2) (q : put ≡ bit * 2 ^ (get_or codes k 0 % 16)) where
      put_is : put ≡ rest % 2 * 2 ^ (get_or codes k 0 % 16)
      put_is = q ∙ ap (λ (x : ℕ). x * 2 ^ (get_or codes k 0 % 16)) b

      pub walked_room : get_or values place 0 + put < 2 ^ 16
      walked_room =
          let o = row_once m w.low w.high in
          let q = get_or (row m) k 0 / 16 in
          let a : full (row m) q < 2 ^ width m q = o.most q (o.place k inside) in
          let b : 2 ^ width m q ≤ 2 ^ 16 = pow_mono (le_of_suc-le-suc (o.narrow q (o.place k inside))) in
          rw (p, put_is, of_row) (lt_of_le_of_lt (so_room (row m) n k values rest w.so in_row) (lt_of_lt_of_le a b))

      pub walked_next : {left : ℕ} → left ≡ rest / 2 → Walked m n (set values place (get_or values place 0 + put)) left (k + 1)
      walked_next r =
          record {
            low = w.low;
            high = w.high;
            size = length-set values place _ ∙ w.size;
            so =
                rw (p, put_is, r, of_row)
                (so_next (row m) n k values rest w.so in_row
                (subst (λ (x : ℕ). get_or (row m) k 0 / 16 < x) (sym w.size) ((row_once m w.low w.high).place k inside)));
          }

pub walked_done : {m n : ℕ} {values : List ℕ} {rest k : ℕ} → Walked m n values rest k → {codes : List ℕ} → codes ≡ row m → k ≡ length codes
    → values ≡ made (gathered (row m) n) 14
walked_done {m} {n} {values} {rest} {k} w e d =
    made_each (gathered (row m) n) values 14 w.size (λ p l. so_done (row m) n k values rest w.so (d ∙ ap length e) p)
