-- Each bit of a row feeds one place, and each bit of each place is fed once: computed once, over the whole table. Assumes nothing.
use mathlib.Core.Path.{◌≡◌, ◌∙◌, refl, sym, ap, subst}
use mathlib.Core.Bool.{Bool, true, false}
use mathlib.Core.List.{List, [], ◌∷◌}
use Prim.Native.Nat.{ℕ, suc, ◌+◌, ◌-◌, ◌*◌, ◌/◌, ◌%◌, ◌^◌, ◌<◌, ◌≤◌}
use native.Mathlib.Nat.{le_of_suc-le-suc, not-suc-le-zero}
use native.Mathlib.Omega.{arith}
use lib.Dec.{T, eqb, leb, ltb, eqb→eq, ltb→lt}
use lib.ListN.{length, get_or, take, drop}
use lib.Seq.{get_or-take, get_or-drop}
use borrow.Author.Tests.{leb-true, leb-false, eqb-true}
use Rattle.laws.specs.Pick.{pick, both}
use Rattle.laws.specs.Every.{below, same}
use Rattle.laws.proofs.Tests.{both_left, both_right, below_at, upto_at, same_eq}
use Rattle.bc6h_spec.specs.Layout.{row, width, table, rows, row1, row2, row3, row4, row5, row6, row7, row8, row9, row10, row11, row12, row13, row14, table_bits, row_start}

-- where a code first stands in a row, or the row's length
abbrev pub source : List ℕ → ℕ → ℕ
source [] c = 0
source (x ∷ xs) c = pick (eqb x c) 0 (suc (source xs c))

-- the sum of the bits that a row names at place p
abbrev pub full : List ℕ → ℕ → ℕ
full [] p = 0
full (c ∷ cs) p = pick (eqb (c / 16) p) (2 ^ (c % 16)) 0 + full cs p

-- what is right of the row l of n codes, whose place p has w p bits
pub record Once (l : List ℕ) (w : ℕ → ℕ) (n : ℕ) : Type 0 where
  pub size : length l ≡ n
  -- bit k of the block feeds a bit of a place, and no other bit of the block feeds that
  pub place : (k : ℕ) → k < n → get_or l k 0 / 16 < 14
  pub inside : (k : ℕ) → k < n → get_or l k 0 % 16 < w (get_or l k 0 / 16)
  pub alone : (k : ℕ) → k < n → source l (get_or l k 0) ≡ k
  -- bit b of place p is fed
  pub fed : (p : ℕ) → p < 14 → (b : ℕ) → b < w p → source l (16 * p + b) < n
  -- no place holds more than its width
  pub most : (p : ℕ) → p < 14 → full l p < 2 ^ w p
  pub narrow : (p : ℕ) → p < 14 → w p < 17
  -- the mode's own bits come first
  pub first : (b : ℕ) → b < w 12 → source l (16 * 12 + b) ≡ b

module _ (l : List ℕ) (w : ℕ → ℕ) (n : ℕ) where
  abbrev place? : Bool
  place? = below (λ k. ltb (get_or l k 0 / 16) 14) n

  abbrev inside? : Bool
  inside? = below (λ k. ltb (get_or l k 0 % 16) (w (get_or l k 0 / 16))) n

  abbrev alone? : Bool
  alone? = below (λ k. eqb (source l (get_or l k 0)) k) n

  abbrev fed? : Bool
  fed? = below (λ p. below (λ b. ltb (source l (16 * p + b)) n) (w p)) 14

  abbrev most? : Bool
  most? = below (λ p. ltb (full l p) (2 ^ w p)) 14

  abbrev narrow? : Bool
  narrow? = below (λ p. ltb (w p) 17) 14

  abbrev first? : Bool
  first? = below (λ b. eqb (source l (16 * 12 + b)) b) (w 12)

  abbrev once? : Bool
  once? = both (eqb (length l) n) (both place? (both inside? (both alone? (both fed? (both most? (both narrow? first?))))))

  once : T once? → Once l w n
  once t =
      let t1 = both_right (eqb (length l) n) _ t in
      let t2 = both_right place? _ t1 in
      let t3 = both_right inside? _ t2 in
      let t4 = both_right alone? _ t3 in
      let t5 = both_right fed? _ t4 in
      let t6 = both_right most? _ t5 in
      record {
        size = eqb→eq (length l) n (both_left (eqb (length l) n) _ t);
        place = λ k h. ltb→lt _ _ (below_at (λ k. ltb (get_or l k 0 / 16) 14) n k (both_left place? _ t1) h);
        inside = λ k h. ltb→lt _ _ (below_at (λ k. ltb (get_or l k 0 % 16) (w (get_or l k 0 / 16))) n k (both_left inside? _ t2) h);
        alone = λ k h. eqb→eq _ _ (below_at (λ k. eqb (source l (get_or l k 0)) k) n k (both_left alone? _ t3) h);
        fed =
            λ p hp b hb.
            ltb→lt _ _
            (below_at (λ b. ltb (source l (16 * p + b)) n) (w p) b
            (below_at (λ p. below (λ b. ltb (source l (16 * p + b)) n) (w p)) 14 p (both_left fed? _ t4) hp) hb);
        most = λ p h. ltb→lt _ _ (below_at (λ p. ltb (full l p) (2 ^ w p)) 14 p (both_left most? _ t5) h);
        narrow = λ p h. ltb→lt _ _ (below_at (λ p. ltb (w p) 17) 14 p (both_left narrow? _ t6) h);
        first = λ b h. eqb→eq _ _ (below_at (λ b. eqb (source l (16 * 12 + b)) b) (w 12) b (both_right narrow? _ t6) h);
      }

-- the test, computed over the whole table
all : T (below (λ j. once? (row (j + 1)) (width (j + 1)) (table_bits (j + 1))) 14)
unfolding width rows row1 row2 row3 row4 row5 row6 row7 row8 row9 row10 row11 row12 row13 row14
all = tt

all_in : T (below (λ j. same (take (table_bits (j + 1)) (drop (row_start (j + 1)) table)) (row (j + 1))) 14)
unfolding table rows row1 row2 row3 row4 row5 row6 row7 row8 row9 row10 row11 row12 row13 row14
all_in = tt

module _ (m : ℕ) (low : 1 ≤ m) (high : m ≤ 14) where
  pub row_once : Once (row m) (width m) (table_bits m)
  row_once =
      once _ _ _ (upto_at (λ m. once? (row m) (width m) (table_bits m)) 14 m all low high)

  row_in_lem : take (table_bits m) (drop (row_start m) table) ≡ row m
  row_in_lem =
      same_eq _ _ (upto_at (λ m. same (take (table_bits m) (drop (row_start m) table)) (row m)) 14 m all_in low high)

  pub in_table : (k : ℕ) → k < table_bits m → get_or table (row_start m + k) 0 ≡ get_or (row m) k 0
  in_table k h =
      sym (get_or-drop (row_start m) table k 0) ∙ sym (get_or-take (table_bits m) (drop (row_start m) table) k 0 h)
      ∙ ap (λ (l : List ℕ). get_or l k 0) row_in_lem

row_range : (m k : ℕ) (b : Bool) → leb m 10 ≡ b → 1 ≤ m → m ≤ 14 → k < pick b 82 65 → pick b (82 * (m - 1)) (820 + 65 * (m - 11)) + k < 1080
row_range m k true e low high h = omega (arith, leb-true m 10 e)
row_range m k false e low high h = omega (arith, leb-false m 10 e)

pub in_range : (m k : ℕ) → 1 ≤ m → m ≤ 14 → k < table_bits m → row_start m + k < 1080
in_range m k low high h = row_range m k (leb m 10) refl low high h

-- ---- the rule in words: bit b of place p is fed by one bit of the block, and by no other
pub record FedOnce (mode p b : ℕ) : Type 0 where
  pub from : ℕ
  pub from_fits : from < table_bits mode
  pub feeds : get_or (row mode) from 0 ≡ 16 * p + b
  pub only : (k : ℕ) → k < table_bits mode → get_or (row mode) k 0 ≡ 16 * p + b → k ≡ from

found_case : (c : ℕ) (cs : List ℕ) (q : ℕ) → (source cs q < length cs → get_or cs (source cs q) 0 ≡ q) → (b : Bool) → eqb c q ≡ b
    → pick b 0 (suc (source cs q)) < suc (length cs) → get_or (c ∷ cs) (pick b 0 (suc (source cs q))) 0 ≡ q
found_case c cs q ih true e h = eqb-true c q e
found_case c cs q ih false e h = ih (le_of_suc-le-suc h)

pub found : (l : List ℕ) (q : ℕ) → source l q < length l → get_or l (source l q) 0 ≡ q
found [] q h = absurd (not-suc-le-zero h)
found (c ∷ cs) q h = found_case c cs q (found cs q) (eqb c q) refl h

-- S-10: each bit of a place is fed by one bit of the block, and by no other.
pub fed_once : (mode p b : ℕ) → 1 ≤ mode → mode ≤ 14 → p < 14 → b < width mode p → FedOnce mode p b
fed_once m p b low high hp hb =
    record {
      from = source (row m) (16 * p + b);
      from_fits = o.fed p hp b hb;
      feeds = found (row m) (16 * p + b) (subst (λ (x : ℕ). source (row m) (16 * p + b) < x) (sym o.size) (o.fed p hp b hb));
      only = λ k h e. sym (o.alone k h) ∙ ap (source (row m)) e;
    }
  where
    o : Once (row m) (width m) (table_bits m)
    o = row_once m low high
