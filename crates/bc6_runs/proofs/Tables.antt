-- Tables of runs: what can be read of them, and the four numbers that they make. Assumes nothing.
use mathlib.Core.Path.{◌≡◌, ◌∙◌, refl, sym, ap, subst}
use mathlib.Core.Bool.{Bool, true, false}
use mathlib.Core.List.{List, [], ◌∷◌, ◌++◌}
use Prim.Native.Nat.{ℕ, zero, suc, zero-le, ◌+◌, ◌-◌, ◌*◌, ◌/◌, ◌%◌, ◌^◌, ◌<◌, ◌≤◌}
use native.Mathlib.Nat.{add-zero, zero-add, add_assoc, mod-lt, lt_of_le_of_lt, le_of_suc-le-suc, not-suc-le-zero, add-le-add, mul-le-mul_right, le_refl, le_trans}
use native.Mathlib.Omega.{arith}
use native.Mathlib.Numerals.{add-one}
use lib.Dec.{T, eqb, leb, ltb, leb→le, ltb→lt, lit<}
use lib.IntN.{ℤ, pos, ◌+ℤ◌}
use lib.ListN.{length, get_or, set, take}
use lib.Pow.{pow_pos, shl_exact, le_ones}
use lib.Seq.{take-suc}
use mir.Syntax.{w32}
use mir.Val.{SFits, to_z, of_z}
use mir.ValLaws.{to_z-of_z}
use borrow.Author.Tests.{eq-eqb}
use Rattle.laws.specs.Pick.{pick}
use Rattle.laws.specs.Every.{every}
use Rattle.laws.proofs.Num.{widened}
use Rattle.laws.proofs.Below.{below_four}
use Rattle.laws.proofs.Tests.{both_left, both_right, below_at}
use Rattle.bcn_util.specs.Runs.{Run, part, sum, readable, most}
use Rattle.bc6_runs.specs.Ends.{run_in, end_of, runs_of, sum_at, fits, four_of}

-- ---- one run

-- what the test of a run shows
pub record Readable (r : Run) : Type 0 where
  pub in_block : r.at < 128
  pub short : r.size ≤ 63
  pub in_word : r.shift < 64
  pub room : r.size + r.shift ≤ 64

pub can_read : (r : Run) → T (readable r) → Readable r
can_read r t =
    let u = both_right (ltb r.at 128) _ t in
    let v = both_right (leb r.size 63) _ u in
    record {
      in_block = ltb→lt _ _ (both_left (ltb r.at 128) _ t);
      short = leb→le _ _ (both_left (leb r.size 63) _ u);
      in_word = ltb→lt _ _ (both_left (ltb r.shift 64) _ v);
      room = leb→le _ _ (both_right (ltb r.shift 64) _ v);
    }

few : (n : ℕ) (r : Run) → n / 2 ^ r.at % 2 ^ r.size < 2 ^ r.size
few n r = mod-lt _ (pow_pos r.size)

-- read as code reads it
pub part_read : (n : ℕ) (r : Run) {rest bits : ℕ} → Readable r → rest ≡ n / 2 ^ r.at → bits ≡ rest % 2 ^ r.size
    → (bits * 2 ^ r.shift) % 2 ^ 64 ≡ part n r
part_read n r h er eb =
    ap (λ (x : ℕ). (x * 2 ^ r.shift) % 2 ^ 64) (eb ∙ ap (λ (x : ℕ). x % 2 ^ r.size) er)
    ∙ shl_exact r.size r.shift 64 (few n r) h.room

part_most : (n : ℕ) (r : Run) → part n r ≤ (2 ^ r.size - 1) * 2 ^ r.shift
part_most n r = mul-le-mul_right (2 ^ r.shift) (le_ones r.size (few n r))

-- ---- the runs of a table, one after the other

sum_most : (n : ℕ) (rs : List Run) → sum n rs ≤ most rs
sum_most n [] = le_refl 0
sum_most n (r ∷ rs) = add-le-add (part_most n r) (sum_most n rs)

every_at : (codes : List ℕ) (k : ℕ) → T (every (λ c. readable (run_in c)) codes) → k < length codes → T (readable (run_in (get_or codes k 0)))
every_at [] k t h = absurd (not-suc-le-zero h)
every_at (c ∷ cs) zero t h = both_left (readable (run_in c)) _ t
every_at (c ∷ cs) (suc k) t h = every_at cs k (both_right (readable (run_in c)) _ t) (le_of_suc-le-suc h)

-- a run that may be one of endpoint e's, before others
by_test : (n : ℕ) (b : Bool) (r : Run) (rs : List Run) → sum n (pick b (r ∷ rs) rs) ≡ pick b (part n r) 0 + sum n rs
by_test n true r rs = refl
by_test n false r rs = sym (zero-add (sum n rs))

-- what is added behind them
sum_last : (n e : ℕ) (cs : List ℕ) (c : ℕ) → sum_at n (cs ++ (c ∷ [])) e ≡ sum_at n cs e + pick (eqb (end_of c) e) (part n (run_in c)) 0
sum_last n e [] c = by_test n (eqb (end_of c) e) (run_in c) [] ∙ add-zero _ ∙ sym (zero-add _)
sum_last n e (x ∷ cs) c =
    let p = pick (eqb (end_of x) e) (part n (run_in x)) 0 in
    let q = pick (eqb (end_of c) e) (part n (run_in c)) 0 in
    by_test n (eqb (end_of x) e) (run_in x) (runs_of e (cs ++ (c ∷ [])))
    ∙ ap (λ (y : ℕ). p + y) (sum_last n e cs c)
    ∙ sym (add_assoc p (sum_at n cs e) q)
    ∙ ap (λ (y : ℕ). y + q) (sym (by_test n (eqb (end_of x) e) (run_in x) (runs_of e cs)))

-- the first of them make no more than all
front_le : (n e : ℕ) (cs : List ℕ) (k : ℕ) → sum_at n (take k cs) e ≤ sum_at n cs e
front_le n e cs zero = zero-le
front_le n e [] (suc k) = zero-le
front_le n e (c ∷ cs) (suc k) =
    let p = pick (eqb (end_of c) e) (part n (run_in c)) 0 in
    let low : sum_at n (take (suc k) (c ∷ cs)) e ≡ p + sum_at n (take k cs) e = by_test n (eqb (end_of c) e) (run_in c) (runs_of e (take k cs)) in
    let high : sum_at n (c ∷ cs) e ≡ p + sum_at n cs e = by_test n (eqb (end_of c) e) (run_in c) (runs_of e cs) in
    omega (arith, low, high, front_le n e cs k)

module _ (n : ℕ) (codes : List ℕ) (t : T (fits codes)) where
  pub can_read_at : (k : ℕ) → k < length codes → T (readable (run_in (get_or codes k 0)))
  can_read_at k h = every_at codes k (both_left (every (λ c. readable (run_in c)) codes) _ t) h

  pub front_lt : (k e : ℕ) → e < 4 → sum_at n (take k codes) e < 65536
  front_lt k e h =
      lt_of_le_of_lt (le_trans (front_le n e codes k) (sum_most n (runs_of e codes)))
      (ltb→lt _ _ (below_at (λ e. ltb (most (runs_of e codes)) (2 ^ 16)) 4 e (both_right (every (λ c. readable (run_in c)) codes) _ t) h))

  -- a turn adds a run to its endpoint's number
  pub one_more : (k e : ℕ) → k < length codes → sum_at n (take (suc k) codes) e ≡ sum_at n (take k codes) e + pick (eqb (end_of (get_or codes k 0)) e) (part n (run_in (get_or codes k 0))) 0
  one_more k e h = ap (λ (l : List ℕ). sum_at n l e) (take-suc codes k 0 h) ∙ sum_last n e (take k codes) (get_or codes k 0)

-- ---- four numbers

pub four_at : (f : ℕ → ℕ) (e : ℕ) → e < 4 → get_or (four_of f) e (pos 0) ≡ pos (f e)
four_at f = below_four (λ e. get_or (four_of f) e (pos 0) ≡ pos (f e)) refl refl refl refl

pub four_same : (f g : ℕ → ℕ) → f 0 ≡ g 0 → f 1 ≡ g 1 → f 2 ≡ g 2 → f 3 ≡ g 3 → four_of f ≡ four_of g
four_same f g a b c d = λ i. pos (a i) ∷ pos (b i) ∷ pos (c i) ∷ pos (d i) ∷ []

-- one of them is stored
module _ (f g : ℕ → ℕ) (p : ℕ) where
  stay : (e j : ℕ) → eqb e j ≡ false → g j ≡ f j + pick (eqb e j) p 0 → pos (f j) ≡ pos (g j)
  stay e j ne s = ap pos (sym (s ∙ ap (λ (b : Bool). f j + pick b p 0) ne ∙ add-zero (f j)))

  pub four_store : (e : ℕ) (z : ℤ) → e < 4 → ((j : ℕ) → g j ≡ f j + pick (eqb e j) p 0) → z ≡ pos (f e + p) → set (four_of f) e z ≡ four_of g
  four_store zero z h s ez = λ i. (ez ∙ ap pos (sym (s 0))) i ∷ stay 0 1 refl (s 1) i ∷ stay 0 2 refl (s 2) i ∷ stay 0 3 refl (s 3) i ∷ []
  four_store (suc zero) z h s ez = λ i. stay 1 0 refl (s 0) i ∷ (ez ∙ ap pos (sym (s 1))) i ∷ stay 1 2 refl (s 2) i ∷ stay 1 3 refl (s 3) i ∷ []
  four_store (suc (suc zero)) z h s ez = λ i. stay 2 0 refl (s 0) i ∷ stay 2 1 refl (s 1) i ∷ (ez ∙ ap pos (sym (s 2))) i ∷ stay 2 3 refl (s 3) i ∷ []
  four_store (suc (suc (suc zero))) z h s ez = λ i. stay 3 0 refl (s 0) i ∷ stay 3 1 refl (s 1) i ∷ stay 3 2 refl (s 2) i ∷ (ez ∙ ap pos (sym (s 3))) i ∷ []
  four_store (suc (suc (suc (suc e)))) z h s ez = absurd (omega arith)

-- ---- a turn: a run is added to its endpoint's number on i32

module _ (n : ℕ) (codes : List ℕ) (t : T (fits codes)) (k : ℕ) (h : k < length codes) (numbers : List ℤ) (so_far : numbers ≡ four_of (sum_at n (take k codes)))
    (r : ℕ) (told : r ≡ part n (run_in (get_or codes k 0))) where
  abbrev e : ℕ
  e = end_of (get_or codes k 0)

  in_four : e < 4
  in_four = mod-lt _ (lit< tt)

  before : get_or numbers e (pos 0) ≡ pos (sum_at n (take k codes) e)
  before = ap (λ (l : List ℤ). get_or l e (pos 0)) so_far ∙ four_at (sum_at n (take k codes)) e in_four

  -- both together have sixteen bits
  total : sum_at n (take k codes) e + r < 65536
  total =
      let next : sum_at n (take (suc k) codes) e ≡ sum_at n (take k codes) e + part n (run_in (get_or codes k 0)) =
      one_more n codes t k e h ∙ ap (λ (b : Bool). sum_at n (take k codes) e + pick b (part n (run_in (get_or codes k 0))) 0) (eq-eqb e e refl) in
      omega (arith, next, told, front_lt n codes t (suc k) e in_four)

  pub run_fits : SFits w32 (pos r)
  run_fits = record { sfits = omega (arith, total) }

  sum_is : to_z w32 (of_z w32 (get_or numbers e (pos 0))) +ℤ to_z w32 r ≡ pos (sum_at n (take k codes) e + r)
  sum_is =
      let old : to_z w32 (of_z w32 (get_or numbers e (pos 0))) ≡ pos (sum_at n (take k codes) e) =
      ap (λ (z : ℤ). to_z w32 (of_z w32 z)) before ∙ widened (let l : sum_at n (take k codes) e < 65536 = omega (arith, total) in l) in
      λ i. old i +ℤ widened {f = r} (let l : r < 65536 = omega (arith, total) in l) i

  pub sum_fits : SFits w32 (to_z w32 (of_z w32 (get_or numbers e (pos 0))) +ℤ to_z w32 r)
  sum_fits = subst (SFits w32) (sym sum_is) (record { sfits = omega (arith, total) })

  pub stored : set numbers e (to_z w32 (of_z w32 (to_z w32 (of_z w32 (get_or numbers e (pos 0))) +ℤ to_z w32 r))) ≡ four_of (sum_at n (take (k + 1) codes))
  stored =
      let z = to_z w32 (of_z w32 (to_z w32 (of_z w32 (get_or numbers e (pos 0))) +ℤ to_z w32 r)) in
      ap (λ (l : List ℤ). set l e z) so_far
      ∙ four_store (sum_at n (take k codes)) (sum_at n (take (suc k) codes)) (part n (run_in (get_or codes k 0))) e z in_four (λ j. one_more n codes t k j h)
      (to_z-of_z w32 _ sum_fits ∙ sum_is ∙ ap (λ (x : ℕ). pos (sum_at n (take k codes) e + x)) told)
      ∙ ap (λ (j : ℕ). four_of (sum_at n (take j codes))) (sym (add-one k))
