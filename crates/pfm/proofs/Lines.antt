-- Stores in a list that is made of parts: a line that is filled from the left, and four lines one behind the other, filled at once. Assumes nothing.
use mathlib.Core.Path.{◌≡◌, ◌∙◌, sym, ap}
use mathlib.Core.List.{List, ◌++◌, append-nil, append_assoc}
use Prim.Native.Nat.{ℕ, ◌+◌, ◌-◌, ◌*◌, ◌≤◌}
use native.Mathlib.Nat.{zero-add, mul-add}
use native.Mathlib.Omega.{arith}
use lib.ListN.{length, drop, length-append, length-drop, drop_of_length-le}
use lib.Seq.{sets, sets-eq, length-sets, drop-drop}
use Rattle.laws.specs.Made.{made, join}
use Rattle.laws.proofs.Joined.{run_more, run_length, run_start}
use Rattle.laws.proofs.Stores.{sets_left, sets_right}

pub sets_front : (xs l : List ℕ) → length xs ≤ length l → sets l 0 xs ≡ xs ++ drop (length xs) l
sets_front xs l h =
    let room : 0 + length xs ≤ length l = omega arith in
    sets-eq xs l 0 room ∙ ap (λ (n : ℕ). xs ++ drop n l) (zero-add (length xs))

-- ---- a line: the first n parts are stored, and the rest is as it was

abbrev pub upto : (ℕ → List ℕ) → ℕ → ℕ → List ℕ → List ℕ
upto f size n old = join (made f n) ++ drop (size * n) old

module _ (f : ℕ → List ℕ) (size : ℕ) (each : (n : ℕ) → length (f n) ≡ size) (old : List ℕ) where
  pub upto_start : old ≡ upto f size 0 old
  upto_start = run_start f size each old

  pub upto_length : (n : ℕ) → size * n ≤ length old → length (upto f size n old) ≡ length old
  upto_length n h =
      length-append (join (made f n)) (drop (size * n) old)
      ∙ (let a = run_length f size each n in let b = length-drop (size * n) old in omega arith)

  pub upto_step : (n : ℕ) → size * n + size ≤ length old → sets (upto f size n old) (size * n) (f n) ≡ upto f size (n + 1) old
  upto_step n h =
      let j = join (made f n) in
      let len = run_length f size each n in
      let rest = drop (size * n) old in
      let el : length (f n) ≡ size = each n in
      let room : length (f n) ≤ length rest = (let b = length-drop (size * n) old in omega arith) in
      let more : size * n + size ≡ size * (n + 1) = (let e : size * (n + 1) ≡ size * n + size * 1 = mul-add size n 1 in omega arith) in
      sets_right (f n) j rest 0 (size * n) (omega arith)
      ∙ ap (λ (t : List ℕ). j ++ t)
      (sets_front (f n) rest room ∙ ap (λ (k : ℕ). f n ++ drop k rest) el ∙ ap (λ (t : List ℕ). f n ++ t) (drop-drop size (size * n) old ∙ ap (λ (k : ℕ). drop k old) more))
      ∙ sym (append_assoc j (f n) (drop (size * (n + 1)) old))
      ∙ ap (λ (t : List ℕ). t ++ drop (size * (n + 1)) old) (sym (run_more f n))

  pub upto_end : (n : ℕ) → length old ≤ size * n → upto f size n old ≡ join (made f n)
  upto_end n h = ap (λ (t : List ℕ). join (made f n) ++ t) (drop_of_length-le old {i = size * n} h) ∙ append-nil (join (made f n))

-- ---- four lines

pub four_sets_lem : (a b c d t p q r s : List ℕ) (l i : ℕ) → length a ≡ l → length b ≡ l → length c ≡ l → length d ≡ l
    → i + length p ≤ l → i + length q ≤ l → i + length r ≤ l → i + length s ≤ l
    → sets (sets (sets (sets (a ++ (b ++ (c ++ (d ++ t)))) i p) (i + l) q) (i + 2 * l) r) (i + 3 * l) s
    ≡ sets a i p ++ (sets b i q ++ (sets c i r ++ (sets d i s ++ t)))
four_sets_lem a b c d t p q r s l i la lb lc ld hp hq hr hs =
    let a' = sets a i p in
    let b' = sets b i q in
    let c' = sets c i r in
    let ea : length a' ≡ l = length-sets a i p ∙ la in
    let eb : length b' ≡ l = length-sets b i q ∙ lb in
    let ec : length c' ≡ l = length-sets c i r ∙ lc in
    ap (λ (x : List ℕ). sets (sets (sets x (i + l) q) (i + 2 * l) r) (i + 3 * l) s) (sets_left p a (b ++ (c ++ (d ++ t))) i (omega arith))
    ∙ ap (λ (x : List ℕ). sets (sets x (i + 2 * l) r) (i + 3 * l) s)
    (sets_right q a' (b ++ (c ++ (d ++ t))) i (i + l) (omega arith) ∙ ap (λ (x : List ℕ). a' ++ x) (sets_left q b (c ++ (d ++ t)) i (omega arith)))
    ∙ ap (λ (x : List ℕ). sets x (i + 3 * l) s)
    (sets_right r a' (b' ++ (c ++ (d ++ t))) (i + l) (i + 2 * l) (omega arith)
    ∙ ap (λ (x : List ℕ). a' ++ x)
    (sets_right r b' (c ++ (d ++ t)) i (i + l) (omega arith) ∙ ap (λ (x : List ℕ). b' ++ x) (sets_left r c (d ++ t) i (omega arith))))
    ∙ sets_right s a' (b' ++ (c' ++ (d ++ t))) (i + 2 * l) (i + 3 * l) (omega arith)
    ∙ ap (λ (x : List ℕ). a' ++ x)
    (sets_right s b' (c' ++ (d ++ t)) (i + l) (i + 2 * l) (omega arith)
    ∙ ap (λ (x : List ℕ). b' ++ x)
    (sets_right s c' (d ++ t) i (i + l) (omega arith) ∙ ap (λ (x : List ℕ). c' ++ x) (sets_left s d t i (omega arith))))
