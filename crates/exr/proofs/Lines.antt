-- Stores in a scan line: a head, and three channels that are filled from the left at once. Assumes nothing.
use mathlib.Core.Path.{◌≡◌, ◌∙◌, sym, ap, ap₂}
use mathlib.Core.List.{List, ◌++◌}
use Prim.Native.Nat.{ℕ, ◌+◌, ◌*◌, ◌≤◌}
use native.Mathlib.Omega.{arith}
use lib.ListN.{length, take, drop, length-append, length-drop, take-append-drop}
use lib.Seq.{sets, length-sets, length-take-le, drop_at}
use Rattle.laws.specs.Made.{made, join}
use Rattle.laws.proofs.Stores.{sets_left, sets_right}
use Rattle.pfm.proofs.Lines.{upto, upto_start, upto_length, upto_step, upto_end, sets_front, four_sets_lem}
use Rattle.exr.specs.Bands.{four_sets}

-- ---- three channels behind a head

three_sets : (a b c d p q r : List ℕ) (i m : ℕ) → length a ≡ 8 → length b ≡ m → length c ≡ m → i + length p ≤ m → i + length q ≤ m
    → sets (sets (sets (a ++ (b ++ (c ++ d))) (8 + i) p) (8 + i + m) q) (8 + i + 2 * m) r ≡ a ++ (sets b i p ++ (sets c i q ++ sets d i r))
three_sets a b c d p q r i m la lb lc hp hq =
    let b' = sets b i p in
    let c' = sets c i q in
    let eb : length b' ≡ m = length-sets b i p ∙ lb in
    let ec : length c' ≡ m = length-sets c i q ∙ lc in
    ap (λ (x : List ℕ). sets (sets x (8 + i + m) q) (8 + i + 2 * m) r)
    (sets_right p a (b ++ (c ++ d)) i (8 + i) (omega arith) ∙ ap (λ (x : List ℕ). a ++ x) (sets_left p b (c ++ d) i (omega arith)))
    ∙ ap (λ (x : List ℕ). sets x (8 + i + 2 * m) r)
    (sets_right q a (b' ++ (c ++ d)) (i + m) (8 + i + m) (omega arith)
    ∙ ap (λ (x : List ℕ). a ++ x)
    (sets_right q b' (c ++ d) i (i + m) (omega arith) ∙ ap (λ (x : List ℕ). b' ++ x) (sets_left q c d i (omega arith))))
    ∙ sets_right r a (b' ++ (c' ++ d)) (i + 2 * m) (8 + i + 2 * m) (omega arith)
    ∙ ap (λ (x : List ℕ). a ++ x)
    (sets_right r b' (c' ++ d) (i + m) (i + 2 * m) (omega arith) ∙ ap (λ (x : List ℕ). b' ++ x) (sets_right r c' d i (i + m) (omega arith)))

-- the first n cells of the three channels behind a head; the head and the rest are as they were in the old line
unfoldable pub line_upto : (ℕ → List ℕ) → (ℕ → List ℕ) → (ℕ → List ℕ) → ℕ → List ℕ → ℕ → List ℕ
line_upto f g h m old n =
    take 8 old ++ (upto f 8 n (take m (drop 8 old)) ++ (upto g 8 n (take m (drop m (drop 8 old))) ++ upto h 8 n (drop m (drop m (drop 8 old)))))

module _ (f g h : ℕ → List ℕ) (ef : (n : ℕ) → length (f n) ≡ 8) (eg : (n : ℕ) → length (g n) ≡ 8) (eh : (n : ℕ) → length (h n) ≡ 8)
    (m : ℕ) (old : List ℕ) (eo : length old ≡ 8 + 3 * m) where
  front : length (take 8 old) ≡ 8
  front = length-take-le 8 old (omega arith)

  first : length (take m (drop 8 old)) ≡ m
  first = length-take-le m (drop 8 old) (let a = length-drop 8 old in omega arith)

  second : length (take m (drop m (drop 8 old))) ≡ m
  second = length-take-le m (drop m (drop 8 old)) (let a = length-drop 8 old in let b = length-drop m (drop 8 old) in omega arith)

  third : length (drop m (drop m (drop 8 old))) ≡ m
  third = let a = length-drop 8 old in let b = length-drop m (drop 8 old) in let c = length-drop m (drop m (drop 8 old)) in omega arith

  -- nothing is stored yet
  pub line_start : old ≡ line_upto f g h m old 0
  unfolding line_upto
  line_start =
      let split : (k : ℕ) (t : List ℕ) → t ≡ take k t ++ drop k t = λ k t. sym (take-append-drop k t) in
      split 8 old
      ∙ ap (λ (t : List ℕ). take 8 old ++ t)
      (split m (drop 8 old)
      ∙ ap₂ (λ (s t : List ℕ). s ++ t) (upto_start f 8 ef (take m (drop 8 old)))
      (split m (drop m (drop 8 old))
      ∙ ap₂ (λ (s t : List ℕ). s ++ t) (upto_start g 8 eg (take m (drop m (drop 8 old)))) (upto_start h 8 eh (drop m (drop m (drop 8 old))))))

  pub line_length_lem : (n : ℕ) → 8 * n ≤ m → length (line_upto f g h m old n) ≡ 8 + 3 * m
  unfolding line_upto
  line_length_lem n k =
      let e0 = front in
      let e1 = first in
      let e2 = second in
      let e3 = third in
      let u = upto_length f 8 ef (take m (drop 8 old)) n (omega arith) in
      let v = upto_length g 8 eg (take m (drop m (drop 8 old))) n (omega arith) in
      let w = upto_length h 8 eh (drop m (drop m (drop 8 old))) n (omega arith) in
      let a = take 8 old in
      let b = upto f 8 n (take m (drop 8 old)) in
      let c = upto g 8 n (take m (drop m (drop 8 old))) in
      let d = upto h 8 n (drop m (drop m (drop 8 old))) in
      let all : length (a ++ (b ++ (c ++ d))) ≡ length a + length (b ++ (c ++ d)) = length-append a (b ++ (c ++ d)) in
      let more : length (b ++ (c ++ d)) ≡ length b + length (c ++ d) = length-append b (c ++ d) in
      let last : length (c ++ d) ≡ length c + length d = length-append c d in
      omega arith

  -- one cell more in each channel
  pub line_step : (n : ℕ) → 8 * n + 8 ≤ m
      → sets (sets (sets (line_upto f g h m old n) (8 + 8 * n) (f n)) (8 + 8 * n + m) (g n)) (8 + 8 * n + 2 * m) (h n) ≡ line_upto f g h m old (n + 1)
  unfolding line_upto
  line_step n k =
      let e1 = first in
      let e2 = second in
      let e3 = third in
      let lf = ef n in
      let lg = eg n in
      three_sets (take 8 old) (upto f 8 n (take m (drop 8 old))) (upto g 8 n (take m (drop m (drop 8 old)))) (upto h 8 n (drop m (drop m (drop 8 old)))) (f n) (g n) (h n) (8 * n) m front
      (upto_length f 8 ef (take m (drop 8 old)) n (omega arith) ∙ e1)
      (upto_length g 8 eg (take m (drop m (drop 8 old))) n (omega arith) ∙ e2)
      (omega arith) (omega arith)
      ∙ ap (λ (t : List ℕ). take 8 old ++ t)
      (ap₂ (λ (s t : List ℕ). s ++ t) (upto_step f 8 ef (take m (drop 8 old)) n (omega arith))
      (ap₂ (λ (s t : List ℕ). s ++ t) (upto_step g 8 eg (take m (drop m (drop 8 old))) n (omega arith)) (upto_step h 8 eh (drop m (drop m (drop 8 old))) n (omega arith))))

  -- all cells are stored, and then the head
  pub line_end : (head : List ℕ) → length head ≡ 8 → (n : ℕ) → m ≤ 8 * n
      → sets (line_upto f g h m old n) 0 head ≡ head ++ (join (made f n) ++ (join (made g n) ++ join (made h n)))
  unfolding line_upto
  line_end head el n k =
      let e1 = first in
      let e2 = second in
      let e3 = third in
      let rest = upto f 8 n (take m (drop 8 old)) ++ (upto g 8 n (take m (drop m (drop 8 old))) ++ upto h 8 n (drop m (drop m (drop 8 old)))) in
      let e0 : length (take 8 old) ≡ 8 = front in
      let all : length (take 8 old ++ rest) ≡ length (take 8 old) + length rest = length-append (take 8 old) rest in
      sets_front head (take 8 old ++ rest) (omega arith)
      ∙ ap (λ (t : List ℕ). head ++ t)
      (drop_at (take 8 old) rest (length head) (omega arith)
      ∙ ap₂ (λ (s t : List ℕ). s ++ t) (upto_end f 8 ef (take m (drop 8 old)) n (omega arith))
      (ap₂ (λ (s t : List ℕ). s ++ t) (upto_end g 8 eg (take m (drop m (drop 8 old))) n (omega arith)) (upto_end h 8 eh (drop m (drop m (drop 8 old))) n (omega arith))))

-- ---- three stores in each of four lines, channel by channel

pub twelve_sets : (p q r : ℕ → List ℕ) (a b c d t : List ℕ) (l i j k : ℕ) → length a ≡ l → length b ≡ l → length c ≡ l → length d ≡ l
    → ((row : ℕ) → i + length (p row) ≤ l) → ((row : ℕ) → j + length (q row) ≤ l) → ((row : ℕ) → k + length (r row) ≤ l)
    → four_sets (four_sets (four_sets (a ++ (b ++ (c ++ (d ++ t)))) i l (p 0) (p 1) (p 2) (p 3)) j l (q 0) (q 1) (q 2) (q 3)) k l (r 0) (r 1) (r 2) (r 3)
    ≡ sets (sets (sets a i (p 0)) j (q 0)) k (r 0)
    ++ (sets (sets (sets b i (p 1)) j (q 1)) k (r 1) ++ (sets (sets (sets c i (p 2)) j (q 2)) k (r 2) ++ (sets (sets (sets d i (p 3)) j (q 3)) k (r 3) ++ t)))
twelve_sets p q r a b c d t l i j k la lb lc ld hp hq hr =
    let keep : (x : List ℕ) (at : ℕ) (v : List ℕ) → length x ≡ l → length (sets x at v) ≡ l = λ x at v e. length-sets x at v ∙ e in
    let a1 = sets a i (p 0) in
    let b1 = sets b i (p 1) in
    let c1 = sets c i (p 2) in
    let d1 = sets d i (p 3) in
    let a2 = sets a1 j (q 0) in
    let b2 = sets b1 j (q 1) in
    let c2 = sets c1 j (q 2) in
    let d2 = sets d1 j (q 3) in
    let ka = keep a i (p 0) la in
    let kb = keep b i (p 1) lb in
    let kc = keep c i (p 2) lc in
    let kd = keep d i (p 3) ld in
    ap (λ (x : List ℕ). four_sets (four_sets x j l (q 0) (q 1) (q 2) (q 3)) k l (r 0) (r 1) (r 2) (r 3))
    (four_sets_lem a b c d t (p 0) (p 1) (p 2) (p 3) l i la lb lc ld (hp 0) (hp 1) (hp 2) (hp 3))
    ∙ ap (λ (x : List ℕ). four_sets x k l (r 0) (r 1) (r 2) (r 3))
    (four_sets_lem a1 b1 c1 d1 t (q 0) (q 1) (q 2) (q 3) l j ka kb kc kd (hq 0) (hq 1) (hq 2) (hq 3))
    ∙ four_sets_lem a2 b2 c2 d2 t (r 0) (r 1) (r 2) (r 3) l k (keep a1 j (q 0) ka) (keep b1 j (q 1) kb) (keep c1 j (q 2) kc) (keep d1 j (q 3) kd) (hr 0) (hr 1) (hr 2) (hr 3)
