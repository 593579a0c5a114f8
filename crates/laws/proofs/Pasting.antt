-- Laws of a copy into lent bytes: a turn of the loop that copies, what stands at the front once more is written, and the rest that is lent on.
-- Assumes nothing.
use mathlib.Core.Path.{◌≡◌, sym, ◌∙◌, ap, ap₂}
use mathlib.Core.List.{List, [], ◌++◌, append-nil, append_assoc}
use Prim.Native.Nat.{ℕ, ◌+◌, ◌-◌}
use native.Mathlib.Omega.{arith}
use lib.ListN.{length, take, drop, length-drop, drop_of_length-le}
use lib.Seq.{take_all, take_at, drop_at, drop-drop, paste}
use Rattle.std.specs.List.{copy_within}
use borrow.Rule.Slice.PartMut.{mid_of, put_mid}

-- ---- what stands at the front

module _ (front s lent out : List ℕ) (at size : ℕ) (e : length front ≡ at) (w : out ≡ front ++ drop at lent) where
  pub pasted : paste out at s size ≡ (front ++ take size s) ++ drop (at + size) lent
  pasted =
      let a : take at out ≡ front = ap (take at) w ∙ take_at front (drop at lent) at e in
      let d : drop (at + size) out ≡ drop (at + size) lent =
      sym (drop-drop size at out) ∙ ap (drop size) (ap (drop at) w ∙ drop_at front (drop at lent) at e) ∙ drop-drop size at lent in
      ap₂ (λ (x y : List ℕ). (x ++ take size s) ++ y) a d

-- ---- the rest of a place, lent from n on

module _ (out : List ℕ) (n : ℕ) where
  pub rest_lent : mid_of n (length out - n) out ≡ drop n out
  rest_lent = take_all (length out - n) (drop n out) (simp length-drop (omega arith))

  pub rest_put : (part : List ℕ) → put_mid n (length out - n) out part ≡ take n out ++ part
  rest_put part =
      let none : drop (length out - n) (drop n out) ≡ [] = drop_of_length-le (drop n out) {i = length out - n} (simp length-drop (omega arith)) in
      ap (λ (t : List ℕ). take n out ++ t) (ap (λ (t : List ℕ). part ++ t) none ∙ append-nil part)

-- a list that was put there stands behind what was in front
pub behind_front : (front xs lent out part : List ℕ) (n size : ℕ) → length front ≡ n → out ≡ front ++ drop n lent
    → part ≡ xs ++ drop size (mid_of n (length out - n) out) → put_mid n (length out - n) out part ≡ (front ++ xs) ++ drop (n + size) lent
behind_front front xs lent out part n size e w p =
    rest_put out n part
    ∙ ap₂ (λ (a b : List ℕ). a ++ b) (ap (take n) w ∙ take_at front (drop n lent) n e)
    (p ∙ ap (λ (t : List ℕ). xs ++ drop size t) (rest_lent out n ∙ ap (drop n) w ∙ drop_at front (drop n lent) n e)
    ∙ ap (λ (t : List ℕ). xs ++ t) (drop-drop size n lent))
    ∙ sym (append_assoc front xs (drop (n + size) lent))

-- ---- `copy_from_slice` of a part of a list into a part of another

pub copied : (lent from new : List ℕ) (to at size : ℕ) → new ≡ take (at + size - at) (drop at from) → put_mid to (to + size - to) lent new ≡ paste lent to (drop at from) size
copied lent from new to at size e =
    let p : to + size - to ≡ size = omega arith in
    let q : at + size - at ≡ size = omega arith in
    rw (e, p, q)
    (ap (λ (l : List ℕ). take to lent ++ (take size (drop at from) ++ l)) (drop-drop size to lent)
    ∙ sym (append_assoc (take to lent) (take size (drop at from)) (drop (to + size) lent)))

-- `copy_within` of a list
pub copied_within : (lent : List ℕ) (from size to : ℕ) → copy_within lent from (from + size) to ≡ paste lent to (drop from lent) size
copied_within lent from size to = let p : from + size - from ≡ size = omega arith in rw p

-- `copy_from_slice` into the last places of a list
pub end_put : (front rest tail : List ℕ) (n size : ℕ) → length front ≡ n → length rest ≡ size → put_mid n size (front ++ rest) tail ≡ front ++ tail
end_put front rest tail n size l m =
    let none : drop size rest ≡ [] = drop_of_length-le rest {i = size} (omega arith) in
    ap₂ (λ (a b : List ℕ). a ++ (tail ++ drop size b)) (take_at front rest n l) (drop_at front rest n l)
    ∙ ap (λ (b : List ℕ). front ++ (tail ++ b)) none
    ∙ ap (λ (b : List ℕ). front ++ b) (append-nil tail)
