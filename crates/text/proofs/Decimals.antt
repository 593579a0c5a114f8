-- Laws of decimal text: a digit more in front of those that are there, the number that a text stands for, and its first digit.
-- Assumes nothing.
use mathlib.Core.Path.{◌≡◌, refl, sym, ap, ap₂, ◌∙◌}
use mathlib.Core.List.{List, [], ◌∷◌, ◌++◌, append_assoc, append-nil}
use Prim.Native.Nat.{ℕ, zero, suc, ◌+◌, ◌-◌, ◌*◌, ◌/◌, ◌%◌, ◌^◌, ◌≤◌, ◌<◌}
use native.Mathlib.Nat.{pow-succ', div-lt_iff_lt-mul, div-add-mod'}
use native.Mathlib.Omega.{arith}
use lib.Dec.{ltb, lit<}
use lib.ListN.{length, get_or, set, drop, length-set}
use lib.Seq.{drop-cons, drop-set-lt, get_or-set_same}
use borrow.Author.Tests.{lt-ltb, le-ltb, ltb-false}
use Rattle.laws.proofs.Tests.{cases}
use Rattle.text.specs.Text.{decimal_in, decimal}

-- ---- the digits that are stored from the last on

-- the digits behind, with one more before them
in_front : (digits : List ℕ) (k d : ℕ) → k < length digits → drop k (set digits k d) ≡ d ∷ drop (suc k) digits
in_front digits k d h =
    drop-cons (set digits k d) k 0 (simp length-set (omega arith))
    ∙ ap₂ (λ (x : ℕ) (t : List ℕ). x ∷ t) (get_or-set_same digits k d 0 h) (drop-set-lt (suc k) digits k d (omega arith))

module _ (text digits : List ℕ) (first rest d : ℕ) (some : 0 < first) (fits : first ≤ length digits) (so_far : text ≡ decimal_in first rest ++ drop first digits)
    (low : d ≡ 48 + rest % 10) where
  abbrev k : ℕ
  k = first - 1

  room : k < length digits
  room = omega arith

  is : text ≡ decimal_in (suc k) rest ++ drop (suc k) digits
  is = so_far ∙ ap (λ (j : ℕ). decimal_in j rest ++ drop j digits) (let e : first ≡ suc (first - 1) = omega arith in e)

  -- there are digits left
  pub digit_more : (rest / 10 ≡ 0 → ⊥) → text ≡ decimal_in (first - 1) (rest / 10) ++ drop (first - 1) (set digits (first - 1) d)
  unfolding decimal_in
  digit_more more =
      is ∙ rw (le-ltb rest 10 (omega arith))
      (append_assoc (decimal_in k (rest / 10)) ((48 + rest % 10) ∷ []) (drop (suc k) digits)
      ∙ ap (λ (t : List ℕ). decimal_in k (rest / 10) ++ t) (ap (λ (x : ℕ). x ∷ drop (suc k) digits) (sym low) ∙ sym (in_front digits k d room)))

  -- that was the first digit
  pub digit_last : rest / 10 ≡ 0 → text ≡ drop (first - 1) (set digits (first - 1) d)
  unfolding decimal_in
  digit_last none =
      let same : 48 + rest ≡ d = omega arith in
      is ∙ rw (lt-ltb rest 10 (omega arith)) (ap (λ (x : ℕ). x ∷ drop (suc k) digits) same ∙ sym (in_front digits k d room))

-- nothing is stored yet
pub digit_none : (n : ℕ) → decimal n ≡ decimal_in 20 n ++ []
unfolding decimal
digit_none n = sym (append-nil (decimal_in 20 n))

-- all places are used
pub digit_end : (text digits : List ℕ) (k rest : ℕ) → k ≡ 0 → text ≡ decimal_in k rest ++ drop k digits → text ≡ digits
unfolding decimal_in
digit_end text digits k rest z e = rw z at e

-- ---- what a text of digits says

-- the number that a text of digits stands for, behind digits that stand for n
unfoldable pub number_of : List ℕ → ℕ → ℕ
number_of [] n = n
number_of (d ∷ ds) n = number_of ds (n * 10 + (d - 48))

number_append : (xs ys : List ℕ) (n : ℕ) → number_of (xs ++ ys) n ≡ number_of ys (number_of xs n)
unfolding number_of
number_append [] ys n = refl
number_append (x ∷ xs) ys n = number_append xs ys (n * 10 + (x - 48))

-- the digits are those of the number
pub number_in : (k n : ℕ) → n < 10 ^ k → number_of (decimal_in k n) 0 ≡ n
unfolding number_of decimal_in
number_in zero n h = omega arith
number_in (suc k) n h =
    let l : n < 10 ^ k * 10 = omega (arith, pow-succ' 10 k) in
    cases (ltb n 10) (λ e. rw e (omega arith))
    (λ e. rw e
    (number_append (decimal_in k (n / 10)) ((48 + n % 10) ∷ []) 0
    ∙ ap (λ (x : ℕ). x * 10 + (48 + n % 10 - 48)) (number_in k (n / 10) ((div-lt_iff_lt-mul (lit< tt)).1 l))
    ∙ omega (arith, div-add-mod' n 10)))

pub number_decimal : (n : ℕ) → n < 10 ^ 20 → number_of (decimal n) 0 ≡ n
unfolding decimal
number_decimal n h = number_in 20 n h

-- the first digit is no zero, but for the number 0 itself
pub first_digit : (k n : ℕ) → 0 < n → n < 10 ^ k → 49 ≤ get_or (decimal_in k n) 0 0
unfolding decimal_in
first_digit zero n p h = absurd (omega arith)
first_digit (suc k) n p h =
    let l : n < 10 ^ k * 10 = omega (arith, pow-succ' 10 k) in
    cases (ltb n 10) (λ e. rw e (omega arith))
    (λ e. let big = ltb-false n 10 e in
    rw e (in_longer (decimal_in k (n / 10)) _ (first_digit k (n / 10) (omega arith) ((div-lt_iff_lt-mul (lit< tt)).1 l))))
  where
    in_longer : (xs ys : List ℕ) → 49 ≤ get_or xs 0 0 → 49 ≤ get_or (xs ++ ys) 0 0
    in_longer [] ys h = absurd (omega arith)
    in_longer (x ∷ xs) ys h = h

-- ---- examples
example : decimal 4096 ≡ 52 ∷ 48 ∷ 57 ∷ 54 ∷ []
unfolding decimal decimal_in
example = refl

none : decimal 0 ≡ 48 ∷ []
unfolding decimal decimal_in
none = refl
