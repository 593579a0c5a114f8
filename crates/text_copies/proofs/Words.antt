-- The words of a line: a number in decimal has no blank, so each number is one word. Assumes nothing.
use mathlib.Core.Path.{◌≡◌, refl, ap}
use mathlib.Core.Bool.{false}
use mathlib.Core.List.{List, [], ◌∷◌, ◌++◌}
use Prim.Native.Nat.{ℕ, zero, suc, ◌+◌, ◌/◌, ◌%◌}
use native.Mathlib.Omega.{arith}
use lib.Dec.{eqb, ltb}
use borrow.Author.Tests.{ne_eqb}
use Rattle.laws.proofs.Tests.{cases}
use Rattle.text.specs.Text.{decimal_in, decimal}
use Rattle.text_copies.specs.CopyLines.{behind, before}

-- ---- a word has no blank

pub data Word : List ℕ → Type 0 where
  none : Word []
  more : {byte : ℕ} {rest : List ℕ} → (eqb byte 32 ≡ false) → Word rest → Word (byte ∷ rest)

joined : {a b : List ℕ} → Word a → Word b → Word (a ++ b)
joined none w = w
joined (more e v) w = more e (joined v w)

digit : (k : ℕ) → Word ((48 + k) ∷ [])
digit k = more (ne_eqb (48 + k) 32 (λ e. omega arith)) none

decimal_in_lem : (most n : ℕ) → Word (decimal_in most n)
unfolding decimal_in
decimal_in_lem zero n = none
decimal_in_lem (suc most) n = cases (ltb n 10) (λ t. rw t (digit n)) (λ f. rw f (joined (decimal_in_lem most (n / 10)) (digit (n % 10))))

pub decimal_word : (n : ℕ) → Word (decimal n)
unfolding decimal
decimal_word n = decimal_in_lem 20 n

-- ---- a word and the blank behind it

pub behind_word : {w : List ℕ} (blanks : ℕ) (rest : List ℕ) → Word w → behind (suc blanks) (w ++ (32 ∷ rest)) ≡ behind blanks rest
behind_word blanks rest none = refl
behind_word blanks rest (more e v) = rw e (behind_word blanks rest v)

pub before_word : {w : List ℕ} (blanks : ℕ) (rest : List ℕ) → Word w → before (suc blanks) (w ++ (32 ∷ rest)) ≡ w ++ (32 ∷ before blanks rest)
before_word blanks rest none = refl
before_word blanks rest (more {byte} e v) = rw e (ap (λ (l : List ℕ). byte ∷ l) (before_word blanks rest v))

pub before_last : {w : List ℕ} (rest : List ℕ) → Word w → before zero (w ++ (32 ∷ rest)) ≡ w
before_last rest none = refl
before_last rest (more {byte} e v) = rw e (ap (λ (l : List ℕ). byte ∷ l) (before_last rest v))
