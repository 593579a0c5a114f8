-- Serves every clause. Checks in their order, each beside the number of its refusal, and what a number leaves. Assumes nothing.
use Rattle.std.specs.Prelude.{◌≡◌, Bool, false, List, [], ◌∷◌, ◌++◌, ℕ, zero, suc, length, drop}
use Rattle.laws.specs.Pick.{pick}

-- the number beside the first test that holds, or 0 where none does
abbrev pub first_met : List (Bool × ℕ) → ℕ
first_met [] = zero
first_met ((test, number) ∷ rest) = pick test number (first_met rest)

-- no test holds
abbrev pub NoneMet : List (Bool × ℕ) → Type 0
NoneMet [] = Unit {0}
NoneMet ((test, number) ∷ rest) = (test ≡ false) × NoneMet rest

-- no number is 0
abbrev pub Numbered : List (Bool × ℕ) → Type 0
Numbered [] = Unit {0}
Numbered ((test, zero) ∷ rest) = ⊥
Numbered ((test, suc number) ∷ rest) = Numbered rest

-- S-30: the first with 0, which is done; the second with the number of a refusal
abbrev pub ifDone {ℓ} : {X : Type ℓ} → ℕ → X → X → X
ifDone zero x y = x
ifDone (suc number) x y = y

-- the second number where the first is 0
abbrev pub or_next : ℕ → ℕ → ℕ
or_next zero next = next
or_next (suc number) next = suc number

-- S-30: what a call leaves of what it was lent: with 0 the list is at its front, with any other number nothing changed.
abbrev pub left_by : ℕ → List ℕ → List ℕ → List ℕ
left_by number list lent = ifDone number (list ++ drop (length list) lent) lent
