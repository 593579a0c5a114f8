-- S-88: what the clean-up prints of a store beside what the audit prints: its removal lines are the audit's `copy` lines, cut after their fourth
-- word. Assumes nothing.
use Rattle.std.specs.Prelude.{◌≡◌, Bool, List, [], ◌∷◌, ◌++◌, ℕ, zero, suc, ◌<◌, eqb, take}
use Rattle.laws.specs.Pick.{pick}
use Rattle.laws.specs.Every.{same}
use Rattle.laws.specs.Made.{made, join}
use Rattle.store_records.specs.Store.{records_in}
use Rattle.text.specs.Text.{line_feed}
use Rattle.text_audit.specs.Audit.{audit_line}
use Rattle.text_audit.specs.Verdicts.{NotRefused}
use Rattle.text_clean.specs.CleanText.{line_of, removed_lines}

-- ---- the words of a line

-- what follows the first so many blanks
abbrev pub behind : ℕ → List ℕ → List ℕ
behind zero line = line
behind (suc blanks) [] = []
behind (suc blanks) (byte ∷ line) = pick (eqb byte 32) (behind blanks line) (behind (suc blanks) line)

-- what stands before the blank that has so many blanks before it
abbrev pub before : ℕ → List ℕ → List ℕ
before blanks [] = []
before zero (byte ∷ line) = pick (eqb byte 32) [] (byte ∷ before zero line)
before (suc blanks) (byte ∷ line) = byte ∷ pick (eqb byte 32) (before blanks line) (before (suc blanks) line)

-- the fifth word is `copy`, and a blank follows it
abbrev pub says_copy : List ℕ → Bool
says_copy line = same (take 5 (behind 4 line)) (99 ∷ 111 ∷ 112 ∷ 121 ∷ 32 ∷ [])

-- the first four words of a line that says `copy`; nothing of another
abbrev pub removal_of : List ℕ → List ℕ
removal_of line = pick (says_copy line) (before 3 line ++ line_feed) []

-- ---- the theorem

-- Of a store that is not refused: the clean-up prints of record n what is left of the audit's line.
abbrev pub RemovalsAreCopies : Type 0
RemovalsAreCopies = (store : List ℕ) → NotRefused store → (n : ℕ) → n < records_in store → line_of store n ≡ removal_of (audit_line store n)

-- And so it prints the audit's copies, all of them and in their order.
abbrev pub copies_of : List ℕ → ℕ → List ℕ
copies_of store n = removal_of (audit_line store n)

abbrev pub AllCopies : Type 0
AllCopies = (store : List ℕ) → NotRefused store → removed_lines store (records_in store) ≡ join (made (copies_of store) (records_in store))
