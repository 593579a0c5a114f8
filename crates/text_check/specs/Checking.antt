-- S-74, S-89: what the program checking prints of a store: a line a faulty record, lowest first, and a last line with the counts; of a store that is
-- refused whole the line of the refusal is all. Assumes nothing.
use Rattle.std.specs.Prelude.{List, [], ◌∷◌, ◌++◌, ℕ, zero, suc, eqb, length, get_or, drop}
use Rattle.laws.specs.Pick.{pick}
use Rattle.bcn_spec.specs.Answers.{done}
use Rattle.text.specs.Text.{line_feed, decimal, field, refusal_line, lines_to}
use Rattle.store_faulty.specs.declared.FaultCounts.{FaultCounts}
use Rattle.store_faulty.specs.Faulty.{RecordForm, form_of, count_in, store_refusal, cause_of, counts_of}

-- the record's number and tile, and the cause: 1, 7 or 17 of a refused record, 12 of a damaged one
unfoldable pub fault_line : RecordForm → List ℕ → ℕ → ℕ → List ℕ
fault_line form store n cause = field n ++ field (form.tile store n) ++ decimal cause ++ line_feed

-- a sound record has no line
unfoldable pub check_line : RecordForm → List ℕ → ℕ → List ℕ
check_line form store n = pick (eqb (cause_of form store n) done) [] (fault_line form store n (cause_of form store n))

abbrev pub check_lines : RecordForm → List ℕ → ℕ → List ℕ
check_lines form store = lines_to (check_line form store)

-- `records `, ` refused `, ` damaged `
unfoldable pub counts_line : ℕ → FaultCounts → List ℕ
counts_line records counts =
    114 ∷ 101 ∷ 99 ∷ 111 ∷ 114 ∷ 100 ∷ 115 ∷ 32 ∷ [] ++ decimal records
    ++ (32 ∷ 114 ∷ 101 ∷ 102 ∷ 117 ∷ 115 ∷ 101 ∷ 100 ∷ 32 ∷ [] ++ decimal counts.refused)
    ++ (32 ∷ 100 ∷ 97 ∷ 109 ∷ 97 ∷ 103 ∷ 101 ∷ 100 ∷ 32 ∷ [] ++ decimal counts.damaged)
    ++ line_feed

abbrev pub text_at : ℕ → RecordForm → List ℕ → List ℕ
text_at zero form store = check_lines form store (count_in form store) ++ counts_line (count_in form store) (counts_of form store)
text_at (suc number) form store = refusal_line (suc number)

unfoldable pub checking_text : ℕ → List ℕ → List ℕ
checking_text byte store = text_at (store_refusal (form_of byte) (length store)) (form_of byte) store

-- of the program's input: one byte for the form, then the store
unfoldable pub checking_of : List ℕ → List ℕ
checking_of input = checking_text (get_or input 0 0) (drop 1 input)
