-- The theorems of specs/CopyLines: by what the audit tells as a copy, line by line. Assumes nothing.
use mathlib.Core.Path.{◌≡◌, sym, ◌∙◌, ap, ap₂}
use mathlib.Core.Bool.{Bool, true, false}
use mathlib.Core.List.{List, [], ◌∷◌, ◌++◌, append_assoc}
use Prim.Native.Nat.{ℕ}
use Rattle.laws.specs.Pick.{pick}
use Rattle.laws.specs.Made.{join}
use Rattle.laws.proofs.Tests.{cases}
use Rattle.laws.proofs.Rows.{made-same}
use Rattle.store_records.specs.Store.{records_in, tile_at}
use Rattle.store_clean.specs.Clean.{goes}
use Rattle.text.specs.Text.{line_feed, decimal, field, lines_to}
use Rattle.text_audit.specs.Audit.{stays_for, finding_of, pair_of, verdict_word, cover_word, twin_line, is_twin, audit_line}
use Rattle.text_audit.proofs.Verdicts.{copies_go}
use Rattle.text_clean.specs.CleanText.{removed_line, line_of}
use Rattle.text_copies.specs.CopyLines.{behind, before, says_copy, removal_of, RemovalsAreCopies, copies_of, AllCopies}
use Rattle.text_copies.proofs.Words.{decimal_word, behind_word, before_word, before_last}

-- ---- four numbers and what follows them

-- the four numbers, and a blank behind each
four : ℕ → ℕ → ℕ → ℕ → List ℕ → List ℕ
four a b c d rest = decimal a ++ (32 ∷ (decimal b ++ (32 ∷ (decimal c ++ (32 ∷ (decimal d ++ (32 ∷ rest)))))))

pair_four : (store : List ℕ) (n stays : ℕ) (rest : List ℕ) → pair_of store n stays ++ rest ≡ four n (tile_at store n) stays (tile_at store stays) rest
unfolding pair_of field four
pair_four store n stays rest = simp append_assoc

behind_four : (a b c d : ℕ) (rest : List ℕ) → behind 4 (four a b c d rest) ≡ rest
unfolding four
behind_four a b c d rest =
    behind_word 3 _ (decimal_word a) ∙ behind_word 2 _ (decimal_word b) ∙ behind_word 1 _ (decimal_word c) ∙ behind_word 0 rest (decimal_word d)

before_four : (store : List ℕ) (n stays : ℕ) (rest : List ℕ)
    → before 3 (four n (tile_at store n) stays (tile_at store stays) rest) ++ line_feed ≡ removed_line store n stays
unfolding four removed_line field
before_four store n stays rest =
    ap (λ (l : List ℕ). l ++ line_feed)
    (before_word 2 _ (decimal_word n)
    ∙ ap (λ (l : List ℕ). decimal n ++ (32 ∷ l))
    (before_word 1 _ (decimal_word (tile_at store n))
    ∙ ap (λ (l : List ℕ). decimal (tile_at store n) ++ (32 ∷ l))
    (before_word 0 _ (decimal_word stays) ∙ ap (λ (l : List ℕ). decimal stays ++ (32 ∷ l)) (before_last rest (decimal_word (tile_at store stays))))))
    ∙ simp append_assoc

-- ---- a line of the audit

says : (a b c d : ℕ) (copy cover : Bool) → says_copy (four a b c d (verdict_word copy ++ cover_word cover)) ≡ copy
unfolding verdict_word
says a b c d true cover = rw (behind_four a b c d (verdict_word true ++ cover_word cover))
says a b c d false cover = rw (behind_four a b c d (verdict_word false ++ cover_word cover))

twin_removal : (store : List ℕ) (n stays : ℕ) (copy cover : Bool)
    → removal_of (pair_of store n stays ++ verdict_word copy ++ cover_word cover) ≡ pick copy (removed_line store n stays) []
twin_removal store n stays copy cover =
    let rest = verdict_word copy ++ cover_word cover in
    ap removal_of (append_assoc (pair_of store n stays) (verdict_word copy) (cover_word cover) ∙ pair_four store n stays rest)
    ∙ ap₂ (λ (t : Bool) (l : List ℕ). pick t l []) (says n (tile_at store n) stays (tile_at store stays) copy cover) (before_four store n stays rest)

module _ (store : List ℕ) (n : ℕ) where
  stays_first : pick (goes store n) (removed_line store n (stays_for store n)) [] ≡ line_of store n
  unfolding line_of stays_for
  stays_first = cases (goes store n) (λ t. rw t) (λ f. rw f)

  twin_line_lem : is_twin store n ≡ true → removal_of (audit_line store n) ≡ line_of store n
  unfolding audit_line twin_line finding_of
  twin_line_lem t = rw t (twin_removal store n (stays_for store n) (goes store n) (finding_of store n).covered ∙ stays_first)

  other_line : is_twin store n ≡ false → goes store n ≡ false → removal_of (audit_line store n) ≡ line_of store n
  unfolding audit_line line_of
  other_line f g = rw (f, g)

pub removals_are_copies : RemovalsAreCopies
removals_are_copies store w n h =
    cases (is_twin store n) (λ t. sym (twin_line_lem store n t))
    (λ f. sym (other_line store n f (sym (copies_go store w n h) ∙ rw f)))

-- ---- all of them

pub all_copies : AllCopies
unfolding lines_to
all_copies store w = ap join (made-same (line_of store) (copies_of store) (records_in store) (removals_are_copies store w))
