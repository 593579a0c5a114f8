-- The lines of the faulty records, as a loop over the records makes them, and the whole text. Assumes nothing.
use mathlib.Core.Path.{◌≡◌, refl, sym, ap, ◌∙◌}
use mathlib.Core.List.{List, [], ◌∷◌}
use Prim.Native.Nat.{ℕ, zero, suc, ◌+◌, ◌-◌}
use native.Mathlib.Omega.{arith}
use lib.ListN.{length, get_or, take, drop, length-drop}
use lib.Seq.{take_all}
use borrow.Author.Tests.{eq-eqb, ne_eqb}
use Rattle.bcn_spec.specs.Answers.{done}
use Rattle.text.specs.Text.{field, decimal, line_feed, refusal_line, Written}
use Rattle.text.proofs.Texts.{then, said}
use Rattle.text.proofs.Lines as lines
use Rattle.store_faulty.specs.declared.FaultCounts.{FaultCounts}
use Rattle.store_faulty.specs.Faulty.{RecordForm, form_of, count_in, store_refusal, cause_of, counts_of}
use Rattle.probe_places.specs.Places.{place_size}
use Rattle.store_faulty.proofs.Forms.{is_plain}
use Rattle.text_check.specs.Checking.{text_at, fault_line, check_line, check_lines, counts_line, checking_text, checking_of}

module _ (form : RecordForm) (store : List ℕ) where
  pub line : {l m₁ m₂ m₃ m₄ : List ℕ} {at e₁ e₂ e₃ e₄ tile : ℕ} (n cause : ℕ) → tile ≡ form.tile store n → Written l at (field n) e₁ m₁
      → Written m₁ e₁ (field tile) e₂ m₂ → Written m₂ e₂ (decimal cause) e₃ m₃ → Written m₃ e₃ line_feed e₄ m₄
      → Written l at (fault_line form store n cause) e₄ m₄
  unfolding fault_line
  line n cause t x y z w = said (then (then (then x y) z) w) (rw t)

  module _ (n : ℕ) {cause : ℕ} (is : cause ≡ cause_of form store n) where
    pub line_skipped : {l m : List ℕ} {e : ℕ} → cause ≡ done → Written l 0 (check_lines form store n) e m → Written l 0 (check_lines form store (n + 1)) e m
    unfolding check_line
    line_skipped z = lines.line_skipped (check_line form store) n (rw (eq-eqb _ _ (sym is ∙ z)))

    pub line_more : {l m₁ m₂ : List ℕ} {e₁ e₂ : ℕ} → (cause ≡ done → ⊥) → Written l 0 (check_lines form store n) e₁ m₁
        → Written m₁ e₁ (fault_line form store n cause) e₂ m₂ → Written l 0 (check_lines form store (n + 1)) e₂ m₂
    unfolding check_line
    line_more z x y = lines.line_more (check_line form store) n x (said y (rw (ne_eqb _ _ (λ q. z (is ∙ q)), sym is)))

module _ (byte : ℕ) (store : List ℕ) where
  pub refused_text : (answer : ℕ) → answer ≡ store_refusal (form_of byte) (length store) → (answer ≡ done → ⊥) → refusal_line answer ≡ checking_text byte store
  unfolding checking_text
  refused_text zero e r = absurd (r refl)
  refused_text (suc a) e r = rw (sym e)

  pub done_text : {l m₁ m₂ : List ℕ} {e₁ e₂ records : ℕ} {counts : FaultCounts} → store_refusal (form_of byte) (length store) ≡ done
      → Written l 0 (check_lines (form_of byte) store (count_in (form_of byte) store)) e₁ m₁ → records ≡ count_in (form_of byte) store
      → counts ≡ counts_of (form_of byte) store → Written m₁ e₁ (counts_line records counts) e₂ m₂ → Written l 0 (checking_text byte store) e₂ m₂
  unfolding checking_text
  done_text e x r c y = said (then x y) (rw (e, r, c))

-- no byte at all is an empty store
pub no_input : (input : List ℕ) → length input ≡ 0 → checking_text 24 input ≡ checking_of input
unfolding checking_of checking_text form_of
no_input [] e = refl
no_input (x ∷ xs) e = absurd (omega arith)

pub rest_input : (input : List ℕ) → checking_text (get_or input 0 0) (take (length input - 1) (drop 1 input)) ≡ checking_of input
unfolding checking_of
rest_input input = ap (checking_text (get_or input 0 0)) (take_all (length input - 1) (drop 1 input) (simp length-drop (omega arith)))

-- a byte that stands for 24-byte records, as 24 does
pub plain_text : (byte : ℕ) (store : List ℕ) → (byte ≡ place_size → ⊥) → checking_text 24 store ≡ checking_text byte store
unfolding checking_text
plain_text byte store o =
    ap (λ (f : RecordForm). text_at (store_refusal f (length store)) f store) (is_plain 24 (λ e. omega arith) ∙ sym (is_plain byte o))

pub placed_text : (byte : ℕ) (store : List ℕ) → byte ≡ place_size → checking_text place_size store ≡ checking_text byte store
placed_text byte store e = rw e
