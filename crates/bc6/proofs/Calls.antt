-- The pixels call: its refusals, its one outcome, and what a caller learns from it. Assumes nothing.
use mathlib.Core.Path.{◌≡◌, refl, sym, ap, ◌∙◌}
use mathlib.Core.List.{List, ◌++◌}
use Prim.Native.Nat.{ℕ, zero, suc, ◌≤◌, ◌<◌}
use native.Mathlib.Omega.{arith}
use lib.ListN.{length, drop}
use borrow.Author.Tests.{lt-ltb, le-ltb, eq-eqb, ne_eqb}
use Rattle.bcn_spec.specs.Answers.{done, bad_format, block_not_16, short_output}
use Rattle.bcn_spec.specs.Bits.{block_size}
use Rattle.bc6h_spec.specs.Fields.{mode_of}
use Rattle.bc6h_spec.specs.Picture.{value_count, is_signed}
use Rattle.bc6h_spec.specs.Block.{pixels_of, infinities_of}
use Rattle.bc6_paint.specs.Values.{PaintedAs}
use Rattle.bcn_spec.specs.declared.Refusal.{Refusal}
use Rattle.std.specs.Prelude.{Result, Ok, Err}
use Rattle.bcn_spec.specs.Refusals.{refusal_number, answer_of}
use Rattle.bcn_spec.proofs.Refusals.{positive}
use Rattle.bc6.specs.declared.Shown.{Shown}
use Rattle.bc6.specs.Call.{Pixels, told, refusal_of, answer_at, Painted}

-- ---- the checks

module _ (format size room : ℕ) where
  pub format_refused : 1 < format → refusal_of format size room ≡ bad_format
  unfolding refusal_of
  format_refused h = simp (lt-ltb _ _ h)

  pub block_refused : format ≤ 1 → (size ≡ block_size → ⊥) → refusal_of format size room ≡ block_not_16
  unfolding refusal_of
  block_refused h s = simp (le-ltb _ _ h, ne_eqb _ _ s)

  pub output_refused : format ≤ 1 → size ≡ block_size → room < value_count → refusal_of format size room ≡ short_output
  unfolding refusal_of
  output_refused h s r = simp (le-ltb _ _ h, eq-eqb _ _ s, lt-ltb _ _ r)

  pub done_when : format ≤ 1 → size ≡ block_size → value_count ≤ room → refusal_of format size room ≡ done
  unfolding refusal_of
  done_when h s r = simp (le-ltb _ _ h, eq-eqb _ _ s, le-ltb _ _ r)

-- ---- the outcome

pub one_outcome : {block : List ℕ} {format : ℕ} {out : List ℕ} {r s : Pixels} {a b : List ℕ}
    → Painted block format out r a → Painted block format out s b → (r ≡ s) × (a ≡ b)
one_outcome p q = (p.answers ∙ sym q.answers, p.holds ∙ sym q.holds)

number_at : (n : ℕ) (block : List ℕ) (format : ℕ) → (answer_at n block format).answer ≡ n
number_at zero block format = refl
number_at (suc n) block format = refl

module _ {block : List ℕ} {format : ℕ} {out : List ℕ} {r : Pixels} {after : List ℕ} (p : Painted block format out r after) where
  -- the number that is answered is that of the first check that is met
  pub answered : r.answer ≡ refusal_of format (length block) (length out)
  answered = ap (λ (x : Pixels). x.answer) p.answers ∙ number_at (refusal_of format (length block) (length out)) block format

  -- where no check is met: the mode, how many values are minus infinity, the values
  pub mode_told : refusal_of format (length block) (length out) ≡ done → r.mode ≡ mode_of block
  mode_told z = ap (λ (x : Pixels). x.mode) p.answers ∙ rw z refl

  pub infinities_told : refusal_of format (length block) (length out) ≡ done → r.infinite ≡ infinities_of (is_signed format) block
  infinities_told z = ap (λ (x : Pixels). x.infinite) p.answers ∙ rw z refl

  pub written : refusal_of format (length block) (length out) ≡ done → after ≡ pixels_of (is_signed format) block ++ drop value_count out
  written z = rw z at p.holds

  pub never_refused : refusal_of format (length block) (length out) ≡ done → (why : Refusal) → r.answer ≡ refusal_number why → ⊥
  never_refused z why e = let n : refusal_number why ≡ 0 = sym e ∙ answered ∙ z in omega (arith, positive why)

  -- where a check is met, nothing is counted and nothing is written
  pub none_told : {n : ℕ} → refusal_of format (length block) (length out) ≡ suc n → r.infinite ≡ 0
  none_told z = ap (λ (x : Pixels). x.infinite) p.answers ∙ rw z refl

  pub untouched : {n : ℕ} → refusal_of format (length block) (length out) ≡ suc n → after ≡ out
  untouched z = rw z at p.holds

-- ---- what each return shows

refused_at : (block : List ℕ) (format : ℕ) (out : List ℕ) (n : ℕ) (r : Pixels) → refusal_of format (length block) (length out) ≡ suc n
    → r ≡ record { answer = suc n; mode = 0; infinite = 0 } → Painted block format out r out
refused_at block format out n r z e = record { answers = e ∙ rw z refl; holds = rw z refl }

module _ (block : List ℕ) (format : ℕ) (out : List ℕ) where
  pub painted_format : (r : Pixels) → 1 < format → r ≡ record { answer = bad_format; mode = 0; infinite = 0 } → Painted block format out r out
  painted_format r h = refused_at block format out 0 r (format_refused format (length block) (length out) h)

  pub painted_block : (r : Pixels) → format ≤ 1 → (length block ≡ block_size → ⊥) → r ≡ record { answer = block_not_16; mode = 0; infinite = 0 } → Painted block format out r out
  painted_block r h s = refused_at block format out 1 r (block_refused format (length block) (length out) h s)

  pub painted_output : (r : Pixels) → format ≤ 1 → length block ≡ block_size → length out < value_count → r ≡ record { answer = short_output; mode = 0; infinite = 0 } → Painted block format out r out
  painted_output r h s l = refused_at block format out 2 r (output_refused format (length block) (length out) h s l)

  pub painted_done : (m n : ℕ) (after : List ℕ) → format ≤ 1 → length block ≡ block_size → value_count ≤ length out
      → m ≡ mode_of block → PaintedAs (pixels_of (is_signed format) block) out n after
      → Painted block format out (record { answer = done; mode = m; infinite = n }) after
  unfolding infinities_of
  painted_done m n after h s l em p =
      let ok = done_when format (length block) (length out) h s l in
      record { answers = rw ok (λ i. record { answer = done; mode = em i; infinite = p.counts i }); holds = rw ok p.holds }

-- the number that a result stands for
pub told_answer : (r : Result Shown Refusal) → (told r).answer ≡ answer_of r
told_answer (Ok shown) = refl
told_answer (Err why) = refl
