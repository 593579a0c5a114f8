-- The pixels call of BC7: its refusals, its one outcome, and what a caller learns from it. Assumes nothing.
use mathlib.Core.Path.{◌≡◌, refl, sym, ap, ◌∙◌}
use mathlib.Core.List.{List, ◌++◌}
use Prim.Native.Nat.{ℕ, zero, suc, ◌≤◌, ◌<◌}
use lib.ListN.{length, drop}
use borrow.Author.Tests.{lt-ltb, le-ltb, eq-eqb, ne_eqb}
use Rattle.bcn_spec.specs.Answers.{done, block_not_16, short_output}
use Rattle.bcn_spec.specs.Bits.{block_size, number_of}
use Rattle.bc7_spec.specs.Fields.{mode_in, mode_of}
use Rattle.bc7_spec.specs.Block.{byte_count, colour_bytes}
use Rattle.bc7_picture.specs.Shown.{shown_of}
use Rattle.bc7.specs.Call.{Bc7Pixels}
use Rattle.bc7.specs.Call.{refusal_of, answer_at, Painted}

-- ---- the checks

module _ (size room : ℕ) where
  pub block_refused : (size ≡ block_size → ⊥) → refusal_of size room ≡ block_not_16
  unfolding refusal_of
  block_refused s = simp (ne_eqb _ _ s)

  pub output_refused : size ≡ block_size → room < byte_count → refusal_of size room ≡ short_output
  unfolding refusal_of
  output_refused s r = simp (eq-eqb _ _ s, lt-ltb _ _ r)

  pub done_when : size ≡ block_size → byte_count ≤ room → refusal_of size room ≡ done
  unfolding refusal_of
  done_when s r = simp (eq-eqb _ _ s, le-ltb _ _ r)

-- ---- the outcome

pub one_outcome : {block out : List ℕ} {r s : Bc7Pixels} {a b : List ℕ} → Painted block out r a → Painted block out s b → (r ≡ s) × (a ≡ b)
one_outcome p q = (p.answers ∙ sym q.answers, p.holds ∙ sym q.holds)

number_at : (n : ℕ) (block : List ℕ) → (answer_at n block).answer ≡ n
number_at zero block = refl
number_at (suc n) block = refl

module _ {block out : List ℕ} {r : Bc7Pixels} {after : List ℕ} (p : Painted block out r after) where
  -- the number that is answered is that of the first check that is met
  pub answered : r.answer ≡ refusal_of (length block) (length out)
  answered = ap (λ (x : Bc7Pixels). x.answer) p.answers ∙ number_at (refusal_of (length block) (length out)) block

  -- where no check is met: the mode, and the bytes
  pub mode_told : refusal_of (length block) (length out) ≡ done → r.mode ≡ mode_of block
  mode_told z = ap (λ (x : Bc7Pixels). x.mode) p.answers ∙ rw z refl

  pub written : refusal_of (length block) (length out) ≡ done → after ≡ colour_bytes block ++ drop byte_count out
  written z = rw z at p.holds

  -- where a check is met, nothing is written
  pub untouched : {n : ℕ} → refusal_of (length block) (length out) ≡ suc n → after ≡ out
  untouched z = rw z at p.holds

-- ---- what each return shows

refused_at : (block out : List ℕ) (n : ℕ) (r : Bc7Pixels) → refusal_of (length block) (length out) ≡ suc n → r ≡ record { answer = suc n; mode = 0 } → Painted block out r out
refused_at block out n r z e = record { answers = e ∙ rw z refl; holds = rw z refl }

module _ (block out : List ℕ) where
  pub painted_block : (r : Bc7Pixels) → (length block ≡ block_size → ⊥) → r ≡ record { answer = block_not_16; mode = 0 } → Painted block out r out
  painted_block r s = refused_at block out 1 r (block_refused (length block) (length out) s)

  pub painted_output : (r : Bc7Pixels) → length block ≡ block_size → length out < byte_count → r ≡ record { answer = short_output; mode = 0 } → Painted block out r out
  painted_output r s h = refused_at block out 2 r (output_refused (length block) (length out) s h)

  pub painted_done : (n mode : ℕ) (after : List ℕ) → length block ≡ block_size → byte_count ≤ length out → n ≡ number_of block → mode ≡ mode_in n
      → after ≡ shown_of n ++ drop byte_count out → Painted block out (record { answer = done; mode = mode }) after
  unfolding shown_of mode_of colour_bytes
  painted_done n mode after s h en em ea =
      let z : refusal_of (length block) (length out) ≡ done = done_when (length block) (length out) s h in
      record {
        answers = ap (λ (m : ℕ). record { answer = done; mode = m }) (em ∙ ap mode_in en) ∙ rw z refl;
        holds = ea ∙ ap (λ (x : ℕ). shown_of x ++ drop byte_count out) en ∙ rw z refl;
      }
