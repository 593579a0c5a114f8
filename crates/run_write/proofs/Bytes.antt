-- A record's bytes, from what the calls ensure. Assumes nothing.
use mathlib.Core.Path.{◌≡◌, ◌∙◌, refl, ap, ap₂}
use mathlib.Core.List.{List, [], ◌∷◌, ◌++◌}
use Prim.Native.Nat.{ℕ, zero, suc, ◌+◌, ◌-◌, ◌*◌, ◌≤◌, ◌<◌}
use native.Mathlib.Omega.{arith}
use lib.ListN.{length, get_or, set, take, drop, replicate}
use borrow.Author.Tests.{lt-ltb, le-ltb, eq-eqb, ne_eqb}
use Rattle.laws.specs.Made.{made}
use Rattle.laws.proofs.Rows.{made_each}
use Rattle.raw_bytes.specs.Bytes.{low_first}
use Rattle.bc6h_spec.specs.declared.Fields.{Fields}
use Rattle.bc6h_spec.specs.Fields.{no_fields}
use Rattle.bc6_numbers.specs.Numbers.{number_count, fields_from}
use Rattle.bc6_writer.specs.Call.{refusal_of, bytes_at, BlockWritten}
use Rattle.run_write.specs.Record.{number_in, fields_in, answer_byte, record_bytes}

module _ (piece : List ℕ) where
  module _ (k : ℕ) {r : ℕ} where
    pub at_byte : k < 2 → r ≡ get_or piece k 0 → r ≡ number_in piece k
    unfolding number_in
    at_byte h e = rw (lt-ltb k 2 h) e

    pub at_endpoint : 2 ≤ k → k < 14 → r ≡ low_first piece (2 * k - 2) 2 → r ≡ number_in piece k
    unfolding number_in
    at_endpoint l h e = rw (le-ltb k 2 l, lt-ltb k 14 h) e

    pub at_last : 2 ≤ k → 14 ≤ k → r ≡ get_or piece (k + 12) 0 → r ≡ number_in piece k
    unfolding number_in
    at_last l h e = rw (le-ltb k 2 l, le-ltb k 14 h) e

  pub no_record : {f : Fields} → (length piece ≡ 44 → ⊥) → f ≡ no_fields → f ≡ fields_in piece
  unfolding fields_in
  no_record n e = rw (ne_eqb (length piece) 44 n) e

  pub a_record : length piece ≡ 44 → {f : Fields} {numbers : List ℕ} → numbers ≡ made (number_in piece) number_count → f ≡ fields_from numbers → f ≡ fields_in piece
  unfolding fields_in
  a_record l {f} {numbers} e g = rw (eq-eqb (length piece) 44 l) (g ∙ ap fields_from e)

  pub written : {f : Fields} {answer : ℕ} {block : List ℕ} → f ≡ fields_in piece → BlockWritten f (replicate 16 0) answer block
      → made (answer_byte answer block) 17 ≡ record_bytes piece
  unfolding record_bytes
  written {f} {answer} {block} e w =
      ap₂ (λ (a : ℕ) (b : List ℕ). made (answer_byte a b) 17) w.answers w.holds
      ∙ ap (λ (g : Fields). made (answer_byte (refusal_of g 16) (bytes_at (refusal_of g 16) g (replicate 16 0))) 17) e

-- ---- the answer, and behind it the block

module _ (answer : ℕ) (block : List ℕ) (l : length block ≡ 16) where
  byte : (k : ℕ) → get_or (answer ∷ block) k 0 ≡ answer_byte answer block k
  unfolding answer_byte
  byte zero = refl
  byte (suc k) =
      let n : suc k ≡ 0 → ⊥ = λ e. omega (arith, e) in
      let b : suc k - 1 ≡ k = omega arith in
      rw (ne_eqb (suc k) 0 n, b) refl

  answer_first : answer ∷ block ≡ made (answer_byte answer block) 17
  answer_first = made_each (answer_byte answer block) (answer ∷ block) 17 (ap suc l) (λ k h. byte k)

pub answer_put : (answer : ℕ) (block out : List ℕ) {part : List ℕ} → length block ≡ 16 → 17 ≤ length out → part ≡ block
    → take 1 (set out 0 answer) ++ (part ++ drop 16 (drop 1 (set out 0 answer))) ≡ made (answer_byte answer block) 17 ++ drop 17 out
answer_put answer block [] l h e = absurd (omega (arith, h))
answer_put answer block (x ∷ out) l h e =
    ap (λ (t : List ℕ). answer ∷ (t ++ drop 16 out)) e ∙ ap (λ (t : List ℕ). t ++ drop 16 out) (answer_first answer block l)
