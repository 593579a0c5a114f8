-- When values are an entry's, and how the entries that agree are counted. Assumes nothing.
use mathlib.Core.Path.{◌≡◌, sym, ◌∙◌}
use mathlib.Core.Bool.{Bool, true, false}
use mathlib.Core.List.{List}
use Prim.Native.Nat.{ℕ, ◌+◌, ◌*◌, ◌<◌, ◌≤◌}
use native.Mathlib.Numerals.{add-one}
use native.Mathlib.Omega.{arith}
use lib.ListN.{length, get_or, take, drop, replicate}
use borrow.Author.Tests.{eq-eqb, ne_eqb}
use Rattle.laws.specs.Every.{same}
use Rattle.laws.proofs.Rows.{length_made, get_d_made}
use Rattle.laws.proofs.Tests.{picks}
use Rattle.laws.proofs.Sameness.{same_all, same_not}
use Rattle.bc6h_spec.specs.Picture.{value_count}
use Rattle.bc6.specs.Call.{Pixels}
use Rattle.bc6.specs.Call.{Painted}
use Rattle.check_replay.specs.Entries.{replay_size, entry_format, entry_block, entry_value, values_in, infinite_in, agrees, count_at, agreeing}

module _ (values bytes : List ℕ) where
  pub not_same : (k : ℕ) → k < value_count → (get_or values k 0 ≡ entry_value bytes k → ⊥) → false ≡ same values (values_in bytes)
  unfolding values_in
  not_same k h d = sym (same_not values (values_in bytes) k (λ e. d (e ∙ get_d_made (entry_value bytes) value_count k 0 h)))

  pub all_same : (k : ℕ) → length values ≡ value_count → value_count ≤ k → ((i : ℕ) → i < k → get_or values i 0 ≡ entry_value bytes i)
      → true ≡ same values (values_in bytes)
  unfolding values_in
  all_same k l h e =
      sym (same_all values (values_in bytes) value_count value_count l (length_made (entry_value bytes) value_count) (omega arith)
      (λ i m. e i (omega arith) ∙ sym (get_d_made (entry_value bytes) value_count i 0 m)))

-- what the call answers to an entry's block, with room for 48 zeros
module _ (entry : List ℕ) (p : Pixels) (after : List ℕ) (d : Painted (entry_block entry) (entry_format entry) (replicate value_count 0) p after) where
  pub other_number : (p.answer ≡ get_or entry 17 0 → ⊥) → false ≡ agrees entry
  unfolding agrees
  other_number e = rw (← d.answers, ne_eqb _ _ e)

  pub other_mode : p.answer ≡ get_or entry 17 0 → (p.mode ≡ get_or entry 18 0 → ⊥) → false ≡ agrees entry
  unfolding agrees
  other_mode a e = rw (← d.answers, eq-eqb _ _ a, ne_eqb _ _ e)

  pub other_count : {count : ℕ} → count ≡ infinite_in entry → p.answer ≡ get_or entry 17 0 → p.mode ≡ get_or entry 18 0 → (p.infinite ≡ count → ⊥) → false ≡ agrees entry
  unfolding agrees
  other_count c a m e = rw (← d.answers, eq-eqb _ _ a, eq-eqb _ _ m, ← c, ne_eqb _ _ e)

  pub by_values : {r : Bool} {count : ℕ} → r ≡ same after (values_in (take 96 (drop 21 entry))) → count ≡ infinite_in entry → p.answer ≡ get_or entry 17 0
      → p.mode ≡ get_or entry 18 0 → p.infinite ≡ count → r ≡ agrees entry
  unfolding agrees
  by_values s c a m i = s ∙ rw (← d.answers, eq-eqb _ _ a, eq-eqb _ _ m, ← c, eq-eqb _ _ i, ← d.holds)

module _ (list : List ℕ) (n : ℕ) where
  pub counts_one : {t : Bool} (size : ℕ) → t ≡ agrees (take size (drop (n * replay_size) list)) → size ≡ replay_size → t ≡ true → 1 ≡ count_at list n
  unfolding count_at
  counts_one size e s t = let a : agrees (take replay_size (drop (n * replay_size) list)) ≡ true = sym (rw s at e) ∙ t in rw a

  pub counts_none : {t : Bool} (size : ℕ) → t ≡ agrees (take size (drop (n * replay_size) list)) → size ≡ replay_size → t ≡ false → 0 ≡ count_at list n
  unfolding count_at
  counts_none size e s t = let a : agrees (take replay_size (drop (n * replay_size) list)) ≡ false = sym (rw s at e) ∙ t in rw a

  pub counts_most : {more : ℕ} → more ≡ count_at list n → more ≤ 1
  unfolding count_at
  counts_most e =
      rw e (picks (agrees (take replay_size (drop (n * replay_size) list))) 1 0 (λ (k : ℕ). k ≤ 1) (λ t. omega arith) (λ t. omega arith))

  pub one_more : {count more : ℕ} → count ≡ agreeing list n → more ≡ count_at list n → count + more ≡ agreeing list (n + 1)
  unfolding agreeing
  one_more c m = rw (add-one n, c, m)
