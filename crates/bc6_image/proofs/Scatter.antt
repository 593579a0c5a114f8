-- Lists stored one after the other, each from its own place on: what then stands in a place of one, and in a place of none. Assumes nothing.
use mathlib.Core.Path.{◌≡◌, ◌∙◌, refl, sym, ap, ap₂}
use mathlib.Core.List.{List}
use mathlib.Core.Logic.{⊎_elim}
use Prim.Native.Nat.{ℕ, zero, suc, ◌+◌, ◌*◌, ◌<◌}
use native.Mathlib.Nat.{add-zero, add-suc, le_of_suc-le-suc, not-suc-le-zero, eq-or-lt_of_le}
use native.Mathlib.Numerals.{add-one}
use native.Mathlib.Omega.{arith}
use lib.ListN.{length, get_or}
use lib.Seq.{sets, length-sets}
use Rattle.laws.specs.Made.{made, join}
use Rattle.laws.proofs.Joined.{run_length, run_more}
use Rattle.laws.proofs.Stores.{sets_append, sets_miss, sets_hit}
use Rattle.bc6_image.specs.Stores.{stored_cells}

-- ---- lists of one length, each behind the one before it

module _ (piece : ℕ → List ℕ) (size : ℕ) (each : (n : ℕ) → length (piece n) ≡ size) where
  -- one list more
  pub sets_run : (l : List ℕ) (at n : ℕ) → sets (sets l at (join (made piece n))) (at + size * n) (piece n) ≡ sets l at (join (made piece (n + 1)))
  sets_run l at n =
      ap (λ (k : ℕ). sets (sets l at (join (made piece n))) (at + k) (piece n)) (sym (run_length piece size each n))
      ∙ sets_append (join (made piece n)) (piece n) l at _ refl
      ∙ ap (sets l at) (sym (run_more piece n))

-- ---- a row of lists

pub scattered_length : (place : ℕ → ℕ) (cell : ℕ → List ℕ) (out : List ℕ) (n : ℕ) → length (stored_cells place cell n out) ≡ length out
unfolding stored_cells
scattered_length place cell out zero = refl
scattered_length place cell out (suc n) =
    length-sets (stored_cells place cell n out) (place n) (cell n) ∙ scattered_length place cell out n

-- k lists more, behind the first m
pub scattered_on : (place part : ℕ → ℕ) (cell piece : ℕ → List ℕ) (m : ℕ) (out : List ℕ) (k : ℕ) → ((j : ℕ) → j < k → part j ≡ place (m + j))
    → ((j : ℕ) → j < k → piece j ≡ cell (m + j)) → stored_cells part piece k (stored_cells place cell m out) ≡ stored_cells place cell (m + k) out
unfolding stored_cells
scattered_on place part cell piece m out zero p q = ap (λ (n : ℕ). stored_cells place cell n out) (sym (add-zero m))
scattered_on place part cell piece m out (suc k) p q =
    ap (λ (l : List ℕ). sets l (part k) (piece k)) (scattered_on place part cell piece m out k (λ j h. p j (omega arith)) (λ j h. q j (omega arith)))
    ∙ ap₂ (λ (at : ℕ) (vs : List ℕ). sets (stored_cells place cell (m + k) out) at vs) (p k (omega arith)) (q k (omega arith))
    ∙ ap (λ (n : ℕ). stored_cells place cell n out) (sym (add-suc m k))

-- k lists more, each behind the one before it
pub scattered_run : (place : ℕ → ℕ) (cell piece : ℕ → List ℕ) (size at m : ℕ) → ((n : ℕ) → length (piece n) ≡ size) → (out : List ℕ) (k : ℕ)
    → ((j : ℕ) → j < k → at + size * j ≡ place (m + j)) → ((j : ℕ) → j < k → piece j ≡ cell (m + j))
    → sets (stored_cells place cell m out) at (join (made piece k)) ≡ stored_cells place cell (m + k) out
unfolding stored_cells made
scattered_run place cell piece size at m each out zero p q = ap (λ (n : ℕ). stored_cells place cell n out) (sym (add-zero m))
scattered_run place cell piece size at m each out (suc k) p q =
    ap (λ (n : ℕ). sets (stored_cells place cell m out) at (join (made piece n))) (sym (add-one k))
    ∙ sym (sets_run piece size each (stored_cells place cell m out) at k)
    ∙ ap (λ (l : List ℕ). sets l (at + size * k) (piece k)) (scattered_run place cell piece size at m each out k (λ j h. p j (omega arith)) (λ j h. q j (omega arith)))
    ∙ ap₂ (λ (i : ℕ) (vs : List ℕ). sets (stored_cells place cell (m + k) out) i vs) (p k (omega arith)) (q k (omega arith))
    ∙ ap (λ (n : ℕ). stored_cells place cell n out) (sym (add-suc m k))

module _ (place : ℕ → ℕ) (cell : ℕ → List ℕ) (size : ℕ) (each : (n : ℕ) → length (cell n) ≡ size) (out : List ℕ) where
  -- a place of none
  pub scattered_miss : (n i : ℕ) → ((q c : ℕ) → q < n → c < size → i ≡ place q + c → ⊥) → get_or (stored_cells place cell n out) i 0 ≡ get_or out i 0
  unfolding stored_cells
  scattered_miss zero i off = refl
  scattered_miss (suc n) i off =
      let long : length (cell n) ≡ size = each n in
      sets_miss (cell n) (stored_cells place cell n out) (place n) i (λ c h e. off n c (omega arith) (omega arith) e)
      ∙ scattered_miss n i (λ q c h b e. off q c (omega arith) b e)

  -- value c of list q, where no other list has its place
  pub scattered_hit : (n q c : ℕ) → q < n → c < size → place q + c < length out
      → ((r d : ℕ) → r < n → d < size → place q + c ≡ place r + d → r ≡ q) → get_or (stored_cells place cell n out) (place q + c) 0 ≡ get_or (cell q) c 0
  unfolding stored_cells
  scattered_hit zero q c h b r once = absurd (not-suc-le-zero h)
  scattered_hit (suc n) q c h b r once =
      let long : length (cell n) ≡ size = each n in
      let whole : length (stored_cells place cell n out) ≡ length out = scattered_length place cell out n in
      ⊎_elim
      (λ e.
      let room : place n + c < length (stored_cells place cell n out) = (let same : place q ≡ place n = ap place e in omega arith) in
      ap (λ (k : ℕ). get_or (sets (stored_cells place cell n out) (place n) (cell n)) (place k + c) 0) e
      ∙ sets_hit (cell n) (stored_cells place cell n out) (place n) c (omega arith) room ∙ ap (λ (k : ℕ). get_or (cell k) c 0) (sym e))
      (λ less.
      sets_miss (cell n) (stored_cells place cell n out) (place n) (place q + c) (λ d l e. let z : n ≡ q = once n d (omega arith) (omega arith) e in omega arith)
      ∙ scattered_hit n q c less b r (λ p d l s e. once p d (omega arith) s e))
      (eq-or-lt_of_le (le_of_suc-le-suc h))
