-- An index of `Indexes` is the pixel's, as stored: for every width, and every list of fix-up pixels that goes up. Assumes nothing.
use mathlib.Core.Path.{◌≡◌, ◌∙◌, refl, sym, ap, ap₂, subst}
use mathlib.Core.Bool.{Bool, false}
use mathlib.Core.List.{List, [], ◌∷◌}
use Prim.Native.Nat.{ℕ, zero, suc, ◌+◌, ◌-◌, ◌*◌, ◌/◌, ◌%◌, ◌^◌, ◌<◌, ◌≤◌}
use native.Mathlib.Nat.{mul-zero, mul-suc}
use native.Mathlib.Omega.{arith}
use lib.ListN.{length}
use borrow.Author.Tests.{eq-eqb, ne_eqb}
use Rattle.laws.specs.Pick.{pick, either}
use Rattle.laws.specs.Packed.{before, unpacked, opened}
use Rattle.laws.proofs.Opening.{unpacked_low, before_mono, Wider, before_more, opened_read}
use Rattle.bcn_spec.specs.Indices.{has, stored_bits, index_in}
use Rattle.bcn_util.specs.Indexed.{stored_count, expanded, indexes_of, index_at}

-- the fix-up pixels go up, from `low` on, and stay below `high`
abbrev pub Rising : ℕ → ℕ → List ℕ → Type 0
Rising low high [] = Unit
Rising low high (x ∷ xs) = (low ≤ x) × ((x < high) × Rising (suc x) high xs)

none_yet : (low high : ℕ) (xs : List ℕ) → Rising low high xs → (k : ℕ) → k < low → has xs k ≡ false
none_yet low high [] r k h = refl
none_yet low high (x ∷ xs) r k h =
    ap₂ either (ne_eqb k x (λ e. let z : k ≡ x = e in omega (arith, r.0))) (none_yet (suc x) high xs r.1.1 k (omega (arith, r.0)))

module _ (bits : ℕ) (positive : 1 ≤ bits) where
  full : (xs : List ℕ) (k : ℕ) → has xs k ≡ false → stored_bits bits xs k ≡ bits
  full xs k e = ap (λ (t : Bool). pick t (bits - 1) bits) e

  -- the indexes before the first fix-up pixel have their full width
  unfixed : (low high : ℕ) (xs : List ℕ) → Rising low high xs → (k : ℕ) → k ≤ low → before (stored_bits bits xs) k ≡ bits * k
  unfolding before
  unfixed low high xs r zero h = sym (mul-zero bits)
  unfixed low high xs r (suc k) h =
      ap₂ (λ (a b : ℕ). a + b) (unfixed low high xs r k (omega arith)) (full xs k (none_yet low high xs r k (omega arith)))
      ∙ sym (mul-suc bits k)

  module _ (low high x : ℕ) (xs : List ℕ) (r : Rising low high (x ∷ xs)) where
    short : stored_bits bits (x ∷ xs) x ≡ bits - 1
    short = ap (λ (t : Bool). pick (either t (has xs x)) (bits - 1) bits) (eq-eqb x x refl)

    -- without the first fix-up pixel every other index is as wide as before
    wider : Wider (stored_bits bits (x ∷ xs)) (stored_bits bits xs) x
    wider =
        record {
          here = full xs x (none_yet (suc x) high xs r.1.1 x (omega arith)) ∙ omega (arith, short);
          else = λ k ne. sym (ap (λ (t : Bool). pick (either t (has xs k)) (bits - 1) bits) (ne_eqb k x ne));
        }

    top : before (stored_bits bits (x ∷ xs)) (suc x) ≡ bits * x + (bits - 1)
    unfolding before
    top = ap₂ (λ (a b : ℕ). a + b) (unfixed x high (x ∷ xs) (omega arith, r.1) x (omega arith)) short

  -- the fact that a decoder cites: whatever the width and the fix-up pixels
  pub expanded_read : (low high : ℕ) (xs : List ℕ) → Rising low high xs → (n k : ℕ)
      → unpacked (λ j. bits) (expanded bits xs n) k ≡ unpacked (stored_bits bits xs) n k
  expanded_read low high [] r n k = refl
  expanded_read low high (x ∷ xs) r n k =
      expanded_read (suc x) high xs r.1.1 (opened (bits * x + (bits - 1)) n) k
      ∙ ap (λ (t : ℕ). unpacked (stored_bits bits xs) (opened t n) k) (sym (top low high x xs r))
      ∙ opened_read (stored_bits bits (x ∷ xs)) (stored_bits bits xs) x (wider low high x xs r) n k

  -- how many bits the first `high` indexes take
  taken : (low high : ℕ) (xs : List ℕ) → Rising low high xs → before (stored_bits bits xs) high + length xs ≡ bits * high
  taken low high [] r = let e = unfixed high high [] tt high (omega arith) in omega (arith, e)
  taken low high (x ∷ xs) r =
      let e = taken (suc x) high xs r.1.1 in
      let m = before_more (stored_bits bits (x ∷ xs)) (stored_bits bits xs) x (wider low high x xs r) high r.1.0 in
      omega (arith, e, m)

  even : (k : ℕ) → before (λ j. bits) k ≡ bits * k
  even k = unfixed k k [] tt k (omega arith)

  pub index_read : (xs : List ℕ) → Rising 0 16 xs → (n k : ℕ) → k < 16 → index_at (indexes_of bits xs n) k ≡ index_in bits xs n k
  unfolding unpacked before
  index_read xs r n k h =
      let t : before (stored_bits bits xs) 16 ≡ stored_count bits xs = omega (arith, taken 0 16 xs r) in
      let fits : before (stored_bits bits xs) (suc k) ≤ stored_count bits xs =
      subst (λ (y : ℕ). before (stored_bits bits xs) (suc k) ≤ y) t (before_mono (stored_bits bits xs) (suc k) 16 (omega arith)) in
      ap (λ (y : ℕ). expanded bits xs (n % 2 ^ stored_count bits xs) / 2 ^ y % 2 ^ bits) (sym (even k))
      ∙ expanded_read 0 16 xs r (n % 2 ^ stored_count bits xs) k
      ∙ unpacked_low (stored_bits bits xs) n (stored_count bits xs) k fits
