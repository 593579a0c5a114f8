-- The values of a run of blocks, block by block. Assumes nothing.
use mathlib.Core.Path.{◌≡◌, ◌∙◌, refl, sym, ap}
use mathlib.Core.Bool.{Bool}
use mathlib.Core.List.{List, [], ◌++◌}
use Prim.Native.Nat.{ℕ, ◌+◌, ◌-◌, ◌*◌, ◌≤◌, ◌<◌}
use native.Mathlib.Omega.{arith}
use lib.ListN.{length, take, drop}
use borrow.Rule.Slice.PartMut.{mid_of, put_mid}
use Rattle.laws.specs.Made.{made, count_of, total}
use Rattle.laws.proofs.Rows.{count_le}
use Rattle.laws.proofs.Joined as joined
use Rattle.laws.proofs.Counts.{count_append, count_join}
use Rattle.bcn_spec.specs.Bits.{number_of}
use Rattle.bc6h_spec.specs.Half.{minus_infinity}
use Rattle.bc6h_spec.specs.Picture.{value_count}
use Rattle.bc6h_spec.specs.Block.{pixels_of, infinities_of}
use Rattle.bc6h_spec.proofs.Values.{length_pixels}
use Rattle.bc6_paint.specs.Values.{PaintedAs}
use Rattle.bc6.specs.Shown.{shown_of}
use Rattle.bc6.proofs.Whole.{block_shown}
use Rattle.bcn_spec.specs.Bits.{block_at}
use Rattle.bc6_blocks.specs.Run.{shown_at, run_of}

-- what is painted into the part that was lent, and what is counted of it
module _ (signed : Bool) (n size : ℕ) (blocks out : List ℕ) (number infinite : ℕ) (after : List ℕ)
    (same : number ≡ number_of (take size (drop (16 * n) blocks))) (p : PaintedAs (shown_of signed number) out infinite after) (e : size ≡ 16) where
  shown_here : shown_of signed number ≡ shown_at signed blocks n
  unfolding shown_at
  shown_here = block_shown signed (take size (drop (16 * n) blocks)) number same ∙ ap (λ (k : ℕ). pixels_of signed (take k (drop (16 * n) blocks))) e

  pub painted_part : after ≡ shown_at signed blocks n ++ drop 48 out
  painted_part = p.holds ∙ ap (λ (l : List ℕ). l ++ drop 48 out) shown_here

  pub counted_part : infinite ≡ count_of minus_infinity (shown_at signed blocks n)
  counted_part = p.counts ∙ ap (count_of minus_infinity) shown_here

module _ (signed : Bool) (blocks : List ℕ) where
  pub run_none : run_of signed blocks 0 ≡ []
  unfolding run_of made
  run_none = refl

  pub run_more : (n : ℕ) → run_of signed blocks (n + 1) ≡ run_of signed blocks n ++ shown_at signed blocks n
  unfolding run_of
  run_more = joined.run_more (shown_at signed blocks)

  length_shown : (n : ℕ) → length (shown_at signed blocks n) ≡ value_count
  unfolding shown_at
  length_shown n = length_pixels signed (block_at blocks n)

  pub length_run : (n : ℕ) → length (run_of signed blocks n) ≡ value_count * n
  unfolding run_of
  length_run = joined.run_length (shown_at signed blocks) value_count length_shown

  -- the count of the values that are minus infinity, block by block
  pub run_infinities : (n : ℕ) → count_of minus_infinity (run_of signed blocks n) ≡ total (made (λ k. infinities_of signed (block_at blocks k)) n)
  unfolding run_of shown_at infinities_of
  run_infinities n = count_join minus_infinity (shown_at signed blocks) n

  pub none_counted : 0 ≡ count_of minus_infinity (run_of signed blocks 0)
  unfolding count_of
  none_counted = rw run_none refl

  pub run_counted : (n infinite more : ℕ) → infinite ≡ count_of minus_infinity (run_of signed blocks n) → more ≡ count_of minus_infinity (shown_at signed blocks n)
      → infinite + more ≡ count_of minus_infinity (run_of signed blocks (n + 1))
  run_counted n infinite more e f =
      (λ i. e i + f i) ∙ sym (ap (count_of minus_infinity) (run_more n) ∙ count_append minus_infinity (run_of signed blocks n) (shown_at signed blocks n))

  -- no more are counted than there are values
  pub counted_most : (n infinite : ℕ) → infinite ≡ count_of minus_infinity (run_of signed blocks n) → infinite ≤ 48 * n
  counted_most n infinite e = omega (arith, e, count_le minus_infinity (run_of signed blocks n), length_run n)

  -- nothing is written yet
  pub run_start : (out : List ℕ) → out ≡ run_of signed blocks 0 ++ drop (48 * 0) out
  unfolding run_of
  run_start = joined.run_start (shown_at signed blocks) 48 length_shown

  -- block n is written into the part of the values that begins behind the blocks before it
  pub run_step : (out₀ out part : List ℕ) (n : ℕ) → out ≡ run_of signed blocks n ++ drop (48 * n) out₀
      → part ≡ shown_at signed blocks n ++ drop 48 (mid_of (48 * n) (length out - 48 * n) out)
      → put_mid (48 * n) (length out - 48 * n) out part ≡ run_of signed blocks (n + 1) ++ drop (48 * (n + 1)) out₀
  unfolding run_of
  run_step = joined.run_step (shown_at signed blocks) 48 length_shown

  -- the 48 values of block n stand behind those of the blocks before it
  pub run_at_lem : (count n : ℕ) (rest : List ℕ) → n < count → take 48 (drop (48 * n) (run_of signed blocks count ++ rest)) ≡ shown_at signed blocks n
  unfolding run_of
  run_at_lem = joined.run_at_lem (shown_at signed blocks) 48 length_shown
