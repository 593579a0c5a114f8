-- The words that the exports that decode BC6H answer, from what the calls ensure. Assumes nothing.
use mathlib.Core.Path.{◌≡◌, sym, ap, ◌∙◌}
use mathlib.Core.List.{List}
use Prim.Native.Nat.{ℕ}
use Rattle.bc6.specs.Call.{Pixels}
use Rattle.bc6.specs.Call.{Painted}
use Rattle.bc6_blocks.specs.Run.{BlocksPixels}
use Rattle.knotpasture.specs.Pixels.{pixels_word, PixelsCalled, RunCalled}

-- ---- the pixels call

pub called : {block : List ℕ} {format : ℕ} {out : List ℕ} {p : Pixels} {after : List ℕ} {r : ℕ}
    → Painted block format out p after → r ≡ pixels_word p → PixelsCalled block format out r after
called d e = record { answers = e ∙ ap pixels_word d.answers; holds = d.holds }

pub one_outcome : {block : List ℕ} {format : ℕ} {out : List ℕ} {r s : ℕ} {a b : List ℕ}
    → PixelsCalled block format out r a → PixelsCalled block format out s b → (r ≡ s) × (a ≡ b)
one_outcome d e = (d.answers ∙ sym e.answers, d.holds ∙ sym e.holds)

-- ---- the call over a run of blocks

pub one_run : {blocks : List ℕ} {format : ℕ} {out : List ℕ} {r s m n i j : ℕ} {a b : List ℕ}
    → RunCalled blocks format out r a m i → RunCalled blocks format out s b n j → (r ≡ s) × (m ≡ n) × (i ≡ j) × (a ≡ b)
one_run d e =
    let same = d.answers ∙ sym e.answers in (
      ap (λ (x : BlocksPixels). x.answer) same,
      ap (λ (x : BlocksPixels). x.blocks) same,
      ap (λ (x : BlocksPixels). x.infinite) same,
      d.holds ∙ sym e.holds,
    )
