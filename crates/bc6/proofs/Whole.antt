-- What is shown of a block's number is what the block shows. Assumes nothing.
use mathlib.Core.Path.{◌≡◌, ◌∙◌, refl, sym, ap}
use mathlib.Core.Bool.{Bool}
use mathlib.Core.List.{List, ◌++◌}
use Prim.Native.Nat.{ℕ, ◌≤◌}
use native.Mathlib.Decide.{ℕ_discrete}
use native.Mathlib.Omega.{arith}
use borrow.Author.Tests.{ne_eqb}
use lib.ListN.{drop, replicate}
use Rattle.bcn_spec.specs.Bits.{number_of}
use Rattle.bc6h_spec.specs.Fields.{mode_in, mode_of, fields_at}
use Rattle.bc6h_spec.specs.Picture.{picture_as}
use Rattle.bc6h_spec.specs.Block.{format_number, pixels_of}
use Rattle.bc6h_spec.proofs.Reading.{fields_are}
use Rattle.bc6h_spec.proofs.Pixel.{pixels_none, shows_as}
use Rattle.laws.specs.Made.{count_of}
use Rattle.bc6h_spec.specs.Half.{minus_infinity}
use Rattle.bc6_paint.specs.Values.{PaintedAs}
use Rattle.bc6_paint.proofs.Link.{painted_as}
use Rattle.bc6.specs.Shown.{shown_of}

module _ (s : Bool) (n : ℕ) where
  pub shown_none : mode_in n ≡ 0 → shown_of s n ≡ replicate 48 0
  unfolding shown_of
  shown_none z = rw z refl

  pub shown_some : (mode_in n ≡ 0 → ⊥) → shown_of s n ≡ picture_as s (fields_at (format_number s) (mode_in n) n)
  unfolding shown_of
  shown_some z = rw (ne_eqb (mode_in n) 0 z) refl

pub block_shown : (s : Bool) (block : List ℕ) (n : ℕ) → n ≡ number_of block → shown_of s n ≡ pixels_of s block
unfolding mode_of
block_shown s block n e = ap (shown_of s) e ∙ go (ℕ_discrete (mode_of block) 0)
  where
    go : Dec (mode_of block ≡ 0) → shown_of s (number_of block) ≡ pixels_of s block
    go (yes z) = shown_none s (number_of block) z ∙ sym (pixels_none s block z)
    go (no z) =
        let h : 1 ≤ mode_of block = omega arith in
        shown_some s (number_of block) z ∙ ap (picture_as s) (sym (fields_are (format_number s) block h)) ∙ sym (shows_as s block h)

-- ---- what each return shows

pub shown_black : (s : Bool) (n : ℕ) {out after : List ℕ} → mode_in n ≡ 0 → after ≡ replicate 48 0 ++ drop 48 out → PaintedAs (shown_of s n) out 0 after
unfolding count_of
shown_black s n {out} z h =
    record { holds = h ∙ ap (λ (l : List ℕ). l ++ drop 48 out) (sym (shown_none s n z)); counts = sym (ap (count_of minus_infinity) (shown_none s n z)) }

-- a mode that is not 0
pub some_mode : (m : ℕ) → (m ≡ 0 → ⊥) → 1 ≤ m
some_mode m z = omega (arith, z)

pub shown_picture : (s b : Bool) (n : ℕ) {out after : List ℕ} {r : ℕ} → s ≡ b → 1 ≤ mode_in n
    → PaintedAs (picture_as b (fields_at (format_number b) (mode_in n) n)) out r after → PaintedAs (shown_of s n) out r after
shown_picture s b n es some w = painted_as w (sym (shown_some b n (λ q. absurd (omega (arith, q)))) ∙ ap (λ (x : Bool). shown_of x n) (sym es))
