-- `exr::put_band` meets its contract. Assumes nothing.
use mathlib.Core.Path.{◌≡◌, refl, ap, ◌∙◌}
use Prim.Native.Nat.{ℕ, ◌+◌, ◌-◌, ◌*◌}
use native.Mathlib.Omega.{arith}
use lib.ListN.{take, drop, length-take, length-drop}
use borrow.Author.Rules.{rules}
use Rattle.bc6h_spec.specs.Picture.{is_signed}
use Rattle.bc6h_spec.specs.Block.{pixels_of}
use Rattle.bc6_blocks.proofs.Decoded.{decoded}
use Rattle.exr.proofs.Bands.{band_start, band_step, band_end}
use Rattle.exr.proofs.put_band.Goals as goal

pub loop-column-init : goal.loop-column-init
loop-column-init c = (search rules, band_start _ _ _ _ _ (search rules), refl)

pub loop-column-preserved : goal.loop-column-preserved
loop-column-preserved c =
    let l = c.loop-column in
    let s = c.args in
    let k = s.first + l.column in
    let size : 16 * k + 16 - 16 * k ≡ 16 = omega arith in (
      search rules,
      band_step _ _ _ _ _ (search rules) l.column (search rules) l.invariant.1
          (decoded c.block_pixels.ensures (search rules) (simp (length-take, length-drop) (omega arith)) (search rules)
          ∙ ap (λ (n : ℕ). pixels_of (is_signed s.format) (take n (drop (16 * k) s.blocks.now))) size)
          c.put_block.ensures,
      search rules,
    )

pub returns : goal.returns
returns c =
    let l = c.loop-column in
    let s = c.args in
    band_end _ _ _ _ _ (search rules) s.y l.column (search rules) (search rules) l.invariant.1 c.put_heads.ensures
