-- `bc6_palette::paint_one` meets its contract: a turn stores the next pixel. Assumes nothing.
use borrow.Author.Rules.{rules}
use mathlib.Core.Path.{refl}
use native.Mathlib.Omega.{arith}
use Rattle.laws.proofs.Rows.{made_none, made_store}
use Rattle.bc6_palette.specs.Triples.{one_pixel}
use Rattle.bc6_palette.proofs.paint_one.Goals as goal

pub loop-k-init : goal.loop-k-init
loop-k-init c = (search rules, made_none _ _)

pub loop-k-preserved : goal.loop-k-preserved
unfolding one_pixel
loop-k-preserved c = (search rules, made_store _ _ _ _ _ _ c.loop-k.invariant.1 refl refl (omega arith))
