-- `bc6_palette::generate_palette_unquantized` meets its contract: a turn stores the next entry. Assumes nothing.
use borrow.Author.Rules.{rules}
use mathlib.Core.Path.{refl}
use native.Mathlib.Omega.{arith}
use lib.ListN.{length-replicate}
use Rattle.laws.proofs.Rows.{made_none, made_store}
use Rattle.bc6_half.specs.Halves.{weights_of}
use Rattle.bc6_palette.proofs.Entries.{between_asks, entry_is}
use Rattle.bc6_palette.proofs.generate_palette_unquantized.Goals as goal

pub loop-i-init : goal.loop-i-init
loop-i-init g c = (search rules, made_none _ _)

pub between-requires : goal.between-requires
between-requires g c = (
  between_asks c.args.signed c.args.prec c.args.c1 c.args.c2 _ _ c.requires.1.1 c.requires.1.2
      c.unquantize-a.ensures c.unquantize-b.ensures,
  c.weight.ensures.1,
)

pub loop-i-preserved : goal.loop-i-preserved
loop-i-preserved g c = (
  search rules,
  made_store _ _ _ _ _ _ c.loop-i.invariant.1 refl (entry_is _ _ _ _ (weights_of g.row.BITS) _ c.loop-i.i c.between.ensures c.weight.ensures.0)
      (let room = length-replicate g.row.COUNT c.black-black.result in omega (arith, room)),
)
