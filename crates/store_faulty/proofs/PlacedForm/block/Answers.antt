use mathlib.Core.Path.{refl}
use borrow.Author.Rules.{rules}
use Rattle.store_faulty.proofs.Forms.{placed_block}
use Rattle.store_faulty.proofs.PlacedForm.block.Goals as goal

pub returns : goal.returns
returns c = placed_block 32 _ _ c.requires refl (search rules)
