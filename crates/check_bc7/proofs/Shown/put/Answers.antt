-- `Shown::put` meets its contract. Assumes nothing.
use mathlib.Core.Path.{refl}
use borrow.Author.Rules.{rules}
use Rattle.check_bc7.proofs.Pieces.{put_all}
use Rattle.check_bc7.proofs.Shown.put.Goals as goal

pub returns : goal.returns
returns c = put_all c.args.self c.args.out.now _ 64 (search rules) c.requires c.copy_from_slice.ensures.after refl
