-- `check_bc7::decode_piece` meets its contract. Assumes nothing.
use mathlib.Core.Path.{◌∙◌, ap}
use mathlib.Core.List.{◌++◌}
use lib.ListN.{drop}
use Rattle.laws.specs.Made.{made}
use Rattle.check_bc7.specs.declared.Shown.{Shown}
use Rattle.check_bc7.specs.Shown.{shown_byte}
use Rattle.check_bc7.proofs.decode_piece.Goals as goal

pub returns : goal.returns
returns c = c.put.ensures ∙ ap (λ (s : Shown). made (shown_byte s) 66 ++ drop 66 c.args.out.now) c.of.ensures
