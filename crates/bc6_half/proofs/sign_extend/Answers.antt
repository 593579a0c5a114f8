-- `bc6_half::sign_extend` meets its contract: the law of the two shifts, over every width. Assumes nothing.
use Rattle.bc6_half.proofs.Extend.{extends_at}
use Rattle.bc6_half.proofs.sign_extend.Goals as goal

pub returns : goal.returns
returns c = extends_at c.args.bits c.args.x c.requires.0 c.requires.1 c.requires.2
