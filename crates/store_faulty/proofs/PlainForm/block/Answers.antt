use native.Mathlib.Omega.{arith}
use Rattle.store_faulty.proofs.Forms.{plain_block}
use Rattle.store_faulty.proofs.PlainForm.block.Goals as goal

pub returns : goal.returns
returns c = plain_block 24 _ _ c.requires (λ e. omega arith) c.record_block.ensures
