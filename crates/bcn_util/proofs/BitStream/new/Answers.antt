-- `BitStream::new` meets its contract: the sixteen bytes, one after the other. Assumes nothing.
use borrow.Author.Rules.{rules}
use Rattle.bcn_util.proofs.Bytes.{sixteen_bytes}
use Rattle.bcn_util.proofs.BitStream.new.Goals as goal

pub returns : goal.returns
returns c = sixteen_bytes _ (search rules) c.u64_at.ensures c.u64_at-2.ensures
