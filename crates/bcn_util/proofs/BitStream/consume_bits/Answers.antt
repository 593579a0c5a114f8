-- `BitStream::consume_bits` meets its contract: the low word's bits, and the stream without them. Assumes nothing.
use lib.Pow.{pow_pos}
use Rattle.bcn_util.proofs.Words.{one_shl, low_bits}
use Rattle.bcn_util.proofs.BitStream.consume_bits.Goals as goal

pub nonzero_rem-result : goal.nonzero_rem-result
nonzero_rem-result c = rw (one_shl _ c.requires) (pow_pos c.args.count)

pub returns : goal.returns
returns c = record { next = low_bits _ _ _ c.requires; left = c.skip.ensures }
