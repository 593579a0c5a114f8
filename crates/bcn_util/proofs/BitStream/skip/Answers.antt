-- `BitStream::skip` meets its contract: the two words are cut at bit `count`, as one number. Assumes nothing.
use borrow.Author.Rules.{rules}
use Rattle.bcn_util.proofs.Words.{skip_none, sum_fits, shortened, from_high}
use Rattle.bcn_util.proofs.BitStream.skip.Goals as goal

pub returns-then-count-eq0 : goal.returns-then-count-eq0
returns-then-count-eq0 c = skip_none _ _ _ c.if-count-eq0.true

pub overflow_add-result : goal.overflow_add-result
overflow_add-result c = record { fits = sum_fits _ _ _ (search rules) (search rules) }

pub returns-then-count-lt64 : goal.returns-then-count-lt64
returns-then-count-lt64 c = shortened _ _ _ (search rules)

pub returns : goal.returns
returns c = from_high _ _ _ (search rules) c.if-count-lt64.false
