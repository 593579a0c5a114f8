-- `run_write::put_answer` meets its contract: the answer, and behind it the block. Assumes nothing.
use borrow.Author.Rules.{rules}
use Rattle.run_write.proofs.Bytes.{answer_put}
use Rattle.run_write.proofs.put_answer.Goals as goal

pub returns : goal.returns
returns c = answer_put c.args.answer c.args.block c.args.out.now (search rules) c.requires c.copy_from_slice.ensures.after
