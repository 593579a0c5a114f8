-- `exr_header::front_length` meets its contract. Assumes nothing.
use borrow.Author.Rules.{rules}
use Rattle.exr_header.specs.Header.{front_length}
use Rattle.exr_header.proofs.front_length.Goals as goal

pub returns : goal.returns
unfolding front_length
returns c = search rules
