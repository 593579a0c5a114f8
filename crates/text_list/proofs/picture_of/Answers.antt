use Rattle.bc6.proofs.Calls.{written, done_when}
use Rattle.store_spec.proofs.Shown.{record_painted, whole_picture}
use borrow.Author.Rules.{rules}
use Rattle.text_list.proofs.picture_of.Goals as goal

pub returns : goal.returns
returns c =
    let s = c.requires in
    whole_picture _ _ _ (record_painted _ _ _ s.unrefused s.format_value c.record_block.ensures (λ f l. written c.block_pixels.ensures (done_when _ _ _ f l (search rules)))) (search rules)
