use Rattle.bc6.proofs.Calls.{written, done_when}
use Rattle.store_spec.proofs.Shown.{record_painted}
use Rattle.store_twins.proofs.decode_record.Goals as goal

pub returns : goal.returns
returns c = let s = c.requires in record_painted _ _ _ s.unrefused s.format_value c.record_block.ensures (λ f l. written c.block_pixels.ensures (done_when _ _ _ f l s.value_count_in_bounds))
