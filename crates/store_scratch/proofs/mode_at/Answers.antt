use Rattle.store_spec.proofs.Shown.{part_length, part_mode}
use Rattle.store_scratch.proofs.mode_at.Goals as goal

pub new-requires : goal.new-requires
new-requires c = part_length _ _ c.requires c.record_block.ensures

pub returns : goal.returns
returns c = part_mode _ _ c.requires c.record_block.ensures c.new.ensures c.extract_mode.ensures
