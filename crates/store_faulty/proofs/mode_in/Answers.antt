use Rattle.store_faulty.proofs.Forms.{part_length, mode-is}
use Rattle.store_faulty.proofs.mode_in.Goals as goal

pub new-requires : goal.new-requires
new-requires g c = part_length _ _ _ c.requires c.block.ensures

pub returns : goal.returns
returns g c = mode-is c.block.ensures c.new.ensures c.extract_mode.ensures
