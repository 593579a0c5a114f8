use Rattle.std.proofs.Common.{◌∙◌}
use Rattle.probe_build.proofs.Records.{record_written}
use Rattle.probe_build.proofs.write_record.Goals as goal

pub returns : goal.returns
returns c = record_written c.args.blocks.now c.args.n c.args.tile c.args.format c.args.place c.args.out.now _ _ (c.copy_from_slice.ensures.after ∙ c.record_head.ensures) c.requires.1 c.copy_from_slice-2.ensures.after
