use borrow.Author.Rules.{rules}
use Rattle.store_spec.proofs.Keeping.{put_behind, pictured_behind, scratch_is}
use Rattle.store_twins.proofs.keep_records.Goals as goal

pub keep_prints-requires : goal.keep_prints-requires
keep_prints-requires c = record { scratch_entry_in_bounds = search rules; pictured = pictured_behind _ _ _ _ c.record_count-count.ensures (search rules) c.keep_pictures.ensures }

pub returns : goal.returns
returns c = scratch_is _ _ (search rules) (put_behind _ _ _ _ c.record_count-count.ensures c.keep_pictures.ensures) c.keep_prints.ensures
