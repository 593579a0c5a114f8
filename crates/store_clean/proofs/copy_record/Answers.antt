use Rattle.std.proofs.Common.{◌*◌, ◌∙◌}
use Rattle.laws.proofs.Pasting.{copied}
use Rattle.store_records.specs.Store.{record_size}
use Rattle.store_clean.proofs.Leaving.{record_pasted}
use Rattle.store_clean.proofs.copy_record.Goals as goal

pub returns : goal.returns
returns c =
    let a = c.args in
    copied a.out.now a.store.now c.copy_from_slice.new.self (a.place * record_size) (a.n * record_size) record_size c.copy_from_slice.ensures.after
    ∙ record_pasted a.store.now a.n a.out.now (a.place * record_size)
