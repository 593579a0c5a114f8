-- `run_dds::report_first` meets its contract. Assumes nothing.
use Rattle.dds.proofs.Reading.{read_format}
use Rattle.run_dds.proofs.Telling.{report_small, report_told}
use Rattle.run_dds.proofs.report_first.Goals as goal

pub told-requires : goal.told-requires
told-requires c = read_format c.bc7_dds_first_sized.ensures

pub report_bytes-requires : goal.report_bytes-requires
report_bytes-requires c = report_small c.dds_first_sized.ensures c.bc7_dds_first_sized.ensures c.told.ensures

pub returns : goal.returns
returns c = report_told c.dds_first_sized.ensures c.bc7_dds_first_sized.ensures c.told.ensures c.report_bytes.ensures
