use Rattle.knotpasture.proofs.ProbeWords.{fault_few, fault_called}
use Rattle.knotpasture.proofs.probes.knot_probe_check.Goals as goal

pub fault_word-requires : goal.fault_word-requires
fault_word-requires c = fault_few _ _ c.probe_check.ensures

pub returns : goal.returns
returns c = fault_called _ _ c.probe_check.ensures c.fault_word.ensures
