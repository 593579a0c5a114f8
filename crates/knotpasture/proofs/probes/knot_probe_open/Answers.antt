use Rattle.knotpasture.proofs.ProbeWords.{open_few, open_called}
use Rattle.knotpasture.proofs.probes.knot_probe_open.Goals as goal

pub fault_word-requires : goal.fault_word-requires
fault_word-requires c = open_few c.probe_open.ensures

pub returns : goal.returns
returns c = open_called c.probe_open.ensures c.fault_word.ensures
