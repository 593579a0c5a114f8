use Rattle.knotpasture.proofs.ProbeWords.{table_called}
use Rattle.knotpasture.proofs.probes.knot_probe_pixel_in.Goals as goal

pub returns : goal.returns
returns c = table_called c.probe_pixel_in-pixel.ensures c.pixel_word.ensures
