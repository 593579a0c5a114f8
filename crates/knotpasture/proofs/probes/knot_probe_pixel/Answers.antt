use Rattle.knotpasture.proofs.ProbeWords.{pixel_called}
use Rattle.knotpasture.proofs.probes.knot_probe_pixel.Goals as goal

pub returns : goal.returns
returns c = pixel_called c.probe_pixel-pixel.ensures c.pixel_word.ensures
