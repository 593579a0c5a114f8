-- `pfm_floats::Rgb::of` meets its contract. Assumes nothing.
use Rattle.pfm_floats.proofs.Rgb.of.Goals as goal

pub returns : goal.returns
returns c = cc
