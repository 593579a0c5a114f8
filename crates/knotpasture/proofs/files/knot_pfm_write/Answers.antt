use native.Mathlib.Omega.{arith}
use Rattle.pfm.proofs.Calls.{length_most}
use Rattle.knotpasture.proofs.FileWords.{pfm_written}
use Rattle.knotpasture.proofs.files.knot_pfm_write.Goals as goal

pub length_word-requires : goal.length_word-requires
length_word-requires c = omega (arith, length_most c.pfm_write-map.ensures)

pub returns : goal.returns
returns c = pfm_written c.pfm_write-map.ensures c.length_word.ensures
