use native.Mathlib.Omega.{arith}
use Rattle.exr.proofs.Calls.{bytes_most}
use Rattle.knotpasture.proofs.FileWords.{exr_written}
use Rattle.knotpasture.proofs.files.knot_exr_write.Goals as goal

pub length_word-requires : goal.length_word-requires
length_word-requires c = omega (arith, bytes_most c.exr_write-picture.ensures)

pub returns : goal.returns
returns c = exr_written c.exr_write-picture.ensures c.length_word.ensures
