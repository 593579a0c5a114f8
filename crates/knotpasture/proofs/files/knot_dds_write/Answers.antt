use native.Mathlib.Omega.{arith}
use Rattle.dds.proofs.Writing.{length_most}
use Rattle.knotpasture.proofs.FileWords.{dds_written}
use Rattle.knotpasture.proofs.files.knot_dds_write.Goals as goal

pub length_word-requires : goal.length_word-requires
length_word-requires c = omega (arith, length_most c.dds_write-written.ensures)

pub returns : goal.returns
returns c = dds_written c.dds_write-written.ensures c.length_word.ensures
