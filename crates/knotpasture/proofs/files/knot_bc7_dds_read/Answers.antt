use Rattle.dds.proofs.Reading.{read_most}
use Rattle.knotpasture.proofs.FileWords.{word_called}
use Rattle.knotpasture.proofs.files.knot_bc7_dds_read.Goals as goal

pub read_word-requires : goal.read_word-requires
read_word-requires c = read_most c.bc7_dds_read.ensures

pub returns : goal.returns
returns c = word_called c.bc7_dds_read.ensures c.read_word.ensures
