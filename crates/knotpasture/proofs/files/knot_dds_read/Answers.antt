use Rattle.dds.proofs.Reading.{read_most}
use Rattle.knotpasture.proofs.FileWords.{read_called}
use Rattle.knotpasture.proofs.files.knot_dds_read.Goals as goal

pub read_word-requires : goal.read_word-requires
read_word-requires c = read_most c.dds_read.ensures

pub returns : goal.returns
returns c = read_called c.dds_read.ensures c.read_word.ensures
