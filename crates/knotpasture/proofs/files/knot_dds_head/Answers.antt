use Rattle.dds.proofs.Reading.{head_most}
use Rattle.knotpasture.proofs.FileWords.{head_called}
use Rattle.knotpasture.proofs.files.knot_dds_head.Goals as goal

pub read_word-requires : goal.read_word-requires
read_word-requires c = head_most c.dds_head.ensures

pub returns : goal.returns
returns c = head_called c.dds_head.ensures c.read_word.ensures
