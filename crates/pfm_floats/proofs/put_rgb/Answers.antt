-- `pfm_floats::put_rgb` meets its contract. Assumes nothing.
use Rattle.pfm_floats.proofs.Stores.{three_words}
use Rattle.pfm_floats.proofs.put_rgb.Goals as goal

pub returns : goal.returns
returns c =
    let s = c.args in
    three_words s.out.now c.put_word.new.out c.put_word-2.new.out c.put_word-3.new.out s.at s.p c.put_word.ensures c.put_word-2.ensures c.put_word-3.ensures
