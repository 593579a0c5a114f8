-- `dds::put_header` meets its contract. Assumes nothing.
use mathlib.Core.Path.{◌∙◌}
use Prim.Native.Nat.{◌*◌}
use native.Mathlib.Omega.{arith}
use Rattle.laws.proofs.Rows.{made_none, made_upto}
use Rattle.dds.specs.Dds.{header_size, words_byte, header_of}
use Rattle.dds.proofs.Words.{word_put}
use Rattle.dds.proofs.put_header.Goals as goal

pub loop-i-init : goal.loop-i-init
loop-i-init c = made_none _ _

pub loop-i-preserved : goal.loop-i-preserved
loop-i-preserved c =
    let l = c.loop-i in
    word_put c.header_words-words.result c.args.out.now l.out _ l.i l.invariant (c.copy_from_slice.ensures.after ∙ c.to_le_bytes.ensures) (omega arith) l.auto.out

pub returns : goal.returns
unfolding header_of
returns c =
    let l = c.loop-i in
    made_upto (words_byte c.header_words-words.result) _ _ header_size (4 * l.i) l.invariant (omega arith) (omega arith) ∙ rw c.header_words-words.ensures
