-- `dds::header_words` meets its contract. Assumes nothing.
use mathlib.Core.Path.{ap}
use Prim.Native.Nat.{ℕ}
use native.Mathlib.Omega.{arith}
use Rattle.dds.specs.Dds.{header_words, words_with}
use Rattle.dds.proofs.Headers.{bytes_most}
use Rattle.dds.proofs.header_words.Goals as goal

pub overflow_cast-linear_size : goal.overflow_cast-linear_size
overflow_cast-linear_size c = omega (arith, c.block_bytes-linear_size.ensures, bytes_most _ _ c.requires.size)

pub returns : goal.returns
unfolding header_words
returns c = ap (λ (b : ℕ). words_with b c.args.format c.args.width c.args.height) c.block_bytes-linear_size.ensures
