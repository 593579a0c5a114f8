-- `bc6_writer::write_bytes` meets its contract: the lower word's bytes, and the upper's. Assumes nothing.
use borrow.Author.Rules.{rules}
use mathlib.Core.Path.{◌∙◌, ap, ap₂}
use mathlib.Core.List.{List, ◌++◌}
use Prim.Native.Nat.{ℕ}
use lib.ListN.{length, drop}
use lib.Seq.{take_at}
use Rattle.laws.proofs.Pasting.{rest_put}
use Rattle.bc6_writer.proofs.Joining.{two_words}
use Rattle.bc6_writer.proofs.write_bytes.Goals as goal

pub returns : goal.returns
returns c =
    let low = c.copy_from_slice.new.self in
    let high = c.copy_from_slice-2.new.self in
    rest_put (low ++ drop 8 c.args.out.now) 8 high
    ∙ ap (λ (l : List ℕ). l ++ high) (take_at low (drop 8 c.args.out.now) 8 (ap length (c.copy_from_slice.ensures.after ∙ c.to_le_bytes.ensures)))
    ∙ ap₂ (λ (x y : List ℕ). x ++ y) (c.copy_from_slice.ensures.after ∙ c.to_le_bytes.ensures) (c.copy_from_slice-2.ensures.after ∙ c.to_le_bytes-2.ensures)
    ∙ two_words c.args.words.lo c.args.words.hi (search rules)
