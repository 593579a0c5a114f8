-- `run_write::write_record` meets its contract. Assumes nothing.
use mathlib.Core.Path.{ap, ◌∙◌}
use mathlib.Core.List.{List, ◌++◌}
use Prim.Native.Nat.{ℕ}
use lib.ListN.{drop}
use Rattle.laws.specs.Made.{made}
use Rattle.run_write.specs.Record.{answer_byte}
use Rattle.run_write.proofs.Bytes.{written}
use Rattle.run_write.proofs.write_record.Goals as goal

pub returns : goal.returns
returns c =
    c.put_answer.ensures
    ∙ ap (λ (a : ℕ). made (answer_byte a c.write_block-told.new.out) 17 ++ drop 17 c.args.out.now) c.answer_number.ensures
    ∙ ap (λ (l : List ℕ). l ++ drop 17 c.args.out.now) (written _ c.fields_in-fields.ensures c.write_block-told.ensures)
