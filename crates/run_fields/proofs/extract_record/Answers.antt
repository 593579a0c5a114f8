-- `run_fields::extract_record` meets its contract. Assumes nothing.
use mathlib.Core.Path.{ap, sym, ◌∙◌}
use mathlib.Core.List.{List, ◌++◌}
use Prim.Native.Nat.{ℕ, ◌-◌}
use native.Mathlib.Omega.{arith}
use lib.ListN.{length, drop, length-drop}
use lib.Seq.{take_all}
use Rattle.laws.specs.Made.{made}
use Rattle.bc6h_spec.specs.Fields.{no_fields}
use Rattle.bc6_fields.specs.Call.{told}
use Rattle.run_fields.specs.Record.{fields_byte}
use Rattle.run_fields.proofs.Pieces.{record_is}
use Rattle.run_fields.proofs.extract_record.Goals as goal

pub returns-in-Ok : goal.returns-in-Ok
returns-in-Ok c =
    let piece = c.args.piece.now in
    c.write_record.ensures
    ∙ ap (λ r. made (fields_byte (told r)) 45 ++ drop 45 c.args.out.now) (sym c.in-Ok.is)
    ∙ ap (λ (l : List ℕ). l ++ drop 45 c.args.out.now)
    (record_is piece _ _ (take_all (length piece - 1) (drop 1 piece) (simp length-drop (omega arith))) c.block_fields.ensures)

pub returns-in-Err : goal.returns-in-Err
returns-in-Err c =
    let piece = c.args.piece.now in
    c.write_record-in-Err.ensures
    ∙ ap (λ f. made (fields_byte (record { answer = c.number.result; fields = f })) 45 ++ drop 45 c.args.out.now) c.none.ensures
    ∙ ap (λ (n : ℕ). made (fields_byte (record { answer = n; fields = no_fields })) 45 ++ drop 45 c.args.out.now) c.number.ensures
    ∙ ap (λ r. made (fields_byte (told r)) 45 ++ drop 45 c.args.out.now) (sym c.in-Err.is)
    ∙ ap (λ (l : List ℕ). l ++ drop 45 c.args.out.now)
    (record_is piece _ _ (take_all (length piece - 1) (drop 1 piece) (simp length-drop (omega arith))) c.block_fields.ensures)
