-- `run_pixels::decode_record` meets its contract. Assumes nothing.
use mathlib.Core.Path.{ap, sym, ◌∙◌}
use mathlib.Core.List.{List, ◌++◌}
use Prim.Native.Nat.{ℕ, ◌-◌}
use native.Mathlib.Omega.{arith}
use lib.ListN.{length, drop, length-drop}
use lib.Seq.{take_all}
use Rattle.bc6.specs.Call.{told}
use Rattle.run_pixels.specs.Shown.{shown_bytes}
use Rattle.run_pixels.proofs.Bytes.{record_is}
use Rattle.run_pixels.proofs.decode_record.Goals as goal

pub returns-in-Ok : goal.returns-in-Ok
returns-in-Ok c =
    let piece = c.args.piece.now in
    c.put_shown.ensures
    ∙ ap (λ r. shown_bytes (told r) c.block_pixels.new.out ++ drop 100 c.args.out.now) (sym c.in-Ok.is)
    ∙ ap (λ (l : List ℕ). l ++ drop 100 c.args.out.now)
    (record_is piece _ _ _ (take_all (length piece - 1) (drop 1 piece) (simp length-drop (omega arith))) c.block_pixels.ensures)

pub returns-in-Err : goal.returns-in-Err
returns-in-Err c =
    let piece = c.args.piece.now in
    c.put_shown-in-Err.ensures
    ∙ ap (λ (n : ℕ). shown_bytes (record { answer = n; mode = 0; infinite = 0 }) c.block_pixels.new.out ++ drop 100 c.args.out.now) c.number.ensures
    ∙ ap (λ r. shown_bytes (told r) c.block_pixels.new.out ++ drop 100 c.args.out.now) (sym c.in-Err.is)
    ∙ ap (λ (l : List ℕ). l ++ drop 100 c.args.out.now)
    (record_is piece _ _ _ (take_all (length piece - 1) (drop 1 piece) (simp length-drop (omega arith))) c.block_pixels.ensures)
