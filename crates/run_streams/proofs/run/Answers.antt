use native.Mathlib.Omega.{arith}
use Rattle.run_streams.proofs.Writing.{answered}
use Rattle.run_streams.proofs.run.Goals as goal

-- what goes out is the definition of what was read
pub write_answer-requires : goal.write_answer-requires
write_answer-requires g c =
    let put = c.put-end.ensures in
    let room = c.requires.room in
    let kept = c.read_input.auto.buffer in
    answered g.P.Program.definition g.P.Program.largest (omega arith) c.first_bytes.ensures put.upper_bound put.written
