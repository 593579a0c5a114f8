-- `bc6_runs::word` meets its contract: the runs so far, each added to its endpoint's number. Assumes nothing.
use borrow.Author.Rules.{rules}
use mathlib.Core.Path.{◌∙◌, ap}
use mathlib.Core.List.{List}
use Prim.Native.Nat.{ℕ, ◌<◌, ◌≤◌}
use native.Mathlib.Nat.{mod-lt}
use native.Mathlib.Omega.{arith}
use lib.Dec.{lit<}
use lib.IntN.{pos}
use lib.ListN.{length}
use lib.Seq.{take_all}
use mir.Syntax.{w32}
use mir.Val.{SFits}
use Rattle.bcn_util.specs.Stream.{number}
use Rattle.bc6_runs.specs.Ends.{four_of, sum_at}
use Rattle.bc6_runs.proofs.Tables.{can_read_at, run_fits, sum_fits, stored}
use Rattle.bc6_runs.proofs.word.Goals as goal

pub bounds-numbers-e : goal.bounds-numbers-e
bounds-numbers-e c = mod-lt _ (lit< tt)

pub run-requires : goal.run-requires
run-requires c = can_read_at 0 c.args.runs.now c.requires c.loop-code.code-index (search rules)

pub overflow_cast-numbers : goal.overflow_cast-numbers
overflow_cast-numbers c =
    let below : c.loop-code.code-index < length c.args.runs.now = search rules in
    let fits : SFits w32 (pos c.run.result) = run_fits (number c.args.stream) c.args.runs.now c.requires c.loop-code.code-index below c.loop-code.numbers c.loop-code.invariant _ c.run.ensures in
    fits

pub overflow_add-numbers : goal.overflow_add-numbers
overflow_add-numbers c =
    let below : c.loop-code.code-index < length c.args.runs.now = search rules in
    sum_fits (number c.args.stream) c.args.runs.now c.requires c.loop-code.code-index below c.loop-code.numbers c.loop-code.invariant _ c.run.ensures

pub bounds-numbers-e-in-loop-code : goal.bounds-numbers-e-in-loop-code
bounds-numbers-e-in-loop-code c = mod-lt _ (lit< tt)

pub loop-code-preserved : goal.loop-code-preserved
loop-code-preserved c =
    let below : c.loop-code.code-index < length c.args.runs.now = search rules in
    stored (number c.args.stream) c.args.runs.now c.requires c.loop-code.code-index below c.loop-code.numbers c.loop-code.invariant _ c.run.ensures

pub returns : goal.returns
returns c =
    let runs = c.args.runs.now in
    let n = number c.args.stream in
    let end : length runs ≤ c.loop-code.code-index = omega arith in
    c.loop-code.invariant ∙ ap (λ (l : List ℕ). four_of (sum_at n l)) (take_all c.loop-code.code-index runs end)
