-- `bc6::write_black` meets its contract: the zero colour's pattern is 0. Assumes nothing.
use mathlib.Core.Path.{◌∙◌, ap}
use mathlib.Core.Bool.{false}
use mathlib.Core.List.{List, ◌++◌}
use Prim.Native.Nat.{ℕ}
use lib.ListN.{get_or, drop, replicate}
use lib.Seq.{length-take-le}
use Rattle.bc6.proofs.write_black.Goals as goal

pub returns : goal.returns
returns c =
    let room = length-take-le 48 c.args.out.now c.requires in
    ap (λ (l : List ℕ). l ++ drop 48 c.args.out.now)
    (c.fill.ensures.after (λ y e. e)
    ∙ (λ i. replicate (room i) (get_or (c.black-black.ensures i) 0 (record { pattern = 0; infinite = false })).pattern))
