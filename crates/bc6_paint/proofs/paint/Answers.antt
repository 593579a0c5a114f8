-- `bc6_paint::paint` meets its contract: pixels k and 8 + k a turn, a channel of both after the other, and two flags each. Assumes nothing.
use mathlib.Core.Path.{subst, sym}
use mathlib.Core.Bool.{not}
use native.Mathlib.Omega.{arith}
use lib.Dec.{eqb}
use Rattle.bc6_paint.specs.Values.{in_second, weight_in}
use Rattle.bc6_paint.proofs.Pixels.{Counts, none_painted, shades_of, turn_painted, none_counted, turn_counted, all_painted, all_counted}
use Rattle.bc6_paint.proofs.paint.Goals.{then-this-eq4, else-this-eq4}
use Rattle.bc6_paint.proofs.paint.Goals as goal

pub loop-k-init : goal.loop-k-init
loop-k-init g c = (none_painted _ _ c.requires.1, λ e. none_counted _)

pub loop-k-preserved : goal.loop-k-preserved
loop-k-preserved g c =
    let shades = shades_of (not (eqb g.row.SIGNED 0)) c.args.ends (in_second c.args.map) (weight_in g.row.BITS c.args.word) c.turn_at-t.ensures in
    let x = c.channel-r.ensures in
    let y = c.channel-g.ensures in
    let z = c.channel-b.ensures in (
      turn_painted shades c.loop-k.invariant.0 c.loop-k-test.true x.holds y.holds z.holds,
      λ e.
          elim c.if-this-eq4.branch [
            | then-this-eq4 w ↦ subst (Counts _ _) (sym w.infinite-is) (turn_counted shades (c.loop-k.invariant.1 e) x.counts y.counts z.counts)
            | else-this-eq4 w ↦ absurd (w.if-this-eq4.false e)
          ],
    )

pub returns : goal.returns
returns g c =
    let left = c.loop-k-test.false in
    record {
      holds = all_painted c.loop-k.invariant.0 (omega arith);
      counts = λ e. (all_counted c.loop-k.invariant.0 (c.loop-k.invariant.1 e) (omega arith)).counts;
    }
