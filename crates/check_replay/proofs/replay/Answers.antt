use Rattle.std.proofs.Common.{◌≡◌, ◌/◌, length, refl, ap, ◌∙◌, arith, rules}
use Rattle.check_replay.specs.Entries.{agreeing}
use Rattle.check_replay.proofs.Replayed.{counts_most, one_more}
use Rattle.check_replay.proofs.replay.Goals as goal

pub loop-n-init : goal.loop-n-init
unfolding agreeing
loop-n-init g c = (search rules, refl)

pub overflow_add-count : goal.overflow_add-count
overflow_add-count g c = record { fits = omega (arith, counts_most c.args.list.now c.loop-n.n c.in_ok-count.ensures) }

pub loop-n-preserved : goal.loop-n-preserved
loop-n-preserved g c = (
  omega (arith, counts_most c.args.list.now c.loop-n.n c.in_ok-count.ensures),
  one_more c.args.list.now c.loop-n.n c.loop-n.invariant.1 c.in_ok-count.ensures,
)

pub returns : goal.returns
returns g c =
    let whole : c.loop-n.n ≡ length c.args.list.now / 117 = omega arith in
    c.loop-n.invariant.1 ∙ ap (agreeing c.args.list.now) whole
