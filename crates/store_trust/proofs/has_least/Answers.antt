-- `store_trust::has_least` meets its contract. The loop's invariant: no endpoint before e is at the lowest number. Assumes nothing.
use borrow.Author.Rules.{rules}
use mathlib.Core.Path.{sym, ◌∙◌}
use mathlib.Core.Bool.{true}
use lib.Dec.{lit<}
use Rattle.laws.proofs.Search.{some_more}
use Rattle.bc6_colour.proofs.Ends.{end_asks}
use Rattle.store_copies.specs.Trust.{least_end}
use Rattle.store_trust.proofs.Lowest.{end_least, end_inside, first_least, first_other, some_end, later_least, none_least}
use Rattle.store_trust.proofs.has_least.Goals as goal

pub of-bits-requires : goal.of-bits-requires
of-bits-requires c = (c.requires.mode_first, c.requires.mode_last)

pub some_channel_least-requires : goal.some_channel_least-requires
some_channel_least-requires c = end_asks true c.args.fields c.requires _ c.of-bits.ensures 0 _ (lit< tt) c.first-first.ensures

pub returns-then-some_channel_least : goal.returns-then-some_channel_least
returns-then-some_channel_least c =
    first_least c.args.fields
    (sym (end_least c.args.fields c.requires _ c.of-bits.ensures 0 (lit< tt) _ c.first-first.ensures c.some_channel_least.ensures) ∙ c.if-some_channel_least.true)

pub loop-e-init : goal.loop-e-init
loop-e-init c = (
  search rules,
  some_end c.args.fields _ c.end_count-e-end.ensures,
  first_other c.args.fields
      (sym (end_least c.args.fields c.requires _ c.of-bits.ensures 0 (lit< tt) _ c.first-first.ensures c.some_channel_least.ensures) ∙ c.if-some_channel_least.false),
)

pub other-other-requires : goal.other-other-requires
other-other-requires c = ((c.requires, c.of-bits.ensures), (c.first-first.ensures, search rules, end_inside c.args.fields _ _ c.end_count-e-end.ensures (search rules)))

pub some_channel_least-requires-in-loop-e : goal.some_channel_least-requires-in-loop-e
some_channel_least-requires-in-loop-e c = end_asks true c.args.fields c.requires _ c.of-bits.ensures _ _ (end_inside c.args.fields _ _ c.end_count-e-end.ensures (search rules)) c.other-other.ensures

pub returns-then-some_channel_least-2 : goal.returns-then-some_channel_least-2
returns-then-some_channel_least-2 c =
    later_least c.args.fields _ _ c.end_count-e-end.ensures (search rules)
    (sym (end_least c.args.fields c.requires _ c.of-bits.ensures _ (end_inside c.args.fields _ _ c.end_count-e-end.ensures (search rules)) _ c.other-other.ensures c.some_channel_least-in-loop-e.ensures) ∙ c.if-some_channel_least-2.true)

pub loop-e-preserved : goal.loop-e-preserved
loop-e-preserved c = (
  search rules,
  search rules,
  some_more (least_end c.args.fields) _ c.loop-e.invariant.2
      (sym (end_least c.args.fields c.requires _ c.of-bits.ensures _ (end_inside c.args.fields _ _ c.end_count-e-end.ensures (search rules)) _ c.other-other.ensures c.some_channel_least-in-loop-e.ensures) ∙ c.if-some_channel_least-2.false),
)

pub returns : goal.returns
returns c = none_least c.args.fields _ _ c.end_count-e-end.ensures c.loop-e.invariant.2 (search rules) (search rules)
