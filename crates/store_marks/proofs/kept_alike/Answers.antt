use mathlib.Core.Path.{sym, ◌∙◌}
use Rattle.laws.proofs.Chains.{same_is}
use Rattle.store_spec.proofs.Marking.{other_kept, alike_kept}
use Rattle.store_marks.proofs.kept_alike.Goals as goal

pub returns-then-not-holds_picture : goal.returns-then-not-holds_picture
returns-then-not-holds_picture c =
    let s = c.requires in
    other_kept _ _ _ s.unrefused s.format_value s.fact (sym c.holds_picture.ensures ∙ c.if-not-holds_picture.true)

pub returns : goal.returns
returns c =
    let s = c.requires in
    alike_kept _ _ _ s.unrefused s.format_value s.fact s.pictured c.record_count-count.ensures (sym c.holds_picture.ensures ∙ c.if-not-holds_picture.false)
    s.n_bound.0 s.n_bound.1 c.picture_in.ensures c.picture_in-2.ensures (c.eq.ensures ∙ same_is c.picture_in.result.now c.picture_in-2.result.now)
