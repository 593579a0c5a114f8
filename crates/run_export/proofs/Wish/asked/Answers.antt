-- `run_export::Wish::asked` meets its contract. Assumes nothing.
use mathlib.Core.Path.{refl, sym, ◌∙◌}
use Rattle.run_export.proofs.Starts.{wish_means}
use Rattle.run_export.proofs.Wish.asked.Goals as goal

pub numbered-requires : goal.numbered-requires
numbered-requires c = (wish_means c.args.kind c.args.format c.args.width c.args.height (sym c.is_ours.ensures ∙ c.if-not-is_ours.false)).named

pub invariant_of-result : goal.invariant_of-result
invariant_of-result c =
    let w = wish_means c.args.kind c.args.format c.args.width c.args.height (sym c.is_ours.ensures ∙ c.if-not-is_ours.false) in
    record { known = w.known; size = w.size }

pub returns : goal.returns
returns c = record { ours = sym c.is_ours.ensures ∙ c.if-not-is_ours.false; kind_is = c.numbered.ensures; format_is = refl; width_is = refl; height_is = refl }
