use borrow.Author.Rules.{rules}
use mathlib.Core.Path.{sym, ◌∙◌}
use Rattle.store_records.proofs.Readings.{unrefused, refused}
use Rattle.store_clean.proofs.Linking.{met_refused, met_reserved, passed_none, earlier, next_less, passed_more, met_none, met_here}
use Rattle.store_clean.proofs.repeated_along.Goals as goal

pub returns-in_default : goal.returns-in_default
returns-in_default c = met_refused _ _ (refused c.record_at.ensures c.in_default.is)

pub mode_at-requires : goal.mode_at-requires
mode_at-requires c = unrefused c.record_at.ensures c.in-Ok.is

pub returns-then-mode_at-eq0 : goal.returns-then-mode_at-eq0
returns-then-mode_at-eq0 c = met_reserved _ _ (sym c.mode_at.ensures ∙ c.if-mode_at-eq0.true)

pub loop-at-init : goal.loop-at-init
loop-at-init c = let s = c.requires in passed_none s.linked _ s.n_bound (unrefused c.record_at.ensures c.in-Ok.is) c.from-at.ensures

pub returns-then-is_repeat : goal.returns-then-is_repeat
returns-then-is_repeat c = let s = c.requires in met_here s.linked _ s.n_bound c.loop-at.invariant (search rules) (sym c.is_repeat.ensures ∙ c.if-is_repeat.true)

pub offset_bounds-links-earlier : goal.offset_bounds-links-earlier
offset_bounds-links-earlier c = let s = c.requires in let l = earlier s.linked _ s.n_bound c.loop-at.invariant (search rules) in search rules

pub bounds-links-earlier : goal.bounds-links-earlier
bounds-links-earlier c = let s = c.requires in let l = earlier s.linked _ s.n_bound c.loop-at.invariant (search rules) in search rules

pub loop-at-smaller : goal.loop-at-smaller
loop-at-smaller c = let s = c.requires in next_less s.linked _ s.n_bound c.loop-at.invariant (search rules) c.from-at-in-loop-at.ensures

pub loop-at-preserved : goal.loop-at-preserved
loop-at-preserved c = let s = c.requires in passed_more s.linked _ s.n_bound c.loop-at.invariant (search rules) c.from-at-in-loop-at.ensures (sym c.is_repeat.ensures ∙ c.if-is_repeat.false)

pub returns : goal.returns
returns c = let s = c.requires in met_none s.linked _ s.n_bound c.loop-at.invariant (search rules)
