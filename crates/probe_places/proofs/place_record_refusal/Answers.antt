use mathlib.Core.Path.{sym, ◌∙◌}
use Rattle.probe_places.proofs.Checks.{bad_format_lem, bad_rest, by_place}
use borrow.Author.Rules.{rules}
use Rattle.probe_places.proofs.place_record_refusal.Goals as goal

pub returns-then-store-n-gt1 : goal.returns-then-store-n-gt1
returns-then-store-n-gt1 c = bad_format_lem _ _ c.if-store-n-gt1.true

pub returns-then-not-rest_zero : goal.returns-then-not-rest_zero
returns-then-not-rest_zero c = bad_rest _ _ (search rules) (sym c.rest_zero.ensures ∙ c.if-not-rest_zero.true)

pub returns : goal.returns
returns c = by_place _ _ (search rules) (sym c.rest_zero.ensures ∙ c.if-not-rest_zero.false) c.place_at.ensures c.refusal.ensures
