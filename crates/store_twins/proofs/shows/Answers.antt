use borrow.Author.Rules.{rules}
use mathlib.Core.Path.{sym, ◌∙◌, ap}
use Rattle.laws.specs.Every.{same}
use Rattle.laws.proofs.Chains.{same_is}
use Rattle.store_spec.proofs.Marking.{holding_means, showing_none, shown_picture}
use Rattle.store_twins.proofs.shows.Goals as goal

pub returns-then-not-holds_picture : goal.returns-then-not-holds_picture
returns-then-not-holds_picture c = sym (showing_none _ _ _ _ (sym c.holds_picture.ensures ∙ c.if-not-holds_picture.true))

pub decode_record-requires : goal.decode_record-requires
decode_record-requires c = let h = holding_means _ _ _ (sym c.holds_picture.ensures ∙ c.if-not-holds_picture.false) in record { unrefused = h.unrefused; format_value = sym h.of_format; value_count_in_bounds = search rules }

pub returns : goal.returns
returns c = shown_picture _ _ _ _ _ (sym c.holds_picture.ensures ∙ c.if-not-holds_picture.false) c.decode_record.ensures (search rules) (c.eq.ensures ∙ same_is c.as_slice.result.now c.args.picture.now ∙ ap (λ l. same l c.args.picture.now) c.as_slice.ensures)
