use borrow.Author.Rules.{rules}
use mathlib.Core.Path.{sym, ◌∙◌}
use Rattle.std.proofs.Common.{◌≡◌, refl, ℕ}
use Rattle.laws.proofs.Chains.{first_found}
use Rattle.store_records.proofs.Readings.{unrefused, format_is, refused}
use Rattle.store_spec.specs.Twins.{first_twin, alike, showing}
use Rattle.store_spec.proofs.Marking.{no_twin, reserved_no_twin, alike_shown}
use Rattle.store_twins.proofs.first_twin.Goals as goal

pub returns-in_default : goal.returns-in_default
returns-in_default c = sym (no_twin _ _ (refused c.record_at.ensures c.in_default.is))

pub mode_at-requires : goal.mode_at-requires
mode_at-requires c = unrefused c.record_at.ensures c.in-Ok.is

pub returns-then-mode_at-eq0 : goal.returns-then-mode_at-eq0
returns-then-mode_at-eq0 c = sym (reserved_no_twin _ _ (sym c.mode_at.ensures ∙ c.if-mode_at-eq0.true))

pub decode_record-requires : goal.decode_record-requires
decode_record-requires c = let r = c.record_at.ensures in let e = c.in-Ok.is in record { unrefused = unrefused r e; format_value = format_is r e; value_count_in_bounds = search rules }

pub returns : goal.returns
unfolding first_twin
returns c =
    let r = c.record_at.ensures in
    let e = c.in-Ok.is in
    let one : (k : ℕ) → alike c.args.store.now c.args.n k ≡ showing c.args.store.now k c.in-Ok.found.format c.decode_record.new.out =
    λ k. alike_shown _ _ _ _ (unrefused r e) (format_is r e) (λ z. c.if-mode_at-eq0.false (c.mode_at.ensures ∙ z)) c.decode_record.ensures (search rules) refl in
    c.unwrap_or.ensures ∙ first_found (alike c.args.store.now c.args.n) _ _ _ (λ x b q k. search (rules, one)) c.find.result c.find.ensures.ran
