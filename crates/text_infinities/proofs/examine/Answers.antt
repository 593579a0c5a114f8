use mathlib.Core.Path.{refl, ap, sym, ◌∙◌}
use Rattle.bc6.specs.Call.{told}
use Rattle.store_records.proofs.Readings.{unrefused, format_is, refused}
use Rattle.text_infinities.proofs.Findings as findings
use borrow.Author.Rules.{rules}
use Rattle.text_infinities.proofs.examine.Goals as goal

pub returns-in_default : goal.returns-in_default
returns-in_default c = record { infinite_bound = search rules; value = findings.nothing c.args.store.now c.args.n (refused c.record_at.ensures c.in_default.is) }

pub unreachable-requires : goal.unreachable-requires
unreachable-requires c =
    let d = c.record_at.ensures in
    let e = c.in-Ok.is in
    findings.never c.args.store.now c.args.n (unrefused d e) (format_is d e) c.record_block.ensures (search rules) c.block_pixels.ensures _ (ap (λ r. (told r).answer) c.in_default-block_pixels.is)

pub returns : goal.returns
returns c =
    let d = c.record_at.ensures in
    let e = c.in-Ok.is in
    record { infinite_bound = search rules; value = findings.found c.args.store.now c.args.n (unrefused d e) (format_is d e) c.record_block.ensures refl (search rules) c.block_pixels.ensures (c.from.ensures ∙ ap (λ r. (told r).infinite) (sym c.in-Ok-block_pixels.is)) c.first_infinite.ensures }
