use borrow.Author.Rules.{rules}
use mathlib.Core.Path.{refl, ap, ap₂, ◌∙◌}
use lib.ListN.{length, length-set}
use Rattle.laws.proofs.Rows.{made_none, made_store, made_upto}
use Rattle.store_records.proofs.Readings.{unrefused, format_is, refused}
use Rattle.store_spec.specs.Scratch.{print_of}
use Rattle.store_spec.proofs.Keeping.{picture_in_length, print_passed, print_put, behind_prints, at_count}
use Rattle.store_scratch.proofs.keep_prints.Goals as goal

pub loop-n-init : goal.loop-n-init
loop-n-init c = (search rules, made_none _ _, refl)

pub loop-n-preserved-in_default : goal.loop-n-preserved-in_default
loop-n-preserved-in_default c =
    let i = c.loop-n.invariant in
    (search rules, print_passed _ _ _ _ i.1 (refused c.record_at.ensures c.in_default.is) (search rules), i.2)

pub kind_at-kind-requires : goal.kind_at-kind-requires
kind_at-kind-requires c =
    let r = c.record_at.ensures in
    let e = c.in-Ok.is in
    record { unrefused = unrefused r e; format_value = format_is r e }

pub fingerprint-requires : goal.fingerprint-requires
fingerprint-requires c = ap length c.picture_in.ensures ∙ picture_in_length _ _ _ (search rules)

pub loop-n-preserved : goal.loop-n-preserved
loop-n-preserved c =
    let l = c.loop-n in
    let u = unrefused c.record_at.ensures c.in-Ok.is in
    let shown = c.picture_in.ensures ∙ behind_prints _ _ _ _ _ _ l.invariant.1 (search rules) ∙ at_count _ _ _ _ c.record_count-count.ensures c.requires.pictured (search rules) u in (
      search rules,
      made_store _ _ _ _ _ _ l.invariant.1 refl (print_put _ _ _ u (c.fingerprint.ensures ∙ ap₂ print_of c.kind_at-kind.ensures shown)) (search rules),
      simp length-set l.invariant.2,
    )

pub returns : goal.returns
returns c = made_upto _ _ _ _ _ c.loop-n.invariant.1 (search rules) (search rules)
