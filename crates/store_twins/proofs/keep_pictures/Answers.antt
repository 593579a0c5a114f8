use borrow.Author.Rules.{rules}
use mathlib.Core.Path.{refl}
use Rattle.store_records.proofs.Readings.{unrefused, format_is, refused}
use Rattle.laws.proofs.Joined.{run_start}
use Rattle.store_spec.proofs.Keeping.{slot_length, slot_passed, slot_put, slots_done}
use Rattle.store_twins.proofs.keep_pictures.Goals as goal

pub loop-n-init : goal.loop-n-init
loop-n-init c = (search rules, run_start _ _ (slot_length _ _) _, refl)

pub loop-n-preserved-in_default : goal.loop-n-preserved-in_default
loop-n-preserved-in_default c =
    let i = c.loop-n.invariant in
    (search rules, slot_passed _ _ _ _ i.1 (refused c.record_at.ensures c.in_default.is) (search rules), i.2)

pub decode_record-requires : goal.decode_record-requires
decode_record-requires c = let r = c.record_at.ensures in
    let e = c.in-Ok.is in record { unrefused = unrefused r e; format_value = format_is r e; value_count_in_bounds = search rules }

pub loop-n-preserved : goal.loop-n-preserved
loop-n-preserved c =
    let k = c.decode_record in
    let l = c.loop-n in
    let u = unrefused c.record_at.ensures c.in-Ok.is in (
      search rules,
      slot_put _ _ _ _ _ l.invariant.1 u k.ensures,
      search rules,
    )

pub returns : goal.returns
returns c = slots_done _ _ _ _ c.loop-n.invariant.1 (search rules) (search rules)
