use borrow.Author.Rules.{rules}
use mathlib.Core.Path.{refl, sym, ◌∙◌}
use lib.ListN.{length-set}
use Rattle.laws.proofs.Rows.{made_none, made_store, made_upto}
use Rattle.laws.proofs.Firsts.{first_none, first_more}
use Rattle.store_records.proofs.Readings.{unrefused, format_is, refused}
use Rattle.store_spec.specs.Twins.{marks_of, mark_at}
use Rattle.store_spec.proofs.Marking.{alike_other, unfound, found, mark_bad, mark_reserved, mark_twin, mark_kept}
use mathlib.Core.Path.{◌≡◌}
use Rattle.store_marks.proofs.mark_records.Goals as goal
use Rattle.store_marks.proofs.mark_records.Goals.{else-search-test, then-search-test+else-scratch-earlier+then-kept_alike}

pub loop-n-init : goal.loop-n-init
loop-n-init c = (search rules, made_none _ _, refl)

pub loop-n-preserved-in_default : goal.loop-n-preserved-in_default
loop-n-preserved-in_default c = let i = c.loop-n.invariant in (search rules, made_store _ _ _ _ _ _ i.1 refl (mark_bad _ _ (refused c.record_at.ensures c.in_default.is)) (search rules), simp length-set i.2)

pub mode_at-requires : goal.mode_at-requires
mode_at-requires c = unrefused c.record_at.ensures c.in-Ok.is

pub loop-n-preserved-then-mode_at-eq0 : goal.loop-n-preserved-then-mode_at-eq0
loop-n-preserved-then-mode_at-eq0 c = let i = c.loop-n.invariant in (search rules, made_store _ _ _ _ _ _ i.1 refl (mark_reserved _ _ (unrefused c.record_at.ensures c.in-Ok.is) (sym c.mode_at.ensures ∙ c.if-mode_at-eq0.true)) (search rules), simp length-set i.2)

pub search-init : goal.search-init
search-init c = (search rules, refl, first_none _)

pub search-preserved-then-scratch-earlier : goal.search-preserved-then-scratch-earlier
search-preserved-then-scratch-earlier c = let i = c.search.invariant in (search rules, i.1, first_more _ _ i.2 (alike_other c.requires.kept _ _ (search rules) (search rules) c.if-scratch-earlier.true))

pub kept_alike-requires : goal.kept_alike-requires
kept_alike-requires c =
    let r = c.record_at.ensures in
    let e = c.in-Ok.is in
    record {
      unrefused = unrefused r e;
      format_value = format_is r e;
      fact = λ z. c.if-mode_at-eq0.false (c.mode_at.ensures ∙ z);
      n_bound = (search rules, search rules);
      scratch_entry_in_bounds = c.requires.scratch_entry_in_bounds;
      pictured = c.requires.kept.pictured;
    }

pub search-preserved : goal.search-preserved
search-preserved c = let i = c.search.invariant in (search rules, i.1, first_more _ _ i.2 (sym c.kept_alike.ensures ∙ c.if-kept_alike.false))

pub loop-n-preserved : goal.loop-n-preserved
loop-n-preserved c =
    let i = c.loop-n.invariant in
    let u = unrefused c.record_at.ensures c.in-Ok.is in
    let s = c.search.invariant in
    let m : c.search-test.mark ≡ mark_at c.args.store.now c.loop-n.n = elim c.search-test.branch [
      | else-search-test w ↦ w.mark-is ∙ s.1 ∙ mark_kept _ _ u (unfound _ _ _ s.0 w.search-test.false s.2)
      | then-search-test+else-scratch-earlier+then-kept_alike w ↦ w.mark-is ∙ mark_twin _ _ u (found _ _ _ s.2 w.search-test.true (sym w.kept_alike.ensures ∙ w.if-kept_alike.true))
    ] in
    (search rules, made_store _ _ _ _ _ _ i.1 refl m (search rules), simp length-set i.2)

pub returns : goal.returns
unfolding marks_of
returns c = made_upto _ _ _ _ _ c.loop-n.invariant.1 (search rules) (search rules)
