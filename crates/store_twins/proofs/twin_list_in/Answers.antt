use borrow.Author.Rules.{rules}
use mathlib.Core.Path.{sym, ◌∙◌}
use native.Mathlib.Omega.{arith}
use lib.Seq.{length-take-le}
use Rattle.store_spec.proofs.Keeping.{scratch_kept}
use Rattle.store_spec.proofs.Listing as laws
use Rattle.store_twins.proofs.twin_list_in.Goals as goal

pub returns-then-refusal-ne-DONE : goal.returns-then-refusal-ne-DONE
returns-then-refusal-ne-DONE c = laws.listed_in_refused _ _ _ _ c.scratch_refusal-refusal.ensures c.if-refusal-ne-DONE.true c.refused.ensures

pub keep_records-requires : goal.keep_records-requires
keep_records-requires c = let w = laws.roomy_when c.scratch_refusal-refusal.ensures c.if-refusal-ne-DONE.false in search rules

pub mark_records-requires : goal.mark_records-requires
mark_records-requires c = let w = laws.roomy_when c.scratch_refusal-refusal.ensures c.if-refusal-ne-DONE.false in record { scratch_entry_in_bounds = search rules; store_in_bounds = search rules; kept = scratch_kept _ _ c.keep_records.ensures }

pub slice_bounds-made-end : goal.slice_bounds-made-end
slice_bounds-made-end c = let w = laws.roomy_when c.scratch_refusal-refusal.ensures c.if-refusal-ne-DONE.false in search rules

pub slice_bounds-made-end-2 : goal.slice_bounds-made-end-2
slice_bounds-made-end-2 c = let w = laws.roomy_when c.scratch_refusal-refusal.ensures c.if-refusal-ne-DONE.false in sym (length-take-le _ _ (omega arith))

pub returns : goal.returns
returns c = laws.listed_in_done _ _ _ c.record_count.ensures (sym c.scratch_refusal-refusal.ensures ∙ c.if-refusal-ne-DONE.false) c.keep_records.ensures c.mark_records.ensures c.count_of.ensures c.count_of-2.ensures c.count_of-3.ensures
