use borrow.Author.Rules.{rules}
use mathlib.Core.Path.{sym, ◌∙◌}
use native.Mathlib.Omega.{arith}
use Rattle.store_spec.proofs.Listing.{whole_when}
use Rattle.store_clean.proofs.Linking.{met_goes}
use Rattle.store_clean.proofs.Cleaning as laws
use Rattle.store_clean.proofs.clean_store.Goals as goal

pub returns-then-refusal-ne-DONE : goal.returns-then-refusal-ne-DONE
returns-then-refusal-ne-DONE c = laws.cleaned_refused _ _ _ c.list_refusal-refusal.ensures c.if-refusal-ne-DONE.true c.refused.ensures

pub link_records-requires : goal.link_records-requires
link_records-requires c = let w = whole_when c.list_refusal-refusal.ensures c.if-refusal-ne-DONE.false in record { store_bound = search rules; store_in_bounds = search rules }

pub loop-n-init : goal.loop-n-init
loop-n-init c = laws.so_far_none _ _

pub repeated_along-requires : goal.repeated_along-requires
repeated_along-requires c = let w = whole_when c.list_refusal-refusal.ensures c.if-refusal-ne-DONE.false in record { n_bound = search rules; store_in_bounds = search rules; linked = c.link_records.ensures }

pub loop-n-preserved-then-repeated_along-n : goal.loop-n-preserved-then-repeated_along-n
loop-n-preserved-then-repeated_along-n c = laws.so_far_gone c.loop-n.invariant (search rules) (met_goes c.repeated_along.ensures c.if-repeated_along-n.true)

pub copy_record-requires : goal.copy_record-requires
copy_record-requires c = let w = whole_when c.list_refusal-refusal.ensures c.if-refusal-ne-DONE.false in let s = c.loop-n.invariant in record { n_bound = search rules; record_size_in_bounds = omega arith }

pub loop-n-preserved : goal.loop-n-preserved
loop-n-preserved c = let w = whole_when c.list_refusal-refusal.ensures c.if-refusal-ne-DONE.false in let s = c.loop-n.invariant in laws.so_far_more s (search rules) (omega arith) (c.repeated_along.ensures.stays c.if-repeated_along-n.false) c.copy_record.ensures

pub returns : goal.returns
returns c = laws.cleaned_done _ _ c.record_count-count.ensures (sym c.list_refusal-refusal.ensures ∙ c.if-refusal-ne-DONE.false) c.loop-n.invariant (search rules)
