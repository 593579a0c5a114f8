use native.Mathlib.Omega.{arith}
use native.Mathlib.Nat.{add-sub_cancel_left}
use mathlib.Core.Path.{sym}
use Rattle.store_records.specs.Store.{block_of}
use Rattle.store_records.proofs.Refusals.{Known, known}
use Rattle.store_records.proofs.Readings as laws
use Rattle.store_records.proofs.record_block.Goals as goal

found : (c : goal.In-Ok) → Known c.args.store.now c.args.n
found c = known _ _ (laws.unrefused c.record_at.ensures c.in-Ok.is)

pub returns-in_default : goal.returns-in_default
returns-in_default c = sym (laws.empty_refused _ _ (laws.refused c.record_at.ensures c.in_default.is))

pub overflow_mul-start : goal.overflow_mul-start
overflow_mul-start c = let k = found c in omega arith

pub overflow_add-start : goal.overflow_add-start
overflow_add-start c = let k = found c in omega arith

pub overflow_add-result : goal.overflow_add-result
overflow_add-result c = let k = found c in omega arith

pub slice_bounds-result-end-2 : goal.slice_bounds-result-end-2
slice_bounds-result-end-2 c = let k = found c in omega arith

pub returns : goal.returns
unfolding block_of
returns c = rw (laws.unrefused c.record_at.ensures c.in-Ok.is, add-sub_cancel_left)
