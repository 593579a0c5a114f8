use native.Mathlib.Omega.{arith}
use native.Mathlib.Nat.{add-sub_cancel_left}
use mathlib.Core.Path.{sym, ◌∙◌}
use Rattle.probe_places.specs.Places.{block_in}
use Rattle.probe_places.proofs.Readings.{Known, known_of, part_of, empty_refused}
use Rattle.probe_places.proofs.placed_record_block.Goals as goal

pub returns-then-placed_refusal-ne-DONE : goal.returns-then-placed_refusal-ne-DONE
unfolding block_in
returns-then-placed_refusal-ne-DONE c = sym (empty_refused _ _ (λ u. c.if-placed_refusal-ne-DONE.true (c.placed_refusal.ensures ∙ u)))

pub overflow_mul-start : goal.overflow_mul-start
unfolding block_in
overflow_mul-start c =
    let found : Known c.args.store.now c.args.n = known_of c.placed_refusal.ensures c.if-placed_refusal-ne-DONE.false in
    let k = found in omega arith

pub overflow_add-start : goal.overflow_add-start
unfolding block_in
overflow_add-start c =
    let found : Known c.args.store.now c.args.n = known_of c.placed_refusal.ensures c.if-placed_refusal-ne-DONE.false in
    let k = found in omega arith

pub overflow_add-end : goal.overflow_add-end
unfolding block_in
overflow_add-end c =
    let found : Known c.args.store.now c.args.n = known_of c.placed_refusal.ensures c.if-placed_refusal-ne-DONE.false in
    let k = found in omega arith

pub slice_bounds-result-end-2 : goal.slice_bounds-result-end-2
unfolding block_in
slice_bounds-result-end-2 c =
    let found : Known c.args.store.now c.args.n = known_of c.placed_refusal.ensures c.if-placed_refusal-ne-DONE.false in
    let k = found in omega arith

pub returns : goal.returns
unfolding block_in
returns c = rw add-sub_cancel_left (part_of _ _ c.placed_refusal.ensures c.if-placed_refusal-ne-DONE.false)
