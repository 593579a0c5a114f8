use native.Mathlib.Omega.{arith}
use Rattle.probe_places.proofs.Readings.{Known, known_of, read_refused, read_record}
use Rattle.probe_places.proofs.placed_record_at.Goals as goal

pub returns-then-refusal-ne-DONE : goal.returns-then-refusal-ne-DONE
returns-then-refusal-ne-DONE c = read_refused _ _ c.placed_refusal-refusal.ensures c.if-refusal-ne-DONE.true

pub tile_at-requires : goal.tile_at-requires
tile_at-requires c =
    let found : Known c.args.store.now c.args.n = known_of c.placed_refusal-refusal.ensures c.if-refusal-ne-DONE.false in
    found.below

pub overflow_mul-result : goal.overflow_mul-result
overflow_mul-result c =
    let found : Known c.args.store.now c.args.n = known_of c.placed_refusal-refusal.ensures c.if-refusal-ne-DONE.false in
    let k = found in record { fits = omega arith }

pub overflow_add-result : goal.overflow_add-result
overflow_add-result c =
    let found : Known c.args.store.now c.args.n = known_of c.placed_refusal-refusal.ensures c.if-refusal-ne-DONE.false in
    let k = found in record { fits = omega arith }

pub bounds-store-n : goal.bounds-store-n
bounds-store-n c =
    let found : Known c.args.store.now c.args.n = known_of c.placed_refusal-refusal.ensures c.if-refusal-ne-DONE.false in
    let k = found in omega arith

pub place_at-requires : goal.place_at-requires
place_at-requires c =
    let found : Known c.args.store.now c.args.n = known_of c.placed_refusal-refusal.ensures c.if-refusal-ne-DONE.false in
    found.below

pub returns : goal.returns
returns c = read_record _ _ c.placed_refusal-refusal.ensures c.if-refusal-ne-DONE.false c.tile_at.ensures c.place_at.ensures
