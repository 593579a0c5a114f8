use native.Mathlib.Omega.{arith}
use Prim.Native.Nat.{◌*◌, ◌<◌}
use Rattle.store_records.specs.Store.{record_size, store_limit}
use Rattle.knotpasture.proofs.StoreWords.{record_offset, refused_offset, inside}
use Rattle.knotpasture.proofs.store.knot_record_block.Goals as goal

pub returns-in_default : goal.returns-in_default
returns-in_default c = refused_offset c.record_at.ensures c.in_default.is

pub overflow_mul-result : goal.overflow_mul-result
overflow_mul-result c =
    let within : c.args.n * record_size < store_limit = inside c.record_at.ensures c.in-Ok.is in
    record { fits = omega (arith, within) }

pub overflow_add-result : goal.overflow_add-result
overflow_add-result c =
    let within : c.args.n * record_size < store_limit = inside c.record_at.ensures c.in-Ok.is in
    record { fits = omega (arith, within) }

pub returns : goal.returns
returns c = record_offset c.record_at.ensures c.in-Ok.is
