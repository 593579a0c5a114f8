use native.Mathlib.Omega.{arith}
use Prim.Native.Nat.{◌*◌, ◌<◌}
use Rattle.probe_places.specs.Places.{place_size, place_limit}
use Rattle.knotpasture.proofs.ProbeWords.{placed_offset_lem, refused_offset, inside}
use Rattle.knotpasture.proofs.probes.knot_placed_record_block.Goals as goal

pub returns-in_default : goal.returns-in_default
returns-in_default c = refused_offset c.placed_record_at.ensures c.in_default.is

pub overflow_mul-result : goal.overflow_mul-result
overflow_mul-result c =
    let within : c.args.n * place_size < place_limit = inside c.placed_record_at.ensures c.in-Record.is in
    record { fits = omega (arith, within) }

pub overflow_add-result : goal.overflow_add-result
overflow_add-result c =
    let within : c.args.n * place_size < place_limit = inside c.placed_record_at.ensures c.in-Record.is in
    record { fits = omega (arith, within) }

pub returns : goal.returns
returns c = placed_offset_lem c.placed_record_at.ensures c.in-Record.is
