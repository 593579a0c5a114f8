-- `bc6_fields::fields_of` meets its contract. Assumes nothing.
use Prim.Native.Nat.{◌≤◌}
use Rattle.bc6_fields.proofs.Whole.{in_modes, reserved, unreserved}
use Rattle.bc6_fields.proofs.Endpoints.{partition_place, ends_placed}
use Rattle.bc6_fields.proofs.fields_of.Goals as goal

pub returns-then-mode-eq0 : goal.returns-then-mode-eq0
returns-then-mode-eq0 c = reserved _ _ c.new-stream.ensures c.extract_mode-mode.ensures c.if-mode-eq0.true c.none.ensures

pub read_places-places-requires : goal.read_places-places-requires
read_places-places-requires c =
    let modes : (1 ≤ c.extract_mode-mode.result) × (c.extract_mode-mode.result ≤ 14) = in_modes _ _ c.extract_mode-mode.ensures c.if-mode-eq0.false in
    modes

pub fields_from-requires : goal.fields_from-requires
fields_from-requires c =
    let modes : (1 ≤ c.extract_mode-mode.result) × (c.extract_mode-mode.result ≤ 14) = in_modes _ _ c.extract_mode-mode.ensures c.if-mode-eq0.false in
    let places = c.read_places-places.ensures in
    (modes, ends_placed _ _ places c.endpoints_of.ensures, λ _. partition_place _ _ places)

pub returns : goal.returns
returns c = unreserved _ _ c.new-stream.ensures c.extract_mode-mode.ensures c.if-mode-eq0.false c.fields_from.ensures
