use Rattle.std.proofs.Common.{◌≡◌, ◌-◌, ◌*◌, ◌≤◌, ◌++◌, length, drop}
use Rattle.laws.specs.Made.{made, join}
use Rattle.probe_places.specs.Places.{place_size}
use Rattle.probe_build.specs.Building.{built_record}
use Rattle.probe_build.proofs.write_records.Given as goal

abbrev pub invariant-loop-n : goal.invariant-loop-n
invariant-loop-n l = (l.n ≤ l.count) × (l.out ≡ join (made (built_record l.blocks l.format l.edge l.first) l.n) ++ drop (place_size * l.n) l.initial.out) × (length l.out ≡ length l.initial.out)
