use mathlib.Core.Path.{◌≡◌}
use Prim.Native.Nat.{◌≤◌}
use Rattle.laws.specs.First.{first_below}
use Rattle.store_faulty.specs.Faulty.{placed_form}
use Rattle.text_places_audit.specs.Copies.{repeats_in}
use Rattle.text_places_audit.proofs.first_of.Given as goal

abbrev pub invariant-loop-earlier : goal.invariant-loop-earlier
invariant-loop-earlier l = (l.earlier ≤ l.n) × (first_below (repeats_in placed_form l.store l.n) l.earlier ≡ l.earlier)
