use Rattle.store_clean.proofs.Linking.{Passed}
use Rattle.store_clean.proofs.repeated_along.Given as goal

abbrev pub invariant-loop-at : goal.invariant-loop-at
invariant-loop-at l = Passed l.store l.n l.at

abbrev pub decreases-loop-at : goal.decreases-loop-at
decreases-loop-at l = l.at
