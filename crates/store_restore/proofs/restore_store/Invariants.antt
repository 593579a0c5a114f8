use mathlib.Core.Path.{◌≡◌}
use Prim.Native.Nat.{◌-◌}
use lib.ListN.{length}
use Rattle.bcn_spec.specs.Answers.{done}
use Rattle.store_restore.specs.Restore.{restore_refusal}
use Rattle.store_restore.proofs.Restoring.{Back}
use Rattle.store_restore.proofs.restore_store.Given as goal

abbrev pub invariant-loop-n : goal.invariant-loop-n
invariant-loop-n l = Back l.cleaned l.receipt l.initial.out l.out l.n l.used × (restore_refusal l.cleaned l.receipt (length l.initial.out) ≡ done)

abbrev pub decreases-loop-n : goal.decreases-loop-n
decreases-loop-n l = l.total - l.n
