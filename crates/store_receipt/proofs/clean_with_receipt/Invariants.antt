use mathlib.Core.Path.{◌≡◌}
use Prim.Native.Nat.{◌-◌}
use lib.ListN.{length}
use Rattle.bcn_spec.specs.Answers.{done}
use Rattle.store_records.specs.Store.{records_in}
use Rattle.store_clean.specs.Links.{Linked}
use Rattle.store_receipt.specs.Receipt.{receipt_refusal}
use Rattle.store_receipt.proofs.Telling.{Telling}
use Rattle.store_receipt.proofs.clean_with_receipt.Given as goal

abbrev pub invariant-loop-n : goal.invariant-loop-n
invariant-loop-n l = Telling l.store l.initial.out l.initial.receipt l.out l.receipt l.firsts l.n l.kept × (receipt_refusal (length l.store) (length l.initial.out) (length l.initial.receipt) ≡ done) × Linked l.store (records_in l.store) l.links

abbrev pub decreases-loop-n : goal.decreases-loop-n
decreases-loop-n l = l.count - l.n
