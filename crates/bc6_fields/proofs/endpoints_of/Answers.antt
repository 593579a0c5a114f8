-- `bc6_fields::endpoints_of` meets its contract. Assumes nothing.
use mathlib.Core.Path.{◌∙◌, ap}
use mathlib.Core.List.{List}
use Prim.Native.Nat.{ℕ}
use lib.ListN.{get_or}
use lib.Seq.{get_or-take}
use Rattle.laws.proofs.Rows.{made_each}
use Rattle.bc6_fields.specs.Places.{entry}
use Rattle.bc6_fields.proofs.endpoints_of.Goals as goal

pub returns : goal.returns
unfolding entry
returns c =
    made_each _ _ 12 c.copy_from_slice.ensures.len
    (λ k h. ap (λ (l : List ℕ). get_or l k 0) c.copy_from_slice.ensures.after ∙ get_or-take 12 c.args.places k 0 h)
