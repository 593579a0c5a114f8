-- `bc6_numbers::endpoints_from` meets its contract: the numbers 2 to 13. Assumes nothing.
use mathlib.Core.Path.{◌∙◌, ap}
use mathlib.Core.List.{List}
use Prim.Native.Nat.{ℕ}
use native.Mathlib.Nat.{add_comm}
use lib.ListN.{get_or, drop}
use lib.Seq.{get_or-take, get_or-drop}
use Rattle.laws.proofs.Rows.{made_each}
use Rattle.bc6_numbers.specs.Numbers.{endpoint_from}
use Rattle.bc6_numbers.proofs.endpoints_from.Goals as goal

pub returns : goal.returns
unfolding endpoint_from
returns c =
    let numbers = c.args.numbers.now in
    made_each _ _ 12 c.copy_from_slice.ensures.len
    (λ k h. ap (λ (l : List ℕ). get_or l k 0) c.copy_from_slice.ensures.after ∙ get_or-take 12 (drop 2 numbers) k 0 h ∙ get_or-drop 2 numbers k 0
    ∙ ap (λ (x : ℕ). get_or numbers x 0) (add_comm 2 k))
