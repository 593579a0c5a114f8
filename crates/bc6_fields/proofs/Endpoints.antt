-- The endpoints' values and the partition, from the places of a row. Assumes nothing.
use mathlib.Core.Path.{◌≡◌, ◌∙◌, ap}
use mathlib.Core.List.{List}
use Prim.Native.Nat.{ℕ, ◌<◌}
use native.Mathlib.Omega.{arith}
use lib.Dec.{lit<}
use lib.ListN.{get_or}
use Rattle.laws.specs.Made.{made}
use Rattle.laws.proofs.Rows.{made-same, get_d_made}
use Rattle.bc6h_spec.specs.Layout.{row}
use Rattle.bc6h_spec.specs.Fields.{gathered}
use Rattle.bc6_fields.specs.Places.{entry}

module _ (m n : ℕ) {places : List ℕ} (ep : places ≡ made (gathered (row m) n) 14) where
  at_place : (p : ℕ) → p < 14 → get_or places p 0 ≡ gathered (row m) n p
  at_place p h = ap (λ (l : List ℕ). get_or l p 0) ep ∙ get_d_made (gathered (row m) n) 14 p 0 h

  pub partition_place : get_or places 13 0 ≡ gathered (row m) n 13
  partition_place = at_place 13 (lit< tt)

  pub ends_placed : {ends : List ℕ} → ends ≡ made (entry places) 12 → ends ≡ made (gathered (row m) n) 12
  unfolding entry
  ends_placed e = e ∙ made-same (entry places) (gathered (row m) n) 12 (λ k h. at_place k (omega arith))
