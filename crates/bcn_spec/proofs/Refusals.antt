-- Two refusals of one number are one refusal. Assumes nothing.
use mathlib.Core.Path.{◌≡◌, refl, sym, ap, ◌∙◌}
use mathlib.Core.List.{[], ◌∷◌}
use Prim.Native.Nat.{ℕ, suc, ◌-◌}
use lib.ListN.{get_or}
use Rattle.bcn_spec.specs.declared.Refusal.{Refusal}
use Rattle.bcn_spec.specs.declared.Refusal.TheVariants as why
use Rattle.bcn_spec.specs.Refusals.{refusal_number}

-- the refusal of a number; any other number has the first
of_number : ℕ → Refusal
of_number n = get_or (why.BadFormat ∷ why.BadFormat ∷ why.BlockNot16 ∷ why.ShortOutput ∷ why.ReservedMode ∷ why.LongStore ∷ why.UnevenStore ∷ why.SpareByte ∷ why.NoRecord ∷ why.UnevenBlocks ∷ why.InvalidFields ∷ why.BadBuffer ∷ why.ReservedBlock ∷ why.ForeignHeader ∷ why.BadSize ∷ why.BlocksMisfit ∷ why.UnevenSize ∷ why.BadPlace ∷ why.PlacedRecord ∷ why.BadEdge ∷ why.UnplacedRecord ∷ why.PastEdge ∷ why.TakenPlace ∷ why.EmptyPlace ∷ why.NoPixel ∷ why.BadReceipt ∷ []) n why.BadFormat

back : (r : Refusal) → of_number (refusal_number r) ≡ r
unfolding of_number
back why.BadFormat = refl
back why.BlockNot16 = refl
back why.ShortOutput = refl
back why.ReservedMode = refl
back why.LongStore = refl
back why.UnevenStore = refl
back why.SpareByte = refl
back why.NoRecord = refl
back why.UnevenBlocks = refl
back why.InvalidFields = refl
back why.BadBuffer = refl
back why.ReservedBlock = refl
back why.ForeignHeader = refl
back why.BadSize = refl
back why.BlocksMisfit = refl
back why.UnevenSize = refl
back why.BadPlace = refl
back why.PlacedRecord = refl
back why.BadEdge = refl
back why.UnplacedRecord = refl
back why.PastEdge = refl
back why.TakenPlace = refl
back why.EmptyPlace = refl
back why.NoPixel = refl
back why.BadReceipt = refl

pub same_refusal : {a b : Refusal} → refusal_number a ≡ refusal_number b → a ≡ b
same_refusal {a} {b} e = sym (back a) ∙ ap of_number e ∙ back b

-- no refusal has the number of done
pub positive : (r : Refusal) → refusal_number r ≡ suc (refusal_number r - 1)
positive why.BadFormat = refl
positive why.BlockNot16 = refl
positive why.ShortOutput = refl
positive why.ReservedMode = refl
positive why.LongStore = refl
positive why.UnevenStore = refl
positive why.SpareByte = refl
positive why.NoRecord = refl
positive why.UnevenBlocks = refl
positive why.InvalidFields = refl
positive why.BadBuffer = refl
positive why.ReservedBlock = refl
positive why.ForeignHeader = refl
positive why.BadSize = refl
positive why.BlocksMisfit = refl
positive why.UnevenSize = refl
positive why.BadPlace = refl
positive why.PlacedRecord = refl
positive why.BadEdge = refl
positive why.UnplacedRecord = refl
positive why.PastEdge = refl
positive why.TakenPlace = refl
positive why.EmptyPlace = refl
positive why.NoPixel = refl
positive why.BadReceipt = refl
