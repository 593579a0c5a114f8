-- What a wish that was taken says. Assumes nothing.
use mathlib.Core.Path.{◌≡◌, sym, ap, ◌∙◌}
use Prim.Native.Nat.{◌≤◌}
use native.Mathlib.Omega.{arith}
use lib.Dec.{lit≤}
use Rattle.run_export.specs.declared.Kind.{Kind}
use Rattle.run_export.specs.declared.Kind.TheVariants.{Pfm, Exr}
use Rattle.run_export.specs.declared.Wish.{Wish}
use Rattle.run_export.specs.Export.{WishOurs}
use Rattle.run_export.specs.Wishes.{kind_number}

kind_most : (kind : Kind) → kind_number kind ≤ 1
unfolding kind_number
kind_most Pfm = lit≤ tt
kind_most Exr = lit≤ tt

pub ours_of : (w : Wish) → WishOurs (kind_number w.kind) w.format w.width w.height
ours_of w = record { named = kind_most w.kind; known = w.known; size = w.size }

pub pfm_is : {kind : Kind} → kind ≡ Pfm → kind_number kind ≡ 0
unfolding kind_number
pfm_is e = ap kind_number e

pub exr_is : {kind : Kind} → kind ≡ Exr → kind_number kind ≡ 0 → ⊥
unfolding kind_number
exr_is e z = let one : 1 ≡ 0 = sym (ap kind_number e) ∙ z in absurd (omega (arith, one))
