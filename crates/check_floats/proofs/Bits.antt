-- What is written of a float: its own bits where it is a number. Assumes nothing.
use mathlib.Core.Path.{◌≡◌, refl, sym, ap, subst}
use mathlib.Core.Bool.{true, false, not}
use lib.Dec.{T}
use lib.Ieee.{Float, nan, inf, fin, binary32, to_bits, is_nan, ne}
use lib.Ieee.Compare.{differs_from_itself}
use Rattle.check_floats.specs.Shown.{float_bits}

-- a float that equals itself is a number
pub itself : (x : Float) → ne x x ≡ false → T (not (is_nan x))
unfolding is_nan ne
itself nan e = absurd (true_false e)
  where
    true_false : true ≡ false → ⊥
    true_false e = subst T e tt
itself (inf s) e = tt
itself (fin s m d) e = tt

pub shown_none : (x : Float) → ne x x ≡ true → 0x7FC00000 ≡ float_bits x
unfolding float_bits
shown_none x e = sym (ap float_bits (differs_from_itself x (subst T (sym e) tt)))

pub shown_number : (x : Float) → T (not (is_nan x)) → to_bits binary32 x ≡ float_bits x
unfolding float_bits is_nan
shown_number nan t = absurd t
shown_number (inf s) t = refl
shown_number (fin s m e) t = refl
