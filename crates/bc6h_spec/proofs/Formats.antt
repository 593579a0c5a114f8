-- The two formats and their numbers. Assumes nothing.
use mathlib.Core.Path.{◌≡◌, refl}
use mathlib.Core.Bool.{Bool, true, false}
use Prim.Native.Nat.{ℕ, zero, suc, ◌≤◌}
use native.Mathlib.Omega.{arith}
use lib.Dec.{lit≤}
use Rattle.bc6h_spec.specs.Picture.{is_signed}
use Rattle.bc6h_spec.specs.Block.{format_number}

pub number_le : (signed : Bool) → format_number signed ≤ 1
number_le true = lit≤ tt
number_le false = lit≤ tt

pub signed_again : (signed : Bool) → is_signed (format_number signed) ≡ signed
signed_again true = refl
signed_again false = refl

pub number_again : (format : ℕ) → format ≤ 1 → format_number (is_signed format) ≡ format
number_again zero h = refl
number_again (suc zero) h = refl
number_again (suc (suc n)) h = absurd (omega arith)
