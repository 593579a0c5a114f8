-- Pixel 0 lies in region 0, and the fix-up pixel of region 1 in region 1. Assumes nothing.
use mathlib.Core.Path.{◌≡◌}
use mathlib.Core.Bool.{Bool, true, false}
use Prim.Native.Nat.{ℕ, zero, suc, ◌/◌, ◌^◌, ◌<◌}
use native.Mathlib.Nat.{mod-lt}
use native.Mathlib.Omega.{arith}
use lib.Dec.{eqb, eqb-suc-zero, lit≤}
use Rattle.laws.specs.Pick.{pick}
use Rattle.laws.specs.Bit.{bit}
use Rattle.laws.proofs.Tests.{cases}
use Rattle.bc6h_spec.specs.Layout.{two_regions}
use Rattle.bcn_spec.specs.Regions.{map_of, fixup_of}
use Rattle.bc6h_spec.specs.Regions.{region_of}
use Rattle.bcn_spec.proofs.Partitions.{Rule, rule}
use Rattle.store_copies.specs.Wide.{regions}

-- the fix-up pixel of region r
unfoldable pub fix_of : ℕ → ℕ → ℕ
fix_of part r = pick (eqb r 0) 0 (fixup_of part)

pub region_known : (m part k : ℕ) → region_of m part k < regions m
unfolding region_of
region_known m part k = cases (two_regions m) (λ e. rw e (mod-lt (map_of part / 2 ^ k) (lit≤ tt))) (λ e. rw e (lit≤ tt))

pub record Fix (m part r : ℕ) : Type 0 where
  pub fix_fits : fix_of part r < 16
  pub fix_in : region_of m part (fix_of part r) ≡ r

pub fix_known : (m part r : ℕ) → part < 32 → r < regions m → Fix m part r
unfolding region_of fix_of
fix_known m part r h l = record { fix_fits = fits r; fix_in = go (two_regions m) r l }
  where
    known : Rule part
    known = rule part h

    fits : (r : ℕ) → pick (eqb r 0) 0 (fixup_of part) < 16
    fits zero = lit≤ tt
    fits (suc r) = rw (eqb-suc-zero r) known.fixup_fits

    go : (b : Bool) (r : ℕ) → r < pick b 2 1 → pick b (bit (map_of part) (pick (eqb r 0) 0 (fixup_of part))) 0 ≡ r
    go true zero l = known.first
    go true (suc zero) l = known.fixup_in
    go true (suc (suc r)) l = absurd (omega arith)
    go false r l = omega arith
