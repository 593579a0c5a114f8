-- `bc7_ends::widened` meets its contract. Assumes nothing.
use mathlib.Core.Path.{◌≡◌, sym, subst}
use Prim.Native.Nat.{ℕ, ◌+◌, ◌-◌, ◌*◌, ◌/◌, ◌%◌, ◌^◌, ◌<◌}
use native.Mathlib.Omega.{arith}
use Rattle.bc7_spec.specs.Bytes.{widened}
use Rattle.bc7_ends.proofs.Widening.{widened_byte, widened_shifts}
use Rattle.bc7_ends.proofs.widened.Goals as goal

pub overflow_add-result : goal.overflow_add-result
overflow_add-result c =
    let is : (c.args.v * 2 ^ (8 - c.args.n)) % 2 ^ 32 + c.args.v / 2 ^ (2 * c.args.n - 8) ≡ widened c.args.n c.args.v = widened_shifts _ _ c.requires.0 c.requires.1 c.requires.2 in
    let byte : (c.args.v * 2 ^ (8 - c.args.n)) % 2 ^ 32 + c.args.v / 2 ^ (2 * c.args.n - 8) < 256 = subst (λ (x : ℕ). x < 256) (sym is) (widened_byte _ _ c.requires.0 c.requires.1 c.requires.2) in
    omega (arith, byte)

pub returns : goal.returns
returns c =
    let is : (c.args.v * 2 ^ (8 - c.args.n)) % 2 ^ 32 + c.args.v / 2 ^ (2 * c.args.n - 8) ≡ widened c.args.n c.args.v = widened_shifts _ _ c.requires.0 c.requires.1 c.requires.2 in
    let byte : (c.args.v * 2 ^ (8 - c.args.n)) % 2 ^ 32 + c.args.v / 2 ^ (2 * c.args.n - 8) < 256 = subst (λ (x : ℕ). x < 256) (sym is) (widened_byte _ _ c.requires.0 c.requires.1 c.requires.2) in
    (is, byte)
