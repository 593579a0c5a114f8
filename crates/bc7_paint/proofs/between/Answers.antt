-- `bc7_paint::between` meets its contract. Assumes nothing.
use borrow.Author.Rules.{rules}
use mathlib.Core.Path.{refl}
use Prim.Native.Nat.{◌+◌, ◌-◌, ◌*◌, ◌≤◌}
use native.Mathlib.Omega.{arith}
use Rattle.bc7_spec.specs.Bytes.{between}
use Rattle.bc7_paint.proofs.Shading.{parts_fit}
use Rattle.bc7_paint.proofs.between.Goals as goal

pub overflow_sub-result : goal.overflow_sub-result
unfolding between
overflow_sub-result c = search rules

pub overflow_mul-result : goal.overflow_mul-result
unfolding between
overflow_mul-result c =
    let both : c.args.a * (64 - c.args.w) + c.args.b * c.args.w ≤ 16320 = parts_fit c.args.a c.args.b c.args.w c.requires.0 c.requires.1 c.requires.2 in
    omega (arith, both)

pub overflow_mul-result-2 : goal.overflow_mul-result-2
unfolding between
overflow_mul-result-2 c =
    let both : c.args.a * (64 - c.args.w) + c.args.b * c.args.w ≤ 16320 = parts_fit c.args.a c.args.b c.args.w c.requires.0 c.requires.1 c.requires.2 in
    omega (arith, both)

pub overflow_add-result : goal.overflow_add-result
unfolding between
overflow_add-result c =
    let both : c.args.a * (64 - c.args.w) + c.args.b * c.args.w ≤ 16320 = parts_fit c.args.a c.args.b c.args.w c.requires.0 c.requires.1 c.requires.2 in
    omega (arith, both)

pub overflow_add-result-2 : goal.overflow_add-result-2
unfolding between
overflow_add-result-2 c =
    let both : c.args.a * (64 - c.args.w) + c.args.b * c.args.w ≤ 16320 = parts_fit c.args.a c.args.b c.args.w c.requires.0 c.requires.1 c.requires.2 in
    omega (arith, both)

pub overflow_cast-result : goal.overflow_cast-result
unfolding between
overflow_cast-result c =
    let both : c.args.a * (64 - c.args.w) + c.args.b * c.args.w ≤ 16320 = parts_fit c.args.a c.args.b c.args.w c.requires.0 c.requires.1 c.requires.2 in
    omega (arith, both)

pub returns : goal.returns
unfolding between
returns c = refl
