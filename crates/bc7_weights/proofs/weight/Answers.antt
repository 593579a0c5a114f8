-- `bc7_weights::weight` meets its contract. Assumes nothing.
use mathlib.Core.Path.{◌≡◌, ◌∙◌, sym, ap, subst}
use Prim.Native.Nat.{ℕ, ◌+◌, ◌*◌, ◌/◌, ◌<◌}
use native.Mathlib.Omega.{arith}
use Rattle.bc7_spec.specs.Bytes.{weight_of}
use Rattle.bc7_weights.proofs.Weighing.{Right, right}
use Rattle.bc7_weights.proofs.weight.Goals as goal

pub overflow_mul-result : goal.overflow_mul-result
overflow_mul-result c =
    let known : Right c.args.bits c.args.index = right _ _ c.requires.0 c.requires.1 c.requires.2 in
    let short : c.factor.result * c.args.index + 4 < 600 = subst (λ (f : ℕ). f * c.args.index + 4 < 600) (sym c.factor.ensures) known.short in
    omega (arith, short)

pub overflow_add-result : goal.overflow_add-result
overflow_add-result c =
    let known : Right c.args.bits c.args.index = right _ _ c.requires.0 c.requires.1 c.requires.2 in
    let short : c.factor.result * c.args.index + 4 < 600 = subst (λ (f : ℕ). f * c.args.index + 4 < 600) (sym c.factor.ensures) known.short in
    omega (arith, short)

pub returns : goal.returns
returns c =
    let known : Right c.args.bits c.args.index = right _ _ c.requires.0 c.requires.1 c.requires.2 in
    let is : (c.factor.result * c.args.index + 4) / 8 ≡ weight_of c.args.bits c.args.index = ap (λ (f : ℕ). (f * c.args.index + 4) / 8) c.factor.ensures ∙ known.is in
    (is, subst (λ (w : ℕ). w < 65) (sym is) known.light)
