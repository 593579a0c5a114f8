-- `exr::exr_length` meets its contract. Assumes nothing.
use mathlib.Core.Path.{◌≡◌, sym, ◌∙◌}
use mathlib.Core.Bool.{true}
use native.Mathlib.Omega.{arith}
use Rattle.pfm.specs.File.{size_writable}
use Rattle.exr.proofs.Calls.{lines_small, length_none, length_some}
use Rattle.exr.proofs.exr_length.Goals as goal

pub returns-then-not-size_even : goal.returns-then-not-size_even
returns-then-not-size_even c = length_none _ _ (sym c.size_even.ensures ∙ c.if-not-size_even.true)

pub overflow_mul-result : goal.overflow_mul-result
overflow_mul-result c =
    let even : size_writable c.args.width c.args.height ≡ true = sym c.size_even.ensures ∙ c.if-not-size_even.false in
    let k = lines_small _ _ even in record { fits = omega arith }

pub overflow_add-result : goal.overflow_add-result
overflow_add-result c =
    let even : size_writable c.args.width c.args.height ≡ true = sym c.size_even.ensures ∙ c.if-not-size_even.false in
    let k = lines_small _ _ even in record { fits = omega arith }

pub overflow_mul-result-2 : goal.overflow_mul-result-2
overflow_mul-result-2 c =
    let even : size_writable c.args.width c.args.height ≡ true = sym c.size_even.ensures ∙ c.if-not-size_even.false in
    let k = lines_small _ _ even in record { fits = omega (arith, k.all) }

pub overflow_add-result-2 : goal.overflow_add-result-2
overflow_add-result-2 c =
    let even : size_writable c.args.width c.args.height ≡ true = sym c.size_even.ensures ∙ c.if-not-size_even.false in
    let k = lines_small _ _ even in record { fits = omega (arith, k.all, k.front, c.front_length.ensures) }

pub returns : goal.returns
returns c =
    let even : size_writable c.args.width c.args.height ≡ true = sym c.size_even.ensures ∙ c.if-not-size_even.false in
    length_some _ _ even c.front_length.ensures
