-- `dds::head_of` meets its contract: one law for each return. Assumes nothing.
use mathlib.Core.Path.{◌≡◌, sym, ◌∙◌}
use mathlib.Core.Bool.{true}
use native.Mathlib.Omega.{arith}
use Rattle.dds.specs.Dds.{header_taken}
use Rattle.dds.proofs.Headers.{ours_means, ours_dxgi}
use Rattle.dds.proofs.Reading.{told_foreign, told_size, told_done}
use Rattle.dds.proofs.head_of.Goals as goal

pub returns-then-not-header_ours : goal.returns-then-not-header_ours
returns-then-not-header_ours c = told_foreign _ _ _ (sym c.header_ours.ensures ∙ c.if-not-header_ours.true) c.refused.ensures

pub u32_at-height-requires : goal.u32_at-height-requires
u32_at-height-requires c =
    let ours : (let a = c.args in header_taken a.first a.most a.file.now ≡ true) = sym c.header_ours.ensures ∙ c.if-not-header_ours.false in
    let h = ours_means _ _ _ ours in omega arith

pub u32_at-width-requires : goal.u32_at-width-requires
u32_at-width-requires c =
    let ours : (let a = c.args in header_taken a.first a.most a.file.now ≡ true) = sym c.header_ours.ensures ∙ c.if-not-header_ours.false in
    let h = ours_means _ _ _ ours in omega arith

pub returns-then-not-size_ours : goal.returns-then-not-size_ours
returns-then-not-size_ours c =
    let ours : (let a = c.args in header_taken a.first a.most a.file.now ≡ true) = sym c.header_ours.ensures ∙ c.if-not-header_ours.false in
    told_size _ _ _ c.u32_at-width.ensures c.u32_at-height.ensures ours
    (sym c.size_ours.ensures ∙ c.if-not-size_ours.true) c.refused-then-not-size_ours.ensures

pub u32_at-requires : goal.u32_at-requires
u32_at-requires c =
    let ours : (let a = c.args in header_taken a.first a.most a.file.now ≡ true) = sym c.header_ours.ensures ∙ c.if-not-header_ours.false in
    let h = ours_means _ _ _ ours in omega arith

pub overflow_sub-result : goal.overflow_sub-result
overflow_sub-result c =
    let ours : (let a = c.args in header_taken a.first a.most a.file.now ≡ true) = sym c.header_ours.ensures ∙ c.if-not-header_ours.false in
    let d = ours_dxgi _ _ _ (ours_means _ _ _ ours) in omega (arith, c.u32_at.ensures)

pub overflow_cast-result : goal.overflow_cast-result
overflow_cast-result c =
    let ours : (let a = c.args in header_taken a.first a.most a.file.now ≡ true) = sym c.header_ours.ensures ∙ c.if-not-header_ours.false in
    let d = ours_dxgi _ _ _ (ours_means _ _ _ ours) in record { fits = omega (arith, c.u32_at.ensures) }

pub returns : goal.returns
returns c =
    let ours : (let a = c.args in header_taken a.first a.most a.file.now ≡ true) = sym c.header_ours.ensures ∙ c.if-not-header_ours.false in
    told_done _ _ _ c.u32_at-width.ensures c.u32_at-height.ensures ours
    (sym c.size_ours.ensures ∙ c.if-not-size_ours.false) c.u32_at.ensures
