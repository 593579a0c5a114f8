-- `bc6_mode::modes_of` meets its contract: a word for each two low bits. Assumes nothing.
use mathlib.Core.Path.{◌≡◌}
use native.Mathlib.Nat.{le_antisymm}
use native.Mathlib.Omega.{arith}
use Rattle.laws.proofs.Arms.{past}
use Rattle.bc6h_spec.specs.Fields.{mode_in}
use Rattle.bc6_mode.proofs.Mode.{eight_modes}
use Rattle.bc6_mode.proofs.modes_of.Goals as goal

-- in the last arm
last : (c : goal.In_default) → c.args.low2 ≡ 3
last c = le_antisymm (let h = c.requires in omega arith) (past 0 c.args.low2 3 (omega arith) c.in_default.in_default-own.rest)

pub returns-in-0 : goal.returns-in-0
unfolding mode_in
returns-in-0 c = eight_modes 0b00 _ c.in-0.is tt

pub returns-in-1 : goal.returns-in-1
unfolding mode_in
returns-in-1 c = eight_modes 0b01 _ c.in-1.is tt

pub returns-in-2 : goal.returns-in-2
unfolding mode_in
returns-in-2 c = eight_modes 0b10 _ c.in-2.is tt

pub returns-in_default : goal.returns-in_default
unfolding mode_in
returns-in_default c = eight_modes 0b11 _ (last c) tt
