-- `bc6_by_mode::ends` meets its contract: an arm a mode. Assumes nothing.
use mathlib.Core.Path.{refl}
use lib.Dec.{lit<, lit≤}
use Rattle.bc6h_spec.specs.Layout.{transformed}
use Rattle.bc6h_spec.specs.Fields.{mode_in}
use Rattle.bc6_by_mode.proofs.Ending.{moved_done, whole_done, sixteen_done}
use Rattle.bc6_by_mode.proofs.Codes.{mode_1, mode_2, mode_at, last_mode, fewer, two_arm, one_arm}
use Rattle.bc6_by_mode.proofs.ends.Goals as goal

pub returns-in-0 : goal.returns-in-0
unfolding mode_in transformed
returns-in-0 g c = two_arm _ 1 _ (mode_1 _ _ c.in-0.is) (lit≤ tt) (moved_done c.channels_1.ensures refl c.moved_ends.ensures)

pub returns-in-1 : goal.returns-in-1
unfolding mode_in transformed
returns-in-1 g c = two_arm _ 2 _ (mode_2 _ _ c.in-1.is) (lit≤ tt) (moved_done c.channels_2.ensures refl c.moved_ends-in-1.ensures)

pub returns-in-2 : goal.returns-in-2
unfolding mode_in transformed
returns-in-2 g c = two_arm _ 3 _ (mode_at _ _ 3 c.in-2.is refl) (lit≤ tt) (moved_done c.channels_3.ensures refl c.moved_ends-in-2.ensures)

pub returns-in-6 : goal.returns-in-6
unfolding mode_in transformed
returns-in-6 g c = two_arm _ 4 _ (mode_at _ _ 4 c.in-6.is refl) (lit≤ tt) (moved_done c.channels_4.ensures refl c.moved_ends-in-6.ensures)

pub returns-in-10 : goal.returns-in-10
unfolding mode_in transformed
returns-in-10 g c = two_arm _ 5 _ (mode_at _ _ 5 c.in-10.is refl) (lit≤ tt) (moved_done c.channels_5.ensures refl c.moved_ends-in-10.ensures)

pub returns-in-14 : goal.returns-in-14
unfolding mode_in transformed
returns-in-14 g c = two_arm _ 6 _ (mode_at _ _ 6 c.in-14.is refl) (lit≤ tt) (moved_done c.channels_6.ensures refl c.moved_ends-in-14.ensures)

pub returns-in-18 : goal.returns-in-18
unfolding mode_in transformed
returns-in-18 g c = two_arm _ 7 _ (mode_at _ _ 7 c.in-18.is refl) (lit≤ tt) (moved_done c.channels_7.ensures refl c.moved_ends-in-18.ensures)

pub returns-in-22 : goal.returns-in-22
unfolding mode_in transformed
returns-in-22 g c = two_arm _ 8 _ (mode_at _ _ 8 c.in-22.is refl) (lit≤ tt) (moved_done c.channels_8.ensures refl c.moved_ends-in-22.ensures)

pub returns-in-26 : goal.returns-in-26
unfolding mode_in transformed
returns-in-26 g c = two_arm _ 9 _ (mode_at _ _ 9 c.in-26.is refl) (lit≤ tt) (moved_done c.channels_9.ensures refl c.moved_ends-in-26.ensures)

pub returns-in-30 : goal.returns-in-30
unfolding mode_in transformed
returns-in-30 g c = two_arm _ 10 _ (mode_at _ _ 10 c.in-30.is refl) (lit≤ tt) (whole_done c.channels_10.ensures (lit≤ tt) (lit≤ tt) refl c.whole_ends.ensures)

pub returns-in-3 : goal.returns-in-3
unfolding mode_in transformed
returns-in-3 g c = one_arm _ 11 _ (mode_at _ _ 11 c.in-3.is refl) (lit< tt) (fewer (whole_done c.read_pair.ensures (lit≤ tt) (lit≤ tt) refl c.whole_ends-in-3.ensures))

pub returns-in-7 : goal.returns-in-7
unfolding mode_in transformed
returns-in-7 g c = one_arm _ 12 _ (mode_at _ _ 12 c.in-7.is refl) (lit< tt) (fewer (moved_done c.read_pair-in-7.ensures refl c.moved_ends-in-7.ensures))

pub returns-in-11 : goal.returns-in-11
unfolding mode_in transformed
returns-in-11 g c = one_arm _ 13 _ (mode_at _ _ 13 c.in-11.is refl) (lit< tt) (fewer (moved_done c.read_pair-in-11.ensures refl c.moved_ends-in-11.ensures))

pub returns-in_default : goal.returns-in_default
unfolding mode_in transformed
returns-in_default g c = one_arm _ 14 _ (last_mode _ _ c.in_default.in_default-own.rest c.requires) (lit< tt) (sixteen_done _ c.ends_14.ensures)
