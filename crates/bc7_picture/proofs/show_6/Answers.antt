-- `bc7_picture::show_6` meets its contract. Assumes nothing.
use mathlib.Core.Path.{refl, sym, ap}
use mathlib.Core.List.{[], ◌∷◌}
use Prim.Native.Nat.{ℕ, ◌/◌, ◌^◌}
use native.Mathlib.Nat.{mod-one}
use lib.Dec.{lit<, lit≤}
use Rattle.laws.specs.Bit.{bit}
use Rattle.laws.specs.Packed.{before, unpacked}
use Rattle.bcn_util.specs.Stream.{number}
use Rattle.bc7_spec.specs.Modes.{modes, mode_at}
use Rattle.bc7_spec.specs.Layout.{run_bits, run_in, first_run}
use Rattle.bc7_spec.specs.Fields.{partition_in, rotation_in, pbit_in}
use Rattle.bc7_picture.proofs.Marks.{one_rising, marked_one}
use Rattle.bc7_picture.proofs.Parts.{Ends, Set}
use Rattle.bc7_picture.proofs.Classes.{one_set}
use Rattle.bc7_picture.proofs.Paintings.{Painting, painted}
use Rattle.bc7_picture.proofs.show_6.Goals as goal

pub run-requires : goal.run-requires
run-requires c = (lit< tt, lit≤ tt)

pub ends_in-ends-requires : goal.ends_in-ends-requires
ends_in-ends-requires c = (lit< tt, lit≤ tt, record { p_bit = lit≤ tt; low = lit≤ tt; high = lit≤ tt; fits = lit≤ tt }, record { p_bit = lit≤ tt; low = lit≤ tt; high = lit≤ tt; fits = lit≤ tt })

pub weigh_one-weights-requires : goal.weigh_one-weights-requires
weigh_one-weights-requires c = (lit< tt, lit≤ tt, lit≤ tt)

pub paint_one-requires : goal.paint_one-requires
paint_one-requires c = record { bytes = c.ends_in-ends.ensures.small; colour_weights = c.weigh_one-weights.ensures.small; alpha_weights = c.weigh_one-weights.ensures.small; turns = lit< tt; room = c.requires }

pub returns : goal.returns
unfolding before unpacked modes mode_at run_bits run_in pbit_in partition_in rotation_in
returns c =
    let n : ℕ = number c.args.s in
    let ends : Ends 6 n c.run.result 1 c.ends_in-ends.result = record { made_so = c.ends_in-ends.ensures; one_each = refl; p_bits = λ e h d. ap (λ (x : ℕ). bit x e) c.run.ensures.is } in
    let set : Set (mode_at 6).first (0 ∷ []) (n / 2 ^ 65) (run_in 6 n first_run) c.weigh_one-weights.result = record { weighed = c.weigh_one-weights.ensures; positive = lit≤ tt; rising = one_rising; run_is = refl } in
    let painting : Painting 6 n c.ends_in-ends.result 0 0 0 c.weigh_one-weights.result c.weigh_one-weights.result = one_set 6 n marked_one (sym (mod-one _)) ends set refl (sym (mod-one _)) in
    painted painting c.args.out.now _ c.paint_one.ensures
