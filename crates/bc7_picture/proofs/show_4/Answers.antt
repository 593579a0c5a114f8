-- `bc7_picture::show_4` meets its contract. Assumes nothing.
use mathlib.Core.Path.{◌≡◌, ◌∙◌, refl, sym}
use mathlib.Core.List.{[], ◌∷◌}
use Prim.Native.Nat.{ℕ, ◌/◌, ◌^◌, ◌<◌}
use native.Mathlib.Nat.{mod-one}
use native.Mathlib.Omega.{arith}
use lib.Dec.{lit<, lit≤}
use Rattle.laws.specs.Packed.{before, unpacked}
use Rattle.bcn_util.specs.Stream.{number}
use Rattle.bc7_spec.specs.Modes.{modes, mode_at}
use Rattle.bc7_spec.specs.Layout.{run_bits, run_in, first_run, second_run}
use Rattle.bc7_spec.specs.Fields.{partition_in, rotation_in, selection_in, pbit_in}
use Rattle.bc7_picture.proofs.Marks.{one_rising, marked_one}
use Rattle.bc7_picture.proofs.Parts.{Ends, Set}
use Rattle.bc7_picture.proofs.Classes.{unselected, selected}
use Rattle.bc7_picture.proofs.Paintings.{Painting, painted}
use Rattle.bc7_picture.proofs.show_4.Goals as goal

pub ends_in-ends-requires : goal.ends_in-ends-requires
ends_in-ends-requires c = (lit< tt, lit≤ tt, record { p_bit = lit≤ tt; low = lit≤ tt; high = lit≤ tt; fits = lit≤ tt }, record { p_bit = lit≤ tt; low = lit≤ tt; high = lit≤ tt; fits = lit≤ tt })

pub run-rotation-requires : goal.run-rotation-requires
run-rotation-requires c = (lit< tt, lit≤ tt)

pub weigh_one-first-requires : goal.weigh_one-first-requires
weigh_one-first-requires c = (lit< tt, lit≤ tt, lit≤ tt)

pub weigh_one-second-requires : goal.weigh_one-second-requires
weigh_one-second-requires c = (lit< tt, lit≤ tt, lit≤ tt)

pub run-requires : goal.run-requires
run-requires c = (lit< tt, lit≤ tt)

pub paint_one-requires : goal.paint_one-requires
paint_one-requires c = record { bytes = c.ends_in-ends.ensures.small; colour_weights = c.weigh_one-first.ensures.small; alpha_weights = c.weigh_one-second.ensures.small; turns = c.run-rotation.ensures.small; room = c.requires }

pub paint_one-requires-else-run-eq0 : goal.paint_one-requires-else-run-eq0
paint_one-requires-else-run-eq0 c = record { bytes = c.ends_in-ends.ensures.small; colour_weights = c.weigh_one-second.ensures.small; alpha_weights = c.weigh_one-first.ensures.small; turns = c.run-rotation.ensures.small; room = c.requires }

pub returns-then-run-eq0 : goal.returns-then-run-eq0
unfolding before unpacked modes mode_at run_bits run_in pbit_in partition_in rotation_in selection_in
returns-then-run-eq0 c =
    let n : ℕ = number c.args.s in
    let ends : Ends 4 n 0 0 c.ends_in-ends.result = record { made_so = c.ends_in-ends.ensures; one_each = refl; p_bits = λ e h d. absurd (let z : ◌≡◌ {A = ℕ} 0 1 = d in omega arith) } in
    let set : Set (mode_at 4).first (0 ∷ []) (n / 2 ^ 50) (run_in 4 n first_run) c.weigh_one-first.result = record { weighed = c.weigh_one-first.ensures; positive = lit≤ tt; rising = one_rising; run_is = refl } in
    let set2 : Set (mode_at 4).second (0 ∷ []) (n / 2 ^ 81) (run_in 4 n second_run) c.weigh_one-second.result = record { weighed = c.weigh_one-second.ensures; positive = lit≤ tt; rising = one_rising; run_is = refl } in
    let plain : c.run.result ≡ 0 → Painting 4 n c.ends_in-ends.result 0 0 c.run-rotation.result c.weigh_one-first.result c.weigh_one-second.result = λ z. unselected 4 n marked_one (sym (mod-one _)) ends set set2 refl c.run-rotation.ensures.is c.run-rotation.ensures.small (sym c.run.ensures.is ∙ z) in
    painted (plain c.if-run-eq0.true) c.args.out.now _ c.paint_one.ensures

pub returns-else-run-eq0 : goal.returns-else-run-eq0
unfolding before unpacked modes mode_at run_bits run_in pbit_in partition_in rotation_in selection_in
returns-else-run-eq0 c =
    let n : ℕ = number c.args.s in
    let ends : Ends 4 n 0 0 c.ends_in-ends.result = record { made_so = c.ends_in-ends.ensures; one_each = refl; p_bits = λ e h d. absurd (let z : ◌≡◌ {A = ℕ} 0 1 = d in omega arith) } in
    let set : Set (mode_at 4).first (0 ∷ []) (n / 2 ^ 50) (run_in 4 n first_run) c.weigh_one-first.result = record { weighed = c.weigh_one-first.ensures; positive = lit≤ tt; rising = one_rising; run_is = refl } in
    let set2 : Set (mode_at 4).second (0 ∷ []) (n / 2 ^ 81) (run_in 4 n second_run) c.weigh_one-second.result = record { weighed = c.weigh_one-second.ensures; positive = lit≤ tt; rising = one_rising; run_is = refl } in
    let turned : (c.run.result ≡ 0 → ⊥) → Painting 4 n c.ends_in-ends.result 0 0 c.run-rotation.result c.weigh_one-second.result c.weigh_one-first.result = λ z. let small : c.run.result < 2 = c.run.ensures.small in
    let one : c.run.result ≡ 1 = omega (arith, z) in
    selected 4 n marked_one (sym (mod-one _)) ends set set2 refl c.run-rotation.ensures.is c.run-rotation.ensures.small (sym c.run.ensures.is ∙ one) in
    painted (turned c.if-run-eq0.false) c.args.out.now _ c.paint_one-else-run-eq0.ensures
