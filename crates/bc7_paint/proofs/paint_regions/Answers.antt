-- `bc7_paint::paint_regions` meets its contract: eight stores a turn, of pixels 2 p and 2 p + 1. Assumes nothing.
use borrow.Author.Rules.{rules}
use mathlib.Core.Path.{◌≡◌, refl}
use Prim.Native.Nat.{ℕ, ◌+◌, ◌*◌, ◌<◌}
use native.Mathlib.Nat.{add-zero}
use native.Mathlib.Omega.{arith}
use lib.Dec.{lit<}
use lib.ListN.{length, get_or, length-set}
use Rattle.laws.proofs.Rows.{made_none, made_four, made_upto}
use Rattle.bc7_paint.specs.Shades.{region_by, shade_at, shade_byte}
use Rattle.bc7_paint.proofs.Shading.{marked_left, left_on, shown}
use Rattle.bc7_paint.proofs.paint_regions.Goals as goal

pub loop-p-init : goal.loop-p-init
loop-p-init c = (search rules, search rules, search rules, made_none _ _, refl)

pub shade-requires : goal.shade-requires
shade-requires c = (lit< tt, c.requires.colour_weights.small _, c.requires.bytes)

pub shade-requires-in-loop-p : goal.shade-requires-in-loop-p
shade-requires-in-loop-p c = (lit< tt, c.requires.colour_weights.small _, c.requires.bytes)

pub bounds-out-at_k-in-loop-p : goal.bounds-out-at_k-in-loop-p
bounds-out-at_k-in-loop-p c =
    let p : ℕ = c.loop-p.p in
    let fits : 4 * (2 * p + 1) + 3 < length c.loop-p.out = omega (arith, c.requires.room, c.loop-p.invariant.4) in
    simp length-set (omega (arith, fits))

pub shade-requires-in-loop-p-2 : goal.shade-requires-in-loop-p-2
shade-requires-in-loop-p-2 c = (lit< tt, c.requires.colour_weights.small _, c.requires.bytes)

pub bounds-out-at_k-in-loop-p-2 : goal.bounds-out-at_k-in-loop-p-2
bounds-out-at_k-in-loop-p-2 c =
    let p : ℕ = c.loop-p.p in
    let fits : 4 * (2 * p + 1) + 3 < length c.loop-p.out = omega (arith, c.requires.room, c.loop-p.invariant.4) in
    simp length-set (omega (arith, fits))

pub shade-requires-in-loop-p-3 : goal.shade-requires-in-loop-p-3
shade-requires-in-loop-p-3 c = (lit< tt, c.requires.colour_weights.small _, c.requires.bytes)

pub bounds-out-at_k-in-loop-p-3 : goal.bounds-out-at_k-in-loop-p-3
bounds-out-at_k-in-loop-p-3 c =
    let p : ℕ = c.loop-p.p in
    let fits : 4 * (2 * p + 1) + 3 < length c.loop-p.out = omega (arith, c.requires.room, c.loop-p.invariant.4) in
    simp length-set (omega (arith, fits))

pub shade-requires-in-loop-p-4 : goal.shade-requires-in-loop-p-4
shade-requires-in-loop-p-4 c = (lit< tt, c.requires.colour_weights.small _, c.requires.bytes)

pub bounds-out-at_l : goal.bounds-out-at_l
bounds-out-at_l c =
    let p : ℕ = c.loop-p.p in
    let fits : 4 * (2 * p + 1) + 3 < length c.loop-p.out = omega (arith, c.requires.room, c.loop-p.invariant.4) in
    simp length-set (omega (arith, fits))

pub shade-requires-in-loop-p-5 : goal.shade-requires-in-loop-p-5
shade-requires-in-loop-p-5 c = (lit< tt, c.requires.colour_weights.small _, c.requires.bytes)

pub bounds-out-at_l-in-loop-p : goal.bounds-out-at_l-in-loop-p
bounds-out-at_l-in-loop-p c =
    let p : ℕ = c.loop-p.p in
    let fits : 4 * (2 * p + 1) + 3 < length c.loop-p.out = omega (arith, c.requires.room, c.loop-p.invariant.4) in
    simp length-set (omega (arith, fits))

pub shade-requires-in-loop-p-6 : goal.shade-requires-in-loop-p-6
shade-requires-in-loop-p-6 c = (lit< tt, c.requires.colour_weights.small _, c.requires.bytes)

pub bounds-out-at_l-in-loop-p-2 : goal.bounds-out-at_l-in-loop-p-2
bounds-out-at_l-in-loop-p-2 c =
    let p : ℕ = c.loop-p.p in
    let fits : 4 * (2 * p + 1) + 3 < length c.loop-p.out = omega (arith, c.requires.room, c.loop-p.invariant.4) in
    simp length-set (omega (arith, fits))

pub shade-requires-in-loop-p-7 : goal.shade-requires-in-loop-p-7
shade-requires-in-loop-p-7 c = (lit< tt, c.requires.colour_weights.small _, c.requires.bytes)

pub bounds-out-at_l-in-loop-p-3 : goal.bounds-out-at_l-in-loop-p-3
bounds-out-at_l-in-loop-p-3 c =
    let p : ℕ = c.loop-p.p in
    let fits : 4 * (2 * p + 1) + 3 < length c.loop-p.out = omega (arith, c.requires.room, c.loop-p.invariant.4) in
    simp length-set (omega (arith, fits))

pub loop-p-preserved : goal.loop-p-preserved
loop-p-preserved c =
    let p : ℕ = c.loop-p.p in
    let f : ℕ → ℕ = shade_byte c.args.ends c.args.ones c.args.twos 0 c.args.weights c.args.weights in
    let of_k : (j i s : ℕ) → s ≡ shade_at c.args.ends j (region_by c.in_region-one_k.result c.in_region-two_k.result) (get_or c.args.weights (2 * p) 0) → j < 4 → 4 * (2 * p) + j ≡ i → s ≡ f i = λ j i s e. let n = add-zero (2 * p) in
    shown _ _ _ _ (2 * p) j i s _ _ e
    (marked_left _ _ (2 * p) c.loop-p.invariant.1 0 (2 * p) n _ c.in_region-one_k.ensures)
    (marked_left _ _ (2 * p) c.loop-p.invariant.2 0 (2 * p) n _ c.in_region-two_k.ensures) in
    let of_l : (j i s : ℕ) → s ≡ shade_at c.args.ends j (region_by c.in_region-one_l.result c.in_region-two_l.result) (get_or c.args.weights (2 * p + 1) 0) → j < 4 → 4 * (2 * p + 1) + j ≡ i → s ≡ f i = λ j i s e. shown _ _ _ _ (2 * p + 1) j i s _ _ e
    (marked_left _ _ (2 * p) c.loop-p.invariant.1 1 (2 * p + 1) refl _ c.in_region-one_l.ensures)
    (marked_left _ _ (2 * p) c.loop-p.invariant.2 1 (2 * p + 1) refl _ c.in_region-two_l.ensures) in
    let n = p in
    let l = c.loop-p in
    let room = c.requires.room in
    let on : 2 * n + 2 ≡ 2 * (n + 1) = omega arith in
    let end : 4 * (2 * n + 1 + 1) ≡ 4 * (2 * (n + 1)) = omega arith in
    let first =
    made_four f _ l.out (2 * n) _ _ _ _ l.invariant.3
    (of_k 0 _ _ c.shade.ensures (lit< tt) (add-zero _))
    (of_k 1 _ _ c.shade-in-loop-p.ensures (lit< tt) refl)
    (of_k 2 _ _ c.shade-in-loop-p-2.ensures (lit< tt) refl)
    (of_k 3 _ _ c.shade-in-loop-p-3.ensures (lit< tt) refl)
    (omega (arith, room)) in
    let second =
    made_four f _ _ (2 * n + 1) _ _ _ _ first
    (of_l 0 _ _ c.shade-in-loop-p-4.ensures (lit< tt) (add-zero _))
    (of_l 1 _ _ c.shade-in-loop-p-5.ensures (lit< tt) refl)
    (of_l 2 _ _ c.shade-in-loop-p-6.ensures (lit< tt) refl)
    (of_l 3 _ _ c.shade-in-loop-p-7.ensures (lit< tt) refl)
    (omega (arith, room)) in
    (search rules, left_on _ _ (2 * n) l.invariant.1 2 _ on, left_on _ _ (2 * n) l.invariant.2 2 _ on, rw end at second, simp length-set l.invariant.4)

pub returns : goal.returns
returns c =
    let l = c.loop-p in
    made_upto _ _ _ 64 (4 * (2 * l.p)) l.invariant.3 (omega (arith, l.invariant.0)) (omega (arith, c.loop-p-test.false))
