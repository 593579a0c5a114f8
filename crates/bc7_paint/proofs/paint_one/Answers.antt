-- `bc7_paint::paint_one` meets its contract: two pixels a turn. Assumes nothing.
use borrow.Author.Rules.{rules}
use mathlib.Core.Path.{◌≡◌}
use mathlib.Core.List.{List}
use Prim.Native.Nat.{ℕ, ◌+◌, ◌*◌, ◌<◌, ◌≤◌}
use native.Mathlib.Omega.{arith}
use lib.ListN.{length, get_or}
use Rattle.bc7_paint.specs.Shades.{shade_byte, solo_at}
use Rattle.bc7_paint.proofs.Shading.{solo_byte}
use Rattle.bc7_paint.proofs.Halves.{room_after, none_painted, turn_painted, all_painted}
use Rattle.bc7_paint.proofs.paint_one.Goals as goal

pub loop-k-init : goal.loop-k-init
loop-k-init c = (search rules, none_painted _ _)

pub paint_pixel-requires : goal.paint_pixel-requires
paint_pixel-requires c =
    let out : List ℕ = c.loop-k.out in
    let room : 64 ≤ length out = omega (arith, c.requires.room, c.loop-k.invariant.1.long) in
    (omega arith, c.requires.colour_weights.small _, c.requires.alpha_weights.small _, c.requires.turns, c.requires.bytes, room)

pub paint_pixel-requires-in-loop-k : goal.paint_pixel-requires-in-loop-k
paint_pixel-requires-in-loop-k c =
    let k : ℕ = c.loop-k.k in
    let out : List ℕ = c.loop-k.out in
    let pixel : ℕ → ℕ → ℕ = λ n. solo_at c.args.ends c.args.rotation (get_or c.args.colours n 0) (get_or c.args.alphas n 0) in
    let room : 64 ≤ length out = omega (arith, c.requires.room, c.loop-k.invariant.1.long) in (
      omega arith,
      c.requires.colour_weights.small _,
      c.requires.alpha_weights.small _,
      c.requires.turns,
      c.requires.bytes,
      room_after (pixel k) k out _ c.paint_pixel.ensures room,
    )

pub loop-k-preserved : goal.loop-k-preserved
loop-k-preserved c =
    let k : ℕ = c.loop-k.k in
    let pixel : ℕ → ℕ → ℕ = λ n. solo_at c.args.ends c.args.rotation (get_or c.args.colours n 0) (get_or c.args.alphas n 0) in
    let bytes : (n j : ℕ) → j < 4 → pixel n j ≡ shade_byte c.args.ends 0 0 c.args.rotation c.args.colours c.args.alphas (4 * n + j) = λ n. solo_byte _ _ _ _ n in (
      search rules,
      turn_painted c.loop-k.invariant.1 c.requires.room (pixel k) (pixel (k + 8)) _ _ c.paint_pixel.ensures c.paint_pixel-in-loop-k.ensures (omega arith)
          (bytes k) (bytes (k + 8)),
    )

pub returns : goal.returns
returns c =
    let l = c.loop-k in
    all_painted l.invariant.1 c.requires.room (omega (arith, c.loop-k-test.false))
