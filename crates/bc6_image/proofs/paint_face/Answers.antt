-- `bc6_image::paint_face` meets its contract: a turn decodes the next block and stores its pixels. Assumes nothing.
use borrow.Author.Rules.{rules}
use mathlib.Core.Path.{◌≡◌, refl, sym, ap, ◌∙◌}
use Prim.Native.Nat.{ℕ, ◌+◌, ◌-◌, ◌*◌}
use native.Mathlib.Omega.{arith}
use lib.ListN.{length, take, drop, length-take, length-drop}
use Rattle.bc6h_spec.specs.Picture.{is_signed}
use Rattle.bc6h_spec.specs.Block.{pixels_of, infinities_of}
use Rattle.bc6.specs.Call.{told}
use Rattle.bc6_blocks.specs.Run.{shown_at}
use Rattle.bc6_blocks.proofs.Runs.{none_counted, run_counted, counted_most}
use Rattle.bc6_blocks.proofs.Decoded.{decoded, decoded_count, never}
use Rattle.bc6_image.proofs.Places.{put_start, put_step, Cornered, cornered}
use Rattle.bc6_image.proofs.paint_face.Goals as goal

pub loop-n-init : goal.loop-n-init
loop-n-init c = (search rules, put_start _ _ _ _ _ _, refl, none_counted _ _)

pub overflow_mul-at-in-loop-n : goal.overflow_mul-at-in-loop-n
overflow_mul-at-in-loop-n c =
    let corner : (let s = c.args in Cornered s.width s.pitch c.lanes_of-step.result c.loop-n.n (length s.out.now)) = cornered c.args.alpha c.args.width c.args.height c.args.pitch c.lanes_of-step.result _ (length c.args.out.now) c.loop-n.n
    c.requires.1 c.lanes_of-step.ensures (search rules) in
    let d = corner in record { fits = omega arith }

pub overflow_add-at : goal.overflow_add-at
overflow_add-at c =
    let corner : (let s = c.args in Cornered s.width s.pitch c.lanes_of-step.result c.loop-n.n (length s.out.now)) = cornered c.args.alpha c.args.width c.args.height c.args.pitch c.lanes_of-step.result _ (length c.args.out.now) c.loop-n.n
    c.requires.1 c.lanes_of-step.ensures (search rules) in
    let d = corner in record { fits = omega arith }

pub put_block-requires : goal.put_block-requires
put_block-requires c =
    let corner : (let s = c.args in Cornered s.width s.pitch c.lanes_of-step.result c.loop-n.n (length s.out.now)) = cornered c.args.alpha c.args.width c.args.height c.args.pitch c.lanes_of-step.result _ (length c.args.out.now) c.loop-n.n
    c.requires.1 c.lanes_of-step.ensures (search rules) in
    let d = corner in omega arith

pub overflow_add-infinite : goal.overflow_add-infinite
overflow_add-infinite c =
    let corner : (let s = c.args in Cornered s.width s.pitch c.lanes_of-step.result c.loop-n.n (length s.out.now)) = cornered c.args.alpha c.args.width c.args.height c.args.pitch c.lanes_of-step.result _ (length c.args.out.now) c.loop-n.n
    c.requires.1 c.lanes_of-step.ensures (search rules) in
    let l = c.loop-n in let d = corner in record { fits = omega (arith, counted_most _ _ l.n l.infinite l.invariant.3) }

pub unreachable-requires : goal.unreachable-requires
unreachable-requires c =
    never c.block_pixels.ensures (search rules) (simp (length-take, length-drop) (omega arith)) (search rules) _ (ap (λ r. (told r).answer) c.in_default.is)

pub loop-n-preserved : goal.loop-n-preserved
unfolding shown_at infinities_of
loop-n-preserved c =
    let l = c.loop-n in
    let s = c.args in
    let lanes = c.lanes_of-step in
    let shown = c.block_pixels in
    let size : 16 * l.n + 16 - 16 * l.n ≡ 16 = omega arith in (
      search rules,
      put_step _ _ _ _ _ _ l.n l.invariant.1
          (decoded shown.ensures (search rules) (simp (length-take, length-drop) (omega arith)) (search rules)
          ∙ ap (λ (n : ℕ). pixels_of (is_signed s.format) (take n (drop (16 * l.n) s.blocks.now))) size)
          lanes.ensures c.put_block.ensures,
      search rules,
      run_counted _ _ l.n l.infinite _ l.invariant.3
          (ap (λ r. (told r).infinite) (sym c.in-Ok.is) ∙ decoded_count shown.ensures (search rules) (simp (length-take, length-drop) (omega arith)) (search rules)
          ∙ ap (λ (n : ℕ). infinities_of (is_signed s.format) (take n (drop (16 * l.n) s.blocks.now))) size),
    )
