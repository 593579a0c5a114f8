-- `bc7_blocks::paint_run` meets its contract: a turn paints the next block. Assumes nothing.
use borrow.Author.Rules.{rules}
use mathlib.Core.Path.{◌≡◌, refl, ◌∙◌}
use native.Mathlib.Omega.{arith}
use Prim.Native.Nat.{ℕ, ◌+◌, ◌-◌, ◌*◌}
use borrow.Rule.Slice.PartMut.{same_len_mid}
use lib.ListN.{length, length-take, length-drop}
use Rattle.laws.proofs.Joined.{run_start, run_step, run_end}
use Rattle.bc7_blocks.specs.Run.{shown_at}
use Rattle.bc7_blocks.proofs.Calls.{each, painted_part}
use Rattle.bc7_blocks.proofs.paint_run.Goals as goal

pub loop-n-init : goal.loop-n-init
loop-n-init c = (search rules, run_start (shown_at _) 64 (each _) _, refl)

pub loop-n-preserved : goal.loop-n-preserved
loop-n-preserved c =
    let k = c.bc7_pixels in
    let l = c.loop-n in
    let size : 16 * l.n + 16 - 16 * l.n ≡ 16 = omega arith in (
      search rules,
      run_step (shown_at _) 64 (each _) _ _ _ l.n l.invariant.1
          (painted_part _ _ l.n (16 * l.n + 16 - 16 * l.n) _ _ k.ensures size (simp (length-take, length-drop) (omega arith)) (simp (length-take, length-drop) (omega arith))),
      same_len_mid {X = ℕ} (64 * l.n) (length l.out - 64 * l.n) l.out k.new.out k.auto.out ∙ l.invariant.2,
    )

pub returns : goal.returns
returns c = let l = c.loop-n in run_end (shown_at _) 64 (each _) _ _ _ l.n l.invariant.1 (search rules) (search rules)
