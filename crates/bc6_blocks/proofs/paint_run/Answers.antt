-- `bc6_blocks::paint_run` meets its contract: a turn paints the next block and counts what it shows. Assumes nothing.
use borrow.Author.Rules.{rules}
use mathlib.Core.Path.{◌≡◌, refl, ◌∙◌}
use native.Mathlib.Omega.{arith}
use Prim.Native.Nat.{ℕ, ◌≤◌, ◌+◌, ◌-◌, ◌*◌}
use borrow.Rule.Slice.PartMut.{same_len_mid}
use lib.ListN.{length}
use Rattle.bc6h_spec.proofs.Modes.{mode_range}
use Rattle.bc6_blocks.proofs.Runs.{painted_part, counted_part, none_counted, run_counted, counted_most, run_start, run_step}
use Rattle.bc6_blocks.proofs.paint_run.Goals as goal

pub loop-n-init : goal.loop-n-init
loop-n-init c = (search rules, run_start _ _ _, refl, none_counted _ _)

pub overflow_cast-mode : goal.overflow_cast-mode
overflow_cast-mode c =
    let few : c.extract_mode-mode.result ≤ 14 = rw c.extract_mode-mode.ensures (mode_range _) in
    let h = few in record { fits = omega arith }

pub overflow_add-infinite : goal.overflow_add-infinite
overflow_add-infinite c =
    let l = c.loop-n in
    record { fits = omega (arith, counted_most _ _ l.n l.infinite l.invariant.3) }

pub loop-n-preserved : goal.loop-n-preserved
loop-n-preserved c =
    let k = c.show-shown in
    let new = c.new-stream in
    let l = c.loop-n in
    let size : 16 * l.n + 16 - 16 * l.n ≡ 16 = omega arith in (
      search rules,
      run_step _ _ _ _ _ l.n l.invariant.1 (painted_part _ l.n (16 * l.n + 16 - 16 * l.n) _ _ _ _ _ new.ensures k.ensures size),
      same_len_mid {X = ℕ} (48 * l.n) (length l.out - 48 * l.n) l.out k.new.out k.auto.out ∙ l.invariant.2,
      run_counted _ _ l.n l.infinite _ l.invariant.3 (counted_part _ l.n (16 * l.n + 16 - 16 * l.n) _ _ _ _ _ new.ensures k.ensures size),
    )
