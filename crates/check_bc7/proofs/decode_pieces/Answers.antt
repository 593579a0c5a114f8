-- `check_bc7::decode_pieces` meets its contract: a turn writes what the next piece shows. Assumes nothing.
use borrow.Author.Rules.{rules}
use mathlib.Core.Path.{refl, ◌∙◌}
use Prim.Native.Nat.{ℕ, ◌-◌, ◌*◌}
use borrow.Rule.Slice.PartMut.{mid_of, same_len_mid}
use lib.ListN.{length}
use Rattle.laws.proofs.Joined.{run_start, run_step, run_end}
use Rattle.check_bc7.specs.Shown.{shown_at}
use Rattle.check_bc7.proofs.Pieces.{each, piece_shown}
use Rattle.check_bc7.proofs.decode_pieces.Goals as goal

pub loop-i-init : goal.loop-i-init
loop-i-init c = (search rules, run_start (shown_at _) 66 (each _) _, refl)

pub loop-i-preserved : goal.loop-i-preserved
loop-i-preserved c =
    let k = c.decode_piece in
    let l = c.loop-i in
    let e = c.piece_end-end in (
      search rules,
      run_step (shown_at _) 66 (each _) _ _ _ l.i l.invariant.1
          (piece_shown _ (mid_of (66 * l.i) (length l.out - 66 * l.i) l.out) _ l.i _ e.ensures.is k.ensures),
      same_len_mid {X = ℕ} (66 * l.i) (length l.out - 66 * l.i) l.out k.new.out k.auto.out ∙ l.invariant.2,
    )

pub returns : goal.returns
returns c =
    let l = c.loop-i in
    record { answers = refl; holds = run_end (shown_at _) 66 (each _) _ _ _ l.i l.invariant.1 (search rules) (search rules) }
