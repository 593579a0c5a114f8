use Prim.Native.Nat.{ℕ, ◌-◌, ◌*◌}
use mathlib.Core.Path.{refl, ◌∙◌}
use native.Mathlib.Omega.{arith}
use lib.ListN.{length, length-take, length-drop}
use borrow.Rule.Slice.PartMut.{mid_of, same_len_mid}
use Rattle.probe_faces.specs.Strip.{strip_block}
use Rattle.laws.proofs.Joined.{run_start, run_step, run_end}
use Rattle.probe_faces.proofs.Strips.{block_length, strip_shown}
use borrow.Author.Rules.{rules}
use Rattle.probe_faces.proofs.hold_strip.Goals as goal

pub loop-column-init : goal.loop-column-init
loop-column-init c = (search rules, run_start (strip_block _ _ _) 48 (block_length _ _ _) _, refl)

pub held_record-n-requires : goal.held_record-n-requires
held_record-n-requires c = let s = c.requires in record { probe = s.probe; held = s.held; face_lt_face_count = (s.face_lt_face_count.0, search rules, s.face_lt_face_count.1) }

pub show_block-requires : goal.show_block-requires
show_block-requires c = let o = c.held_record-n.ensures in (o.inside, o.format, simp (length-take, length-drop) (omega arith))

pub loop-column-preserved : goal.loop-column-preserved
loop-column-preserved c = let k = c.show_block in let l = c.loop-column in (search rules, run_step (strip_block _ _ _) 48 (block_length _ _ _) _ _ _ l.column l.invariant.1 (strip_shown _ (mid_of (48 * l.column) (length l.strip - 48 * l.column) l.strip) c.held_record-n.ensures k.ensures), same_len_mid {X = ℕ} (48 * l.column) (length l.strip - 48 * l.column) l.strip k.new.out k.auto.out ∙ l.invariant.2)

pub returns : goal.returns
returns c = run_end (strip_block _ _ _) 48 (block_length _ _ _) _ _ _ c.loop-column.column c.loop-column.invariant.1 (search rules) (search rules)
