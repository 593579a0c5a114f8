use Rattle.std.proofs.Common.{ℕ, ◌-◌, ◌*◌, length, refl, ◌∙◌, arith, length-drop, length-take, rules}
use borrow.Rule.Slice.PartMut.{mid_of, same_len_mid}
use Rattle.laws.proofs.Joined.{run_start, run_step, run_end}
use Rattle.probe_places.specs.Places.{place_size}
use Rattle.probe_build.specs.Building.{built_record}
use Rattle.probe_build.proofs.Builds.{each_length, record_shown, built_whole}
use Rattle.probe_build.proofs.write_records.Goals as goal

pub loop-n-init : goal.loop-n-init
loop-n-init c = (search rules, run_start (built_record _ _ _ _) place_size (each_length _ _ _ _) _, refl)

pub write_record-requires : goal.write_record-requires
write_record-requires c = (search rules, search rules, simp (length-take, length-drop) (omega arith))

pub loop-n-preserved : goal.loop-n-preserved
loop-n-preserved c = let w = c.write_record in let l = c.loop-n in (search rules, run_step (built_record _ _ _ _) place_size (each_length _ _ _ _) _ _ _ l.n l.invariant.1 (record_shown _ _ _ _ _ (mid_of (place_size * l.n) (length l.out - place_size * l.n) l.out) c.tile_of-tile.ensures c.place_of-place.ensures w.ensures), same_len_mid {X = ℕ} (place_size * l.n) (length l.out - place_size * l.n) l.out w.new.out w.auto.out ∙ l.invariant.2)

pub returns : goal.returns
returns c = built_whole _ _ _ _ c.args.out.now c.record_count-count.ensures.0 (run_end (built_record _ _ _ _) place_size (each_length _ _ _ _) _ _ _ c.loop-n.n c.loop-n.invariant.1 (search rules) (search rules))
