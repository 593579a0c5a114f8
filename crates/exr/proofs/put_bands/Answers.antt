-- `exr::put_bands` meets its contract. Assumes nothing.
use mathlib.Core.Path.{refl, ◌∙◌}
use Prim.Native.Nat.{ℕ, ◌+◌, ◌-◌, ◌*◌}
use native.Mathlib.Omega.{arith}
use lib.ListN.{length, length-take, length-drop}
use borrow.Rule.Slice.PartMut.{same_len_mid}
use borrow.Author.Rules.{rules}
use Rattle.laws.proofs.Joined.{run_start, run_step, run_end}
use Rattle.exr.specs.Bands.{band_of, bands_of}
use Rattle.exr.proofs.Bands.{length_of, Placed, placed}
use Rattle.exr.proofs.put_bands.Goals as goal

pub loop-n-init : goal.loop-n-init
loop-n-init c = (search rules, run_start _ _ (length_of _ _ _) _, refl)

pub overflow_mul-first : goal.overflow_mul-first
overflow_mul-first c =
    let here : Placed c.args.across c.args.down c.loop-n.n (length c.args.blocks.now) (length c.args.out.now) = placed _ _ _ _ _ (search rules) (search rules) (search rules) (search rules) (search rules) in
    let p = here in record { fits = omega arith }

pub overflow_mul-at-in-loop-n : goal.overflow_mul-at-in-loop-n
overflow_mul-at-in-loop-n c =
    let here : Placed c.args.across c.args.down c.loop-n.n (length c.args.blocks.now) (length c.args.out.now) = placed _ _ _ _ _ (search rules) (search rules) (search rules) (search rules) (search rules) in
    let p = here in record { fits = omega (arith, p.most) }

pub slice_bounds-put_band-count : goal.slice_bounds-put_band-count
slice_bounds-put_band-count c =
    let here : Placed c.args.across c.args.down c.loop-n.n (length c.args.blocks.now) (length c.args.out.now) = placed _ _ _ _ _ (search rules) (search rules) (search rules) (search rules) (search rules) in
    let p = here in omega (arith, p.behind_it)

pub slice_bounds-put_band-start : goal.slice_bounds-put_band-start
slice_bounds-put_band-start c =
    let here : Placed c.args.across c.args.down c.loop-n.n (length c.args.blocks.now) (length c.args.out.now) = placed _ _ _ _ _ (search rules) (search rules) (search rules) (search rules) (search rules) in
    let p = here in omega (arith, p.behind_it)

pub put_band-requires : goal.put_band-requires
put_band-requires c =
    let here : Placed c.args.across c.args.down c.loop-n.n (length c.args.blocks.now) (length c.args.out.now) = placed _ _ _ _ _ (search rules) (search rules) (search rules) (search rules) (search rules) in
    let p = here in
    record { format_bound = (search rules, search rules, search rules); across_in_bounds = (omega (arith, p.inside), simp (length-take, length-drop) (omega (arith, p.behind_it))) }

pub loop-n-preserved : goal.loop-n-preserved
unfolding band_of
loop-n-preserved c =
    let here : Placed c.args.across c.args.down c.loop-n.n (length c.args.blocks.now) (length c.args.out.now) = placed _ _ _ _ _ (search rules) (search rules) (search rules) (search rules) (search rules) in
    let w = c.put_band in
    let l = c.loop-n in
    let s = c.args in
    let p = here in
    let size = 32 + 96 * s.across in (
      search rules,
      run_step (band_of _ _ _) size (length_of _ _ _) _ _ _ l.n l.invariant.1 w.ensures,
      same_len_mid {X = ℕ} (size * l.n) (length l.out - size * l.n) l.out w.new.out w.auto.out ∙ l.invariant.2,
    )

pub returns : goal.returns
unfolding bands_of
returns c =
    let l = c.loop-n in
    run_end (band_of _ _ _) (32 + 96 * c.args.across) (length_of _ _ _) _ _ _ l.n l.invariant.1 (search rules) (search rules)
