-- `bc6_paint::channel` meets its contract: two stores, and two flags. Assumes nothing.
use mathlib.Core.Path.{◌∙◌}
use Prim.Native.Nat.{◌+◌}
use native.Mathlib.Omega.{arith}
use lib.ListN.{set, length-set}
use lib.Seq.{set_comm}
use Rattle.laws.proofs.Num.{read}
use Rattle.bc6_paint.proofs.Points.{drawn_of, drawn_in, half_drawn, shade, adds}
use Rattle.bc6_paint.proofs.channel.Goals as goal

pub finish-high-requires : goal.finish-high-requires
finish-high-requires g c =
    let drawn = drawn_of c.args.ends _ c.well_formed.1.0.1.1 c.kept_16-a.ensures c.kept_16-b.ensures c.kept_16-c.ensures c.kept_16-d.ensures in
    rw (read c.point.type_inv c.point.ensures) (drawn_in _ drawn c.args.t.second8 _ c.requires.1)

pub finish-low-requires : goal.finish-low-requires
finish-low-requires g c =
    let drawn = drawn_of c.args.ends _ c.well_formed.1.0.1.1 c.kept_16-a.ensures c.kept_16-b.ensures c.kept_16-c.ensures c.kept_16-d.ensures in
    rw (read c.point-2.type_inv c.point-2.ensures) (drawn_in _ drawn c.args.t.second _ c.requires.0)

pub returns : goal.returns
returns g c =
    let drawn = drawn_of c.args.ends _ c.well_formed.1.0.1.1 c.kept_16-a.ensures c.kept_16-b.ensures c.kept_16-c.ensures c.kept_16-d.ensures in
    let a = c.args in
    let t = a.t in
    let p = c.point-2 in
    let q = c.point in
    let x = half_drawn _ drawn t.second t.w c.requires.0 _ _ (read p.type_inv p.ensures) c.finish-low.ensures in
    let y = half_drawn _ drawn t.second8 t.w8 c.requires.1 _ _ (read q.type_inv q.ensures) c.finish-high.ensures in
    record {
      holds = set_comm a.out.now (a.at + 24) a.at _ _ (λ e. omega arith) ∙ (λ i. set (set a.out.now a.at (shade _ _ x i)) (a.at + 24) (shade _ _ y i));
      long = simp length-set;
      counts = λ i. adds _ _ _ x c.counted.ensures.0 i + adds _ _ _ y c.counted-2.ensures.0 i;
      few = omega (arith, c.counted.ensures.1, c.counted-2.ensures.1);
    }
