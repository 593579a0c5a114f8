-- `run_export::Wish::put_start` meets its contract. Assumes nothing.
use native.Mathlib.Omega.{arith}
use Rattle.pfm_header.proofs.Text.{places_small}
use Rattle.run_export.proofs.Starts.{size_fits, front_fits, front_pfm, front_exr}
use Rattle.run_export.proofs.Asked.{ours_of, pfm_is, exr_is}
use Rattle.run_export.proofs.Wish.put_start.Goals as goal

pub put_header-requires : goal.put_header-requires
put_header-requires c =
    let s = c.args.self.size in
    (omega (arith, s.wide.1), omega (arith, s.high.1), omega (arith, places_small c.args.self.width, places_small c.args.self.height))

pub returns-in-Pfm : goal.returns-in-Pfm
returns-in-Pfm c =
    let w = c.args.self in
    front_pfm (pfm_is c.in-Pfm.is) w.width w.height (omega (arith, places_small w.width, places_small w.height)) c.put_header.ensures

pub put_front-requires : goal.put_front-requires
put_front-requires c = (size_fits (ours_of c.args.self), front_fits (ours_of c.args.self) _ c.requires)

pub returns-in-Exr : goal.returns-in-Exr
returns-in-Exr c =
    let w = c.args.self in
    front_exr (exr_is c.in-Exr.is) w.width w.height (front_fits (ours_of w) _ c.requires) c.put_front.ensures
