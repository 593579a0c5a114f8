use Rattle.std.proofs.Common.{refl, rules}
use Rattle.probe_build.specs.Building.{place_for}
use Rattle.probe_build.proofs.Numbers.{square_small, square_positive, column_small, row_small, face_small}
use Rattle.probe_build.proofs.place_of.Goals as goal

pub overflow_mul-square : goal.overflow_mul-square
overflow_mul-square c = let l = square_small c.args.edge c.requires.1 in search rules

pub nonzero_div-result : goal.nonzero_div-result
nonzero_div-result c = let l = square_positive c.args.edge c.requires.0 in search rules

pub overflow_cast-result : goal.overflow_cast-result
overflow_cast-result c = let l = face_small c.args.edge c.requires.0 c.args.n c.requires.2 in search rules

pub overflow_cast-result-2 : goal.overflow_cast-result-2
overflow_cast-result-2 c = let l = column_small c.args.edge c.requires.0 c.args.n in search rules

pub nonzero_rem-result-2 : goal.nonzero_rem-result-2
nonzero_rem-result-2 c = let l = square_positive c.args.edge c.requires.0 in search rules

pub overflow_cast-result-3 : goal.overflow_cast-result-3
overflow_cast-result-3 c = let l = row_small c.args.edge c.requires.0 c.args.n in search rules

pub returns : goal.returns
unfolding place_for
returns c = refl
