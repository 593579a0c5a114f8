-- `exr_square::put_square` meets its contract. Assumes nothing.
use Prim.Native.Nat.{◌*◌}
use native.Mathlib.Omega.{arith}
use borrow.Author.Rules.{rules}
use Rattle.exr_header.specs.Header.{front_length}
use Rattle.exr_square.proofs.Squares.{all_few, file_put, front_end}
use Rattle.exr_square.proofs.put_square.Goals as goal

pub put_front-at-requires : goal.put_front-at-requires
unfolding front_length
put_front-at-requires c = search rules

pub put_lines-requires : goal.put_lines-requires
unfolding front_length
put_lines-requires c =
    let s = c.args in
    record { edge_bound = search rules; edge_in_bounds = (search rules, omega (arith, front_end (4 * s.edge) c.put_front-at.ensures, all_few s.edge (search rules))) }

pub returns : goal.returns
returns c =
    let s = c.args in
    let put = file_put s.values.now (4 * s.edge) (omega arith) c.put_front-at.ensures c.put_lines.ensures in
    record { upper_bound = put.0; written = put.1 }
