-- `exr_header::put_front` meets its contract. Assumes nothing.
use native.Mathlib.Omega.{arith}
use borrow.Author.Rules.{rules}
use Rattle.exr_header.specs.Header.{front_length}
use Rattle.exr_header.proofs.Numbers.{front_put}
use Rattle.exr_header.proofs.put_front.Goals as goal

pub put_header-requires : goal.put_header-requires
unfolding front_length
put_header-requires c = (search rules, omega (arith, c.requires.1))

pub returns : goal.returns
returns c =
    let s = c.args in
    front_put s.width s.height s.out.now _ _ c.put_header.ensures c.put_table.ensures c.front_length.ensures
