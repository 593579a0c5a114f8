-- `exr_header::put_table` meets its contract. Assumes nothing.
use mathlib.Core.Path.{refl, ◌∙◌, ap}
use Prim.Native.Nat.{◌+◌, ◌*◌}
use native.Mathlib.Omega.{arith}
use lib.Seq.{sets}
use borrow.Author.Rules.{rules}
use Rattle.exr_header.specs.Header.{front_length}
use Rattle.exr_header.proofs.Numbers.{low_first_all, start_is, start_small, table_start, table_more, table_all}
use Rattle.exr_header.proofs.put_table.Goals as goal

pub loop-y-init : goal.loop-y-init
loop-y-init c = (search rules, table_start _ _ _, refl)

pub overflow_mul-y : goal.overflow_mul-y
overflow_mul-y c =
    let k = start_small c.args.width c.args.height c.loop-y.y (search rules) (search rules) in
    record { fits = omega arith }

pub overflow_add-first : goal.overflow_add-first
unfolding front_length
overflow_add-first c =
    let k = start_small c.args.width c.args.height c.loop-y.y (search rules) (search rules) in
    record { fits = omega arith }

pub put-requires : goal.put-requires
unfolding front_length
put-requires c = search rules

pub loop-y-preserved : goal.loop-y-preserved
loop-y-preserved c =
    let l = c.loop-y in
    let s = c.args in (
      search rules,
      c.put.ensures.written.exit_is ∙ ap (sets l.out (313 + 8 * l.y)) (c.to_le_bytes.ensures ∙ low_first_all 8 _)
          ∙ table_more s.width s.height _ l.out l.y _ l.invariant.1 (start_is s.width s.height l.y c.front_length-first.ensures),
      search rules,
    )

pub returns : goal.returns
returns c =
    let s = c.args in
    table_all s.width s.height _ _ c.loop-y.y s.height c.loop-y.invariant.1 refl (search rules) (search rules)
