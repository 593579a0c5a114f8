use borrow.Author.Rules.{rules}
use native.Mathlib.Omega.{arith}
use Rattle.text_build.proofs.Outputs.{no_wish, few_records, build_refused, build_done}
use Rattle.text_build.proofs.put_build.Goals as goal

pub returns-then-input-lt-HEAD : goal.returns-then-input-lt-HEAD
returns-then-input-lt-HEAD c =
    let both = no_wish c.args.input.now c.args.out.now c.if-input-lt-HEAD.true in
    record { upper_bound = both.0; written = both.1 }

pub returns-then-built-ne-DONE : goal.returns-then-built-ne-DONE
returns-then-built-ne-DONE c =
    let both = build_refused c.args.input.now c.if-input-lt-HEAD.false c.u32_at-edge.ensures c.u32_at-first_tile.ensures
    c.args.out.now _ (search rules) c.probe_build-built.ensures c.if-built-ne-DONE.true in
    record { upper_bound = both.0; written = both.1 }

pub overflow_mul-result : goal.overflow_mul-result
overflow_mul-result c = record { fits = omega (arith, few_records c.probe_build-built.ensures c.if-built-ne-DONE.false) }

pub overflow_add-result : goal.overflow_add-result
overflow_add-result c = record { fits = omega (arith, few_records c.probe_build-built.ensures c.if-built-ne-DONE.false) }

pub returns : goal.returns
returns c =
    let both = build_done c.args.input.now c.if-input-lt-HEAD.false c.u32_at-edge.ensures c.u32_at-first_tile.ensures
    c.args.out.now _ (search rules) c.probe_build-built.ensures c.if-built-ne-DONE.false in
    record { upper_bound = both.0; written = both.1 }
