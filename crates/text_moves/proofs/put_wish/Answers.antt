use borrow.Author.Rules.{rules}
use mathlib.Core.Path.{◌∙◌}
use Rattle.text_moves.proofs.Outputs.{no_wish, wish_refused, wish_done}
use Rattle.text_moves.proofs.put_wish.Goals as goal

pub returns-then-input-lt-HEAD : goal.returns-then-input-lt-HEAD
returns-then-input-lt-HEAD c =
    let both = no_wish c.args.input.now c.args.out.now c.if-input-lt-HEAD.true in
    record { upper_bound = both.0; written = both.1 }

pub returns-then-put-ne-DONE : goal.returns-then-put-ne-DONE
returns-then-put-ne-DONE c =
    let both = wish_refused c.args.input.now c.if-input-lt-HEAD.false
    (c.u32_to_usize-n.ensures ∙ c.u32_at.ensures) c.u16_at-column.ensures c.u16_at-row.ensures
    c.args.out.now _ (search rules) c.put_place-put.ensures c.if-put-ne-DONE.true in
    record { upper_bound = both.0; written = both.1 }

pub returns : goal.returns
returns c =
    let both = wish_done c.args.input.now c.if-input-lt-HEAD.false
    (c.u32_to_usize-n.ensures ∙ c.u32_at.ensures) c.u16_at-column.ensures c.u16_at-row.ensures
    c.args.out.now _ (search rules) c.put_place-put.ensures c.if-put-ne-DONE.false in
    record { upper_bound = both.0; written = both.1 }
