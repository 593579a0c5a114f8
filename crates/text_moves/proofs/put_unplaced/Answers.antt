use borrow.Author.Rules.{rules}
use Rattle.text_moves.proofs.Outputs.{unplaced_refused, unplaced_done}
use Rattle.text_moves.proofs.put_unplaced.Goals as goal

pub returns-then-unplaced-ne-DONE : goal.returns-then-unplaced-ne-DONE
returns-then-unplaced-ne-DONE c =
    let both = unplaced_refused c.args.store.now c.args.out.now _ (search rules) c.unplace_store-unplaced.ensures c.if-unplaced-ne-DONE.true in
    record { upper_bound = both.0; written = both.1 }

pub returns : goal.returns
returns c =
    let both = unplaced_done c.args.store.now c.args.out.now _ (search rules) c.unplace_store-unplaced.ensures c.if-unplaced-ne-DONE.false in
    record { upper_bound = both.0; written = both.1 }
