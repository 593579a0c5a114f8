use borrow.Author.Rules.{rules}
use Rattle.text_moves.proofs.Outputs.{placed_refused, placed_done}
use Rattle.text_moves.proofs.put_placed.Goals as goal

pub returns-then-placed-ne-DONE : goal.returns-then-placed-ne-DONE
returns-then-placed-ne-DONE c =
    let both = placed_refused c.args.store.now c.args.out.now _ (search rules) c.place_store-placed.ensures c.if-placed-ne-DONE.true in
    record { upper_bound = both.0; written = both.1 }

pub returns : goal.returns
returns c =
    let both = placed_done c.args.store.now c.args.out.now _ (search rules) c.place_store-placed.ensures c.record_count.ensures c.if-placed-ne-DONE.false in
    record { upper_bound = both.0; written = both.1 }
