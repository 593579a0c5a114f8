use Rattle.text.proofs.Texts.{said}
use Rattle.text_places.proofs.Whole as whole
use borrow.Author.Rules.{rules}
use Rattle.text_places.proofs.put_listing.Goals as goal

pub returns-then-refusal-ne-DONE : goal.returns-then-refusal-ne-DONE
returns-then-refusal-ne-DONE c = record { upper_bound = search rules; written = said c.put_refusal.ensures.written (whole.refused_text c.args.store.now c.args.strict _ c.listing_refusal-refusal.ensures c.if-refusal-ne-DONE.true) }

pub put_records-end-requires : goal.put_records-end-requires
put_records-end-requires c =
    let few = whole.few c.args.store.now c.args.strict c.listing_refusal-refusal.ensures c.if-refusal-ne-DONE.false in
    search rules

pub put_counts-requires : goal.put_counts-requires
put_counts-requires c =
    let few = whole.few c.args.store.now c.args.strict c.listing_refusal-refusal.ensures c.if-refusal-ne-DONE.false in
    search rules

pub returns : goal.returns
returns c =
    let few = whole.few c.args.store.now c.args.strict c.listing_refusal-refusal.ensures c.if-refusal-ne-DONE.false in
    record { upper_bound = search rules; written = whole.done_text c.args.store.now c.args.strict c.listing_refusal-refusal.ensures c.if-refusal-ne-DONE.false c.put_records-end.ensures.written c.count_places-counts.ensures c.put_counts.ensures.written }
