use borrow.Author.Rules.{rules}
use Rattle.store_spec.proofs.Listing.{listed_by}
use Rattle.store_twins.proofs.twin_list.Goals as goal

pub returns : goal.returns
returns c = listed_by c.twin_list_in.ensures (search rules)
