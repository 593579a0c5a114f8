use borrow.Author.Rules.{rules}
use Rattle.probe_places.proofs.Readings.{long, uneven, past, of_record}
use Rattle.probe_places.proofs.placed_refusal.Goals as goal

pub returns-then-store-gt-STORE : goal.returns-then-store-gt-STORE
returns-then-store-gt-STORE c = long _ _ (search rules)

pub returns-then-store-ne0 : goal.returns-then-store-ne0
returns-then-store-ne0 c = uneven _ _ (search rules) (search rules)

pub returns-then-n-store : goal.returns-then-n-store
returns-then-n-store c = past _ _ (search rules) (search rules) (search rules)

pub returns : goal.returns
returns c = of_record _ _ (search rules) (search rules) (search rules) c.place_record_refusal.ensures
