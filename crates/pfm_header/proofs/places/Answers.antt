-- `pfm_header::places` meets its contract. Assumes nothing.
use borrow.Author.Rules.{rules}
use Rattle.pfm_header.proofs.Text as text
use Rattle.pfm_header.proofs.places.Goals as goal

pub returns-then-n-le9 : goal.returns-then-n-le9
returns-then-n-le9 c = text.places_1 _ (search rules)

pub returns-then-n-le99 : goal.returns-then-n-le99
returns-then-n-le99 c = text.places_2 _ (search rules) (search rules)

pub returns-then-n-le999 : goal.returns-then-n-le999
returns-then-n-le999 c = text.places_3 _ (search rules) (search rules) (search rules)

pub returns : goal.returns
returns c = text.places_4 _ (search rules) (search rules) (search rules)
