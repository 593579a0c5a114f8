use borrow.Author.Rules.{rules}
use mathlib.Core.Path.{◌∙◌}
use Rattle.store_records.specs.Store.{tile_of}
use Rattle.store_records.proofs.Readings as laws
use Rattle.store_records.proofs.tile_at.Goals as goal

pub returns-then-n-record_count : goal.returns-then-n-record_count
returns-then-n-record_count c = laws.no_tile _ _ (search rules)

pub returns : goal.returns
unfolding tile_of
returns c = c.u32_at.ensures ∙ laws.tile_there _ _ (search rules)
