use Rattle.bcn_spec.specs.declared.Refusal.TheVariants as why
use borrow.Author.Rules.{rules}
use borrow.Author.Tests.{not-true, not-false}
use mathlib.Core.Path.{sym, ◌∙◌}
use Rattle.store_records.proofs.Refusals as checks
use Rattle.store_records.proofs.Readings as laws
use Rattle.store_records.proofs.record_at.Goals as goal

pub returns-then-store-gt-STORE : goal.returns-then-store-gt-STORE
returns-then-store-gt-STORE c = laws.read_refused _ _ why.LongStore (checks.long _ _ (search rules))

pub returns-then-store-ne0 : goal.returns-then-store-ne0
returns-then-store-ne0 c = laws.read_refused _ _ why.UnevenStore (checks.uneven _ _ (search rules) (search rules))

pub returns-then-n-record_count : goal.returns-then-n-record_count
returns-then-n-record_count c = laws.read_refused _ _ why.NoRecord (checks.past _ _ (search rules) (search rules) (search rules))

pub returns-then-format-gt1 : goal.returns-then-format-gt1
returns-then-format-gt1 c = laws.read_refused _ _ why.BadFormat (checks.strange _ _ (search rules) (search rules) (search rules) (search rules))

pub returns-then-ne : goal.returns-then-ne
returns-then-ne c = laws.read_refused _ _ why.SpareByte (checks.spare _ _ (search rules) (search rules) (search rules) (search rules) (sym (checks.zeros_at c.args.store.now c.args.n (search rules)) ∙ not-true _ (sym c.ne.ensures ∙ c.if-ne.true)))

pub returns : goal.returns
returns c = laws.read_record _ _ _ (checks.sound _ _ (search rules) (search rules) (search rules) (search rules) (sym (checks.zeros_at c.args.store.now c.args.n (search rules)) ∙ not-false _ (sym c.ne.ensures ∙ c.if-ne.false))) c.tile_at.ensures
