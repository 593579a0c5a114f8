use borrow.Author.Rules.{rules}
use mathlib.Core.Path.{sym}
use Rattle.store_spec.proofs.Listing as laws
use Rattle.store_marks.proofs.list_refusal.Goals as goal

pub returns-then-store-gt-STORE : goal.returns-then-store-gt-STORE
returns-then-store-gt-STORE c = sym (laws.long _ _ (search rules))

pub returns-then-store-ne0 : goal.returns-then-store-ne0
returns-then-store-ne0 c = sym (laws.uneven _ _ (search rules) (search rules))

pub returns-then-room-record_count : goal.returns-then-room-record_count
returns-then-room-record_count c = sym (laws.short _ _ (search rules) (search rules) (search rules))

pub returns : goal.returns
returns c = sym (laws.fine _ _ (search rules) (search rules) (search rules))
