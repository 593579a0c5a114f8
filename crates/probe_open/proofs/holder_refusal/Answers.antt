-- `probe_open::holder_refusal` meets its contract. Assumes nothing.
use borrow.Author.Rules.{rules}
use native.Mathlib.Omega.{arith}
use Rattle.probe_open.proofs.Asking.{holder_none, holder_past, holder_format, holder_fine}
use Rattle.probe_open.proofs.holder_refusal.Goals as goal

pub returns-then-holder-eq0 : goal.returns-then-holder-eq0
returns-then-holder-eq0 c = holder_none _ _ (search rules)

pub returns-then-holder-store : goal.returns-then-holder-store
returns-then-holder-store c = holder_past _ _ c.if-holder-eq0.false (search rules)

pub overflow_sub-holder : goal.overflow_sub-holder
overflow_sub-holder c = omega (arith, c.if-holder-eq0.false)

pub bounds-store-holder : goal.bounds-store-holder
bounds-store-holder c = omega (arith, c.if-holder-eq0.false, c.if-holder-store.false)

pub returns-then-store-holder-gt1 : goal.returns-then-store-holder-gt1
returns-then-store-holder-gt1 c = holder_format _ _ c.if-holder-eq0.false (search rules) c.if-store-holder-gt1.true

pub returns : goal.returns
returns c = holder_fine _ _ c.if-holder-eq0.false (search rules) (search rules)
