-- `dds::dds_header` meets its contract. Assumes nothing.
use mathlib.Core.Path.{sym, ◌∙◌}
use borrow.Author.Rules.{rules}
use Rattle.dds.proofs.Writing.{header_known, told_header_refused, told_header_short, told_header}
use Rattle.dds.proofs.dds_header.Goals as goal

pub returns-then-refusal-ne-DONE : goal.returns-then-refusal-ne-DONE
returns-then-refusal-ne-DONE c = told_header_refused _ _ _ _ _ c.write_refusal-refusal.ensures c.if-refusal-ne-DONE.true

pub returns-then-out-lt-HEADER : goal.returns-then-out-lt-HEADER
returns-then-out-lt-HEADER c = told_header_short _ _ _ _ _ c.write_refusal-refusal.ensures c.if-refusal-ne-DONE.false c.if-out-lt-HEADER.true

pub put_header-requires : goal.put_header-requires
put_header-requires c = record { settled = (header_known _ _ _ _ 0 (sym c.write_refusal-refusal.ensures ∙ c.if-refusal-ne-DONE.false)).settled; header_size_in_bounds = search rules }

pub returns : goal.returns
returns c = told_header _ _ _ _ _ c.write_refusal-refusal.ensures c.if-refusal-ne-DONE.false c.if-out-lt-HEADER.false c.put_header.ensures
