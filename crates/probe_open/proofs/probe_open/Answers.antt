-- `probe_open::probe_open` meets its contract. Assumes nothing.
use borrow.Author.Rules.{rules}
use mathlib.Core.Path.{refl, sym, ◌∙◌}
use lib.Seq.{length-take-le}
use Rattle.probe.proofs.Holding.{held_none}
use Rattle.probe_open.proofs.Opening.{open_refused, open_short, open_done}
use Rattle.probe_open.proofs.probe_open.Goals as goal

pub check_places-fault-requires : goal.check_places-fault-requires
check_places-fault-requires c = held_none _ _ refl

pub returns-then-fault-ne-DONE : goal.returns-then-fault-ne-DONE
returns-then-fault-ne-DONE c = open_refused _ c.check_places-fault.ensures c.if-fault-ne-DONE.true

pub returns-then-table-lt-PLACES : goal.returns-then-table-lt-PLACES
returns-then-table-lt-PLACES c = open_short _ c.check_places-fault.ensures c.if-fault-ne-DONE.false (search rules) c.alone.ensures

pub copy_from_slice-requires : goal.copy_from_slice-requires
copy_from_slice-requires c =
    length-take-le 1536 c.args.table.now c.if-table-lt-PLACES.false ∙ sym (c.check_places-fault.ensures.holds c.if-fault-ne-DONE.false).size

pub returns : goal.returns
returns c = open_done _ c.check_places-fault.ensures c.if-fault-ne-DONE.false (search rules) (rw c.copy_from_slice.ensures.after) c.none.ensures
