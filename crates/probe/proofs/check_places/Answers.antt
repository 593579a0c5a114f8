use mathlib.Core.Path.{refl}
use native.Mathlib.Omega.{arith}
use Rattle.probe.proofs.Checking.{no_edge, long_edge, long, uneven, sizes_done, checked_sizes, checked_record, checked_empty, checked_done}
use borrow.Author.Rules.{rules}
use Rattle.probe.proofs.check_places.Goals as goal

pub returns-then-edge-eq0 : goal.returns-then-edge-eq0
returns-then-edge-eq0 c = checked_sizes _ _ 18 (no_edge _ _ (search rules)) c.alone.ensures

pub returns-then-edge-gt-EDGE : goal.returns-then-edge-gt-EDGE
returns-then-edge-gt-EDGE c = checked_sizes _ _ 18 (long_edge _ _ (search rules) (search rules)) c.alone-then-edge-gt-EDGE.ensures

pub returns-then-store-gt-STORE : goal.returns-then-store-gt-STORE
returns-then-store-gt-STORE c = checked_sizes _ _ 4 (long _ _ (search rules) (search rules) (search rules)) c.alone-then-store-gt-STORE.ensures

pub returns-then-store-ne0 : goal.returns-then-store-ne0
returns-then-store-ne0 c = checked_sizes _ _ 5 (uneven _ _ (search rules) (search rules) (search rules) (search rules)) c.alone-then-store-ne0.ensures

pub hold_records-held-requires : goal.hold_records-held-requires
hold_records-held-requires c = record { edge_le_edge_limit = omega arith; store_bound = omega arith; held = c.requires }

pub returns-then-held-ne-DONE : goal.returns-then-held-ne-DONE
returns-then-held-ne-DONE c = checked_record _ _ (sizes_done _ _ c.if-edge-eq0.false (omega arith) (omega arith) (omega arith)) c.hold_records-held.ensures c.if-held-ne-DONE.true refl

pub has_vacant-requires : goal.has_vacant-requires
has_vacant-requires c = (c.hold_records-held.ensures.holds c.if-held-ne-DONE.false).size

pub returns-then-has_vacant : goal.returns-then-has_vacant
returns-then-has_vacant c = checked_empty _ _ (sizes_done _ _ c.if-edge-eq0.false (omega arith) (omega arith) (omega arith)) c.hold_records-held.ensures (omega arith) c.if-held-ne-DONE.false c.has_vacant.ensures c.if-has_vacant.true c.alone-then-has_vacant.ensures

pub returns : goal.returns
returns c = checked_done _ _ (sizes_done _ _ c.if-edge-eq0.false (omega arith) (omega arith) (omega arith)) c.hold_records-held.ensures (omega arith) c.if-held-ne-DONE.false c.has_vacant.ensures c.if-has_vacant.false c.none.ensures
