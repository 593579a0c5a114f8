-- `run_fields::byte_of` meets its contract: the tests, in their order. Assumes nothing.
use borrow.Author.Tests.{eq-eqb, ne_eqb, lt-ltb, le-ltb}
use Rattle.run_fields.specs.Record.{fields_byte}
use Rattle.run_fields.proofs.byte_of.Goals as goal

pub returns-then-k-eq0 : goal.returns-then-k-eq0
unfolding fields_byte
returns-then-k-eq0 c = rw (eq-eqb _ _ c.if-k-eq0.true)

pub returns-then-k-eq1 : goal.returns-then-k-eq1
unfolding fields_byte
returns-then-k-eq1 c = rw (ne_eqb _ _ c.if-k-eq0.false, eq-eqb _ _ c.if-k-eq1.true)

pub returns-then-k-eq2 : goal.returns-then-k-eq2
unfolding fields_byte
returns-then-k-eq2 c = rw (ne_eqb _ _ c.if-k-eq0.false, ne_eqb _ _ c.if-k-eq1.false, eq-eqb _ _ c.if-k-eq2.true)

pub returns-then-k-lt27 : goal.returns-then-k-lt27
unfolding fields_byte
returns-then-k-lt27 c = rw (ne_eqb _ _ c.if-k-eq0.false, ne_eqb _ _ c.if-k-eq1.false, ne_eqb _ _ c.if-k-eq2.false, lt-ltb _ _ c.if-k-lt27.true) c.low_or_high.ensures

pub returns-then-k-eq27 : goal.returns-then-k-eq27
unfolding fields_byte
returns-then-k-eq27 c =
    rw
    (ne_eqb _ _ c.if-k-eq0.false, ne_eqb _ _ c.if-k-eq1.false, ne_eqb _ _ c.if-k-eq2.false, le-ltb _ _ c.if-k-lt27.false, eq-eqb _ _ c.if-k-eq27.true)

pub returns-then-k-eq28 : goal.returns-then-k-eq28
unfolding fields_byte
returns-then-k-eq28 c =
    rw
    (ne_eqb _ _ c.if-k-eq0.false, ne_eqb _ _ c.if-k-eq1.false, ne_eqb _ _ c.if-k-eq2.false, le-ltb _ _ c.if-k-lt27.false, ne_eqb _ _ c.if-k-eq27.false, eq-eqb _ _ c.if-k-eq28.true)

pub returns : goal.returns
unfolding fields_byte
returns c =
    rw
    (ne_eqb _ _ c.if-k-eq0.false, ne_eqb _ _ c.if-k-eq1.false, ne_eqb _ _ c.if-k-eq2.false, le-ltb _ _ c.if-k-lt27.false, ne_eqb _ _ c.if-k-eq27.false, ne_eqb _ _ c.if-k-eq28.false)
