use Prim.Native.Nat.{◌-◌}
use Rattle.probe_places.specs.Places.{places_in}
use Rattle.text.proofs.Lines.{no_lines}
use Rattle.text_places_audit.proofs.Lines as lines
use borrow.Author.Rules.{rules}
use Rattle.text_places_audit.proofs.put_copies.Goals as goal

pub loop-n-init : goal.loop-n-init
loop-n-init c =
    let a = c.args in
    (search rules, search rules, search rules, lines.no_tally a.store.now, no_lines _ _ _)

pub loop-n-preserved-then-first-n : goal.loop-n-preserved-then-first-n
loop-n-preserved-then-first-n c =
    let l = c.loop-n in
    let store = c.args.store.now in
    let f = c.first_of-first.ensures.value in
    (search rules, search rules, search rules, lines.tally_skipped store l.n _ f c.if-first-n.true l.invariant.3, lines.line_skipped store l.n _ f c.if-first-n.true l.invariant.4)

pub loop-n-preserved : goal.loop-n-preserved
loop-n-preserved c =
    let l = c.loop-n in
    let store = c.args.store.now in
    let f = c.first_of-first.ensures.value in
    (search rules, search rules, search rules, lines.tally_more store l.n _ f (search rules) l.invariant.3, lines.line_more store l.n _ f (search rules) l.invariant.4 c.put_copy-end.ensures.written)

pub returns : goal.returns
returns c =
    let l = c.loop-n in
    let store = c.args.store.now in
    record { upper_bound = search rules; written = lines.tallied store l.n (places_in store) (search rules) (search rules) l.invariant.3 c.faults_in-faults.ensures l.invariant.4 c.put_tally.ensures.written }
