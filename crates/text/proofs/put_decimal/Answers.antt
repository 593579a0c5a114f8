use borrow.Author.Rules.{rules}
use mathlib.Core.Path.{◌≡◌, refl, sym, ◌∙◌}
use native.Mathlib.Omega.{arith}
use Prim.Native.Nat.{◌-◌}
use lib.ListN.{length, length-set, length-drop}
use lib.Seq.{take_all}
use Rattle.text.proofs.Texts.{said}
use Rattle.text.proofs.Decimals.{digit_none, digit_more, digit_last, digit_end}
use Rattle.text.proofs.put_decimal.Goals as goal

pub loop-first-init : goal.loop-first-init
loop-first-init c = (refl, refl, digit_none c.args.n)

pub loop-first-preserved : goal.loop-first-preserved
loop-first-preserved c =
    let l = c.loop-first in
    (l.invariant.0, simp length-set l.invariant.1, digit_more _ l.digits l.first l.rest _ (search rules) (search rules) l.invariant.2 refl (search rules))

pub returns-then-rest-eq0-clause-written : goal.returns-then-rest-eq0-clause-written
returns-then-rest-eq0-clause-written c =
    let l = c.loop-first in
    let len : length l.digits ≡ 20 = l.invariant.1 in
    said (rw l.invariant.0 at c.put.ensures.written)
    (take_all (20 - (l.first - 1)) _ (simp (length-drop, length-set) (omega arith))
    ∙ sym (digit_last _ l.digits l.first l.rest _ (search rules) (search rules) l.invariant.2 refl c.if-rest-eq0.true))

pub returns-clause-written : goal.returns-clause-written
returns-clause-written c = let l = c.loop-first in said (rw l.invariant.0 at c.put-2.ensures.written) (sym (digit_end _ l.digits l.first l.rest (omega arith) l.invariant.2))
