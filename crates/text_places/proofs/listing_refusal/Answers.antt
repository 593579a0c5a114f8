use mathlib.Core.Path.{sym, ◌∙◌}
use Rattle.text_places.proofs.Whole as whole
use Rattle.text_places.proofs.listing_refusal.Goals as goal

pub returns-then-refusal-ne-DONE : goal.returns-then-refusal-ne-DONE
returns-then-refusal-ne-DONE c = whole.store_refused c.args.store.now c.args.strict c.refusal_in-refusal.ensures c.if-refusal-ne-DONE.true

pub returns-then-not-strict : goal.returns-then-not-strict
returns-then-not-strict c = whole.lenient c.args.store.now c.args.strict (sym c.refusal_in-refusal.ensures ∙ c.if-refusal-ne-DONE.false) (c.if-not-strict.true)

pub returns-then-faults_in-gt0 : goal.returns-then-faults_in-gt0
returns-then-faults_in-gt0 c = whole.damaged c.args.store.now c.args.strict (sym c.refusal_in-refusal.ensures ∙ c.if-refusal-ne-DONE.false) (c.if-not-strict.false) c.faults_in.ensures c.if-faults_in-gt0.true

pub returns : goal.returns
returns c = whole.sound c.args.store.now c.args.strict (sym c.refusal_in-refusal.ensures ∙ c.if-refusal-ne-DONE.false) (c.if-not-strict.false) c.faults_in.ensures c.if-faults_in-gt0.false
