use mathlib.Core.Path.{◌∙◌}
use Rattle.text.proofs.Texts.{said}
use Rattle.text_check.proofs.Lines as lines
use borrow.Author.Rules.{rules}
use Rattle.text_check.proofs.put_input.Goals as goal

pub returns-then-input-eq0 : goal.returns-then-input-eq0
returns-then-input-eq0 c = record { upper_bound = search rules; written = said c.put_checking.ensures.written (lines.no_input c.args.input.now c.if-input-eq0.true) }

pub returns-then-input-eq-PLACED : goal.returns-then-input-eq-PLACED
returns-then-input-eq-PLACED c = record {
  upper_bound = search rules;
  written = said c.put_checking-then-input-eq-PLACED.ensures.written (lines.placed_text _ _ c.if-input-eq-PLACED.true ∙ lines.rest_input c.args.input.now);
}

pub returns : goal.returns
returns c = record {
  upper_bound = search rules;
  written = said c.put_checking-2.ensures.written (lines.plain_text _ _ c.if-input-eq-PLACED.false ∙ lines.rest_input c.args.input.now);
}
