use Rattle.text.proofs.Texts.{said}
use Rattle.text_restore.proofs.Answering as laws
use borrow.Author.Rules.{rules}
use Rattle.text_restore.proofs.put_restoring.Goals as goal

pub returns-then-refusal-ne-DONE : goal.returns-then-refusal-ne-DONE
returns-then-refusal-ne-DONE c = record { upper_bound = search rules; written = said c.put.ensures.written (laws.refused_output c.args.input.now _ c.input_refusal-refusal.ensures c.if-refusal-ne-DONE.true) }

pub cleaned_length-start-requires : goal.cleaned_length-start-requires
cleaned_length-start-requires c = let w = laws.whole_as_told c.args.input.now c.input_refusal-refusal.ensures c.if-refusal-ne-DONE.false in search rules

pub overflow_add-start : goal.overflow_add-start
overflow_add-start c = let w = laws.whole_as_told c.args.input.now c.input_refusal-refusal.ensures c.if-refusal-ne-DONE.false in search rules

pub slice_bounds-put_restored-end : goal.slice_bounds-put_restored-end
slice_bounds-put_restored-end c = let w = laws.whole_as_told c.args.input.now c.input_refusal-refusal.ensures c.if-refusal-ne-DONE.false in search rules

pub slice_bounds-put_restored-count-2 : goal.slice_bounds-put_restored-count-2
slice_bounds-put_restored-count-2 c = let w = laws.whole_as_told c.args.input.now c.input_refusal-refusal.ensures c.if-refusal-ne-DONE.false in search rules

pub slice_bounds-put_restored-start-2 : goal.slice_bounds-put_restored-start-2
slice_bounds-put_restored-start-2 c = let w = laws.whole_as_told c.args.input.now c.input_refusal-refusal.ensures c.if-refusal-ne-DONE.false in search rules

pub returns : goal.returns
returns c = record { upper_bound = search rules; written = said c.put_restored.ensures.written (laws.parts_output c.args.input.now _ c.cleaned_length-start.ensures c.input_refusal-refusal.ensures c.if-refusal-ne-DONE.false) }
