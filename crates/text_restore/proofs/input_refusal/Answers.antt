use Rattle.text_restore.proofs.Answering as laws
use borrow.Author.Rules.{rules}
use Rattle.text_restore.proofs.input_refusal.Goals as goal

pub returns-then-input-lt-LENGTH : goal.returns-then-input-lt-LENGTH
returns-then-input-lt-LENGTH c = laws.cut_length c.args.input.now (search rules)

pub returns-then-size-gt-STORE : goal.returns-then-size-gt-STORE
returns-then-size-gt-STORE c = laws.long_length c.args.input.now _ c.cleaned_length-size.ensures (search rules) (search rules)

pub returns-then-input-size : goal.returns-then-input-size
returns-then-input-size c = laws.cut_store c.args.input.now _ c.cleaned_length-size.ensures (search rules) (search rules) (search rules)

pub returns : goal.returns
returns c = laws.whole_input c.args.input.now _ c.cleaned_length-size.ensures (search rules) (search rules) (search rules)
