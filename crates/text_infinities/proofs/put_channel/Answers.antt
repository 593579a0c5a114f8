use borrow.Author.Tests.{eq-eqb, ne_eqb}
use Rattle.text.proofs.Texts.{said}
use Rattle.text_infinities.specs.Infinities.{channel_word}
use borrow.Author.Rules.{rules}
use Rattle.text_infinities.proofs.put_channel.Goals as goal

pub returns-then-channel-eq0 : goal.returns-then-channel-eq0
unfolding channel_word
returns-then-channel-eq0 c = record { upper_bound = search rules; written = said c.put.ensures.written (rw (eq-eqb _ _ c.if-channel-eq0.true)) }

pub returns-then-channel-eq1 : goal.returns-then-channel-eq1
unfolding channel_word
returns-then-channel-eq1 c = record { upper_bound = search rules; written = said c.put-then-channel-eq1.ensures.written (rw (ne_eqb _ _ c.if-channel-eq0.false, eq-eqb _ _ c.if-channel-eq1.true)) }

pub returns : goal.returns
unfolding channel_word
returns c = record { upper_bound = search rules; written = said c.put-2.ensures.written (rw (ne_eqb _ _ c.if-channel-eq0.false, ne_eqb _ _ c.if-channel-eq1.false)) }
