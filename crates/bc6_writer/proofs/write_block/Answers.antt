-- `bc6_writer::write_block` meets its contract: one law for each return. Assumes nothing.
use borrow.Author.Rules.{rules}
use Rattle.bc6_valid.proofs.Verdict.{is_known}
use Rattle.bc6_writer.proofs.Calls as laws
use Rattle.bc6_writer.proofs.write_block.Goals as goal

pub returns-then-fields-gt1 : goal.returns-then-fields-gt1
returns-then-fields-gt1 c = laws.bad_format_lem _ _ (search rules)

pub returns-then-not-is_valid : goal.returns-then-not-is_valid
returns-then-not-is_valid c = laws.bad_record _ _ (search rules) c.is_valid.ensures (c.if-not-is_valid.true)

pub returns-then-out-ne-SIZE : goal.returns-then-out-ne-SIZE
returns-then-out-ne-SIZE c = laws.bad_buffer_lem _ _ (search rules) c.is_valid.ensures (c.if-not-is_valid.false) c.if-out-ne-SIZE.true

pub block_words-requires : goal.block_words-requires
block_words-requires c = is_known _ c.is_valid.ensures (c.if-not-is_valid.false)

pub returns : goal.returns
returns c =
    laws.all_written _ _ (search rules) c.is_valid.ensures (c.if-not-is_valid.false) c.if-out-ne-SIZE.false
    c.write_bytes.ensures c.block_words.ensures
