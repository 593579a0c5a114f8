-- `bc6_runs::run` meets its contract. Assumes nothing.
use Rattle.bc6_runs.specs.Ends.{run_in}
use Rattle.bc6_runs.proofs.Tables.{Readable, can_read, part_read}
use Rattle.bc6_runs.proofs.run.Goals as goal

pub skip-rest-requires : goal.skip-rest-requires
skip-rest-requires c =
    let good : Readable (run_in c.args.code) = can_read (run_in c.args.code) c.requires in
    good.in_block

pub consume_bits-read-requires : goal.consume_bits-read-requires
consume_bits-read-requires c =
    let good : Readable (run_in c.args.code) = can_read (run_in c.args.code) c.requires in
    good.short

pub overflow_shl-result : goal.overflow_shl-result
overflow_shl-result c =
    let good : Readable (run_in c.args.code) = can_read (run_in c.args.code) c.requires in
    good.in_word

pub returns : goal.returns
returns c =
    let good : Readable (run_in c.args.code) = can_read (run_in c.args.code) c.requires in
    part_read _ _ good c.skip-rest.ensures c.consume_bits-read.ensures.next
