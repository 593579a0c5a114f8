-- `run_fields::write_record` meets its contract: the record's bytes, one a turn. Assumes nothing.
use mathlib.Core.Path.{◌≡◌}
use mathlib.Core.List.{◌++◌}
use lib.ListN.{drop}
use Rattle.laws.specs.Made.{made}
use Rattle.run_fields.specs.Record.{fields_byte}
use Rattle.run_fields.proofs.write_record.Given as goal

abbrev pub invariant-loop-k : goal.invariant-loop-k
invariant-loop-k l = l.byte-items ≡ made (fields_byte (record { answer = l.answer; fields = l.fields })) l.k ++ drop l.k l.initial.byte-items
