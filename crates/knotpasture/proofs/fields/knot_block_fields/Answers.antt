use mathlib.Core.Path.{◌≡◌, ap, sym, ◌∙◌}
use mathlib.Core.List.{◌++◌}
use native.Mathlib.Omega.{arith}
use lib.ListN.{drop}
use Rattle.bcn_spec.proofs.Refusals.{positive}
use Rattle.bc6_fields.specs.Call.{told}
use Rattle.bc6_numbers.specs.Numbers.{number_count, numbers_of}
use Rattle.knotpasture.specs.Words.{two_bytes}
use Rattle.knotpasture.proofs.FieldWords.{fields_refused, fields_short, fields_done}
use Rattle.knotpasture.proofs.fields.knot_block_fields.Goals as goal

pub returns-in-Err : goal.returns-in-Err
returns-in-Err c =
    let is : (told c.block_fields.result).answer ≡ c.number.result = ap (λ r. (told r).answer) c.in-Err.is ∙ sym c.number.ensures in
    let d = fields_refused c.block_fields.ensures c.args.numbers.now (λ z. omega (arith, is, c.number.ensures, positive c.in-Err.refusal, z)) in
    rw is at d

pub returns-then-numbers-lt-NUMBERS : goal.returns-then-numbers-lt-NUMBERS
returns-then-numbers-lt-NUMBERS c = fields_short c.block_fields.ensures _ (ap (λ r. (told r).answer) c.in-Ok.is) c.if-numbers-lt-NUMBERS.true

pub returns : goal.returns
returns c =
    fields_done c.block_fields.ensures _ (ap (λ r. (told r).answer) c.in-Ok.is) c.if-numbers-lt-NUMBERS.false
    (c.write_numbers.ensures ∙ ap (λ r. numbers_of (told r).fields ++ drop number_count c.args.numbers.now) (sym c.in-Ok.is))
    (c.two_bytes.ensures ∙ ap (λ r. two_bytes 0 (told r).fields.mode) (sym c.in-Ok.is))
