-- `pfm::refusal_for` meets its contract: one law for each return. Assumes nothing.
use mathlib.Core.Path.{◌≡◌, sym, ◌∙◌}
use mathlib.Core.Bool.{true}
use native.Mathlib.Omega.{arith}
use borrow.Author.Rules.{rules}
use Rattle.pfm.specs.File.{size_writable}
use Rattle.pfm.proofs.Calls.{small, bytes_are, write_format, write_size, write_blocks, write_room, write_done}
use Rattle.pfm.proofs.refusal_for.Goals as goal

pub returns-then-format-gt1 : goal.returns-then-format-gt1
returns-then-format-gt1 c = sym (write_format _ _ _ _ _ _ (search rules))

pub returns-then-not-size_even : goal.returns-then-not-size_even
returns-then-not-size_even c = sym (write_size _ _ _ _ _ _ (search rules) (sym c.size_even.ensures ∙ c.if-not-size_even.true))

pub overflow_mul-width : goal.overflow_mul-width
overflow_mul-width c =
    let even : size_writable c.args.width c.args.height ≡ true = sym c.size_even.ensures ∙ c.if-not-size_even.false in
    let k = small _ _ even in record { fits = omega arith }

pub overflow_mul-width-2 : goal.overflow_mul-width-2
overflow_mul-width-2 c =
    let even : size_writable c.args.width c.args.height ≡ true = sym c.size_even.ensures ∙ c.if-not-size_even.false in
    let k = small _ _ even in record { fits = omega arith }

pub returns-then-size-width : goal.returns-then-size-width
returns-then-size-width c =
    let even : size_writable c.args.width c.args.height ≡ true = sym c.size_even.ensures ∙ c.if-not-size_even.false in
    sym (write_blocks _ _ _ _ _ _ (search rules) even (λ e. c.if-size-width.true (e ∙ sym (bytes_are _ _))))

pub returns-then-room-whole : goal.returns-then-room-whole
returns-then-room-whole c =
    let even : size_writable c.args.width c.args.height ≡ true = sym c.size_even.ensures ∙ c.if-not-size_even.false in
    let s = even in
    sym (write_room _ _ _ _ _ _ (search rules) s (c.if-size-width.false ∙ bytes_are _ _) (search rules))

pub returns : goal.returns
returns c =
    let even : size_writable c.args.width c.args.height ≡ true = sym c.size_even.ensures ∙ c.if-not-size_even.false in
    let s = even in
    sym (write_done _ _ _ _ _ _ (search rules) s (c.if-size-width.false ∙ bytes_are _ _) (search rules))
