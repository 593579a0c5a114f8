-- `dds::write_refusal` meets its contract: one law for each return. Assumes nothing.
use mathlib.Core.Path.{◌≡◌, sym, ◌∙◌}
use mathlib.Core.Bool.{true}
use native.Mathlib.Omega.{arith}
use borrow.Author.Rules.{rules}
use Rattle.dds.specs.Dds.{size_ours}
use Rattle.dds.proofs.Headers.{size_means, bytes_most}
use Rattle.dds.proofs.Writing.{write_format, write_size, write_blocks, write_room, write_done}
use Rattle.dds.proofs.write_refusal.Goals as goal

pub returns-then-format-gt1 : goal.returns-then-format-gt1
returns-then-format-gt1 c = sym (write_format _ _ _ _ _ (search rules))

pub returns-then-not-size_ours : goal.returns-then-not-size_ours
returns-then-not-size_ours c = sym (write_size _ _ _ _ _ (search rules) (sym c.size_ours.ensures ∙ c.if-not-size_ours.true))

pub block_bytes-bytes-requires : goal.block_bytes-bytes-requires
block_bytes-bytes-requires c =
    let sized : size_ours c.args.width c.args.height ≡ true = sym c.size_ours.ensures ∙ c.if-not-size_ours.false in
    size_means _ _ sized

pub returns-then-size-bytes : goal.returns-then-size-bytes
returns-then-size-bytes c =
    let sized : size_ours c.args.width c.args.height ≡ true = sym c.size_ours.ensures ∙ c.if-not-size_ours.false in
    sym (write_blocks _ _ _ _ _ (search rules) sized (λ e. c.if-size-bytes.true (e ∙ sym c.block_bytes-bytes.ensures)))

pub overflow_add-bytes : goal.overflow_add-bytes
overflow_add-bytes c =
    let sized : size_ours c.args.width c.args.height ≡ true = sym c.size_ours.ensures ∙ c.if-not-size_ours.false in
    omega (arith, c.block_bytes-bytes.ensures, bytes_most _ _ (size_means _ _ sized))

pub returns-then-room-bytes : goal.returns-then-room-bytes
returns-then-room-bytes c =
    let sized : size_ours c.args.width c.args.height ≡ true = sym c.size_ours.ensures ∙ c.if-not-size_ours.false in
    sym (write_room _ _ _ _ _ (search rules) sized (c.if-size-bytes.false ∙ c.block_bytes-bytes.ensures) (omega (arith, c.block_bytes-bytes.ensures)))

pub returns : goal.returns
returns c =
    let sized : size_ours c.args.width c.args.height ≡ true = sym c.size_ours.ensures ∙ c.if-not-size_ours.false in
    sym (write_done _ _ _ _ _ (search rules) sized (c.if-size-bytes.false ∙ c.block_bytes-bytes.ensures) (omega (arith, c.block_bytes-bytes.ensures)))
