-- `dds::sized_of` meets its contract. Assumes nothing.
use mathlib.Core.Path.{◌≡◌, ap, ◌∙◌}
use native.Mathlib.Omega.{arith}
use borrow.Author.Rules.{rules}
use Rattle.dds.specs.Dds.{at_least_one, levels_of}
use Rattle.dds.proofs.Levels.{chain_most}
use Rattle.dds.proofs.Reading.{head_ours, head_sized, levels_fit, sized_refused, sized_badly, sized_fine}
use Rattle.dds.proofs.sized_of.Goals as goal

pub returns-then-read-ne-DONE : goal.returns-then-read-ne-DONE
returns-then-read-ne-DONE c = sized_refused c.head_of-read.ensures c.if-read-ne-DONE.true

pub u32_at-requires : goal.u32_at-requires
u32_at-requires c = let h = head_ours c.head_of-read.ensures c.if-read-ne-DONE.false in omega (arith, h.long)

pub chain_bytes-requires : goal.chain_bytes-requires
chain_bytes-requires c =
    let counted : c.at_least_one-levels.result ≡ levels_of c.args.head.now = c.at_least_one-levels.ensures ∙ ap at_least_one c.u32_at.ensures in
    let h = c.head_of-read.ensures in
    let z = c.if-read-ne-DONE.false in
    record { levels_le_level_limit = levels_fit h z (search rules) counted; size_ours = head_sized h z }

pub overflow_add-chain_bytes : goal.overflow_add-chain_bytes
overflow_add-chain_bytes c =
    let counted : c.at_least_one-levels.result ≡ levels_of c.args.head.now = c.at_least_one-levels.ensures ∙ ap at_least_one c.u32_at.ensures in
    let h = c.head_of-read.ensures in
    let z = c.if-read-ne-DONE.false in
    omega (arith, c.chain_bytes.ensures, chain_most _ _ _ (levels_fit h z (search rules) counted) (head_sized h z))

pub returns-then-size-chain_bytes : goal.returns-then-size-chain_bytes
returns-then-size-chain_bytes c =
    let counted : c.at_least_one-levels.result ≡ levels_of c.args.head.now = c.at_least_one-levels.ensures ∙ ap at_least_one c.u32_at.ensures in
    sized_badly c.head_of-read.ensures c.if-read-ne-DONE.false counted c.chain_bytes.ensures c.if-size-chain_bytes.true c.refused.ensures

pub returns : goal.returns
returns c =
    let counted : c.at_least_one-levels.result ≡ levels_of c.args.head.now = c.at_least_one-levels.ensures ∙ ap at_least_one c.u32_at.ensures in
    sized_fine c.head_of-read.ensures c.if-read-ne-DONE.false counted c.chain_bytes.ensures c.if-size-chain_bytes.false
