-- `dds::chain_bytes` meets its contract. Assumes nothing.
use mathlib.Core.Path.{◌≡◌, refl}
use Prim.Native.Nat.{◌+◌}
use native.Mathlib.Omega.{arith}
use borrow.Author.Rules.{rules}
use Rattle.dds.specs.Dds.{chain_bytes}
use Rattle.dds.proofs.Levels.{chain_most, chain_next}
use Rattle.dds.proofs.chain_bytes.Goals as goal

pub loop-level-init : goal.loop-level-init
unfolding chain_bytes
loop-level-init c = (search rules, refl)

pub overflow_add-bytes : goal.overflow_add-bytes
overflow_add-bytes c =
    let next : (let l = c.loop-level in let a = c.args in l.bytes + c.level_bytes-bytes.result ≡ chain_bytes (l.level + 1) a.width a.height) = let l = c.loop-level in chain_next l.level _ _ l.invariant.1 c.level_bytes-bytes.ensures in
    let l = c.loop-level in
    let a = c.args in
    omega (arith, next, chain_most (l.level + 1) a.width a.height (search rules) c.requires.size_ours)

pub loop-level-preserved : goal.loop-level-preserved
loop-level-preserved c =
    let next : (let l = c.loop-level in let a = c.args in l.bytes + c.level_bytes-bytes.result ≡ chain_bytes (l.level + 1) a.width a.height) = let l = c.loop-level in chain_next l.level _ _ l.invariant.1 c.level_bytes-bytes.ensures in
    (search rules, next)

pub returns : goal.returns
returns c =
    let e : c.loop-level.level ≡ c.args.levels = omega arith in
    rw e at c.loop-level.invariant.1
