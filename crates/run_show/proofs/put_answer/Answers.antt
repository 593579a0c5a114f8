-- `run_show::put_answer` meets its contract: one byte a turn. Assumes nothing.
use mathlib.Core.Path.{◌≡◌, refl, ap}
use mathlib.Core.List.{List, ◌++◌}
use Prim.Native.Nat.{ℕ, ◌≤◌}
use native.Mathlib.Omega.{arith}
use lib.ListN.{length, take, drop}
use lib.Seq.{length-take-le}
use Rattle.laws.proofs.Rows.{made_none, made_store, made_all}
use Rattle.run_show.proofs.put_answer.Goals as goal

long : (out : List ℕ) → 97 ≤ length out → length (take 97 out) ≡ 97
long out h = length-take-le 97 out h

pub loop-k-init : goal.loop-k-init
loop-k-init c = made_none _ _

pub byte_of-requires : goal.byte_of-requires
byte_of-requires c = let l = long c.args.out.now c.requires in omega arith

pub loop-k-preserved : goal.loop-k-preserved
loop-k-preserved c = made_store _ _ _ _ _ _ c.loop-k.invariant refl c.byte_of.ensures (omega arith)

pub returns : goal.returns
returns c =
    let l = long c.args.out.now c.requires in
    ap (λ (x : List ℕ). x ++ drop 97 c.args.out.now) (made_all _ _ _ 97 _ c.loop-k.invariant (omega arith) (omega arith) (omega arith))
