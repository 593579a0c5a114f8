-- `bc6_numbers::write_numbers` meets its contract: one number a turn. Assumes nothing.
use mathlib.Core.Path.{◌≡◌, refl, ap}
use mathlib.Core.List.{List, ◌++◌}
use Prim.Native.Nat.{ℕ, ◌≤◌}
use native.Mathlib.Omega.{arith}
use lib.ListN.{length, take, drop}
use lib.Seq.{length-take-le}
use Rattle.laws.proofs.Rows.{made_none, made_store, made_all}
use Rattle.bc6_numbers.specs.Numbers.{numbers_of}
use Rattle.bc6_numbers.proofs.write_numbers.Goals as goal

long : (numbers : List ℕ) → 32 ≤ length numbers → length (take 32 numbers) ≡ 32
long numbers h = length-take-le 32 numbers h

pub loop-k-init : goal.loop-k-init
loop-k-init c = made_none _ _

pub number_at-requires : goal.number_at-requires
number_at-requires c = let l = long c.args.numbers.now c.requires in omega arith

pub loop-k-preserved : goal.loop-k-preserved
loop-k-preserved c = made_store _ _ _ _ _ _ c.loop-k.invariant refl c.number_at.ensures (omega arith)

pub returns : goal.returns
unfolding numbers_of
returns c =
    let l = long c.args.numbers.now c.requires in
    ap (λ (x : List ℕ). x ++ drop 32 c.args.numbers.now) (made_all _ _ _ 32 _ c.loop-k.invariant (omega arith) (omega arith) (omega arith))
