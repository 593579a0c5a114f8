-- `probe_put::copy_store` meets its contract. Assumes nothing.
use mathlib.Core.Path.{◌≡◌, refl, ap, ap₂, ◌∙◌}
use mathlib.Core.List.{List, ◌++◌}
use Prim.Native.Nat.{ℕ, ◌+◌}
use native.Mathlib.Numerals.{add-one}
use native.Mathlib.Omega.{arith}
use lib.ListN.{length, get_or, set, drop, length-set}
use lib.Seq.{paste, paste-zero, paste-suc, take_all}
use borrow.Author.Rules.{rules}
use Rattle.probe_put.proofs.copy_store.Goals as goal

pub loop-i-init : goal.loop-i-init
loop-i-init c = (search rules, paste-zero c.args.out.now 0 c.args.store.now, refl)

pub loop-i-preserved : goal.loop-i-preserved
loop-i-preserved c =
    let l = c.loop-i in
    let z : l.i ≡ 0 + l.i = omega arith in (
      search rules,
      rw (l.invariant.1, add-one)
          (ap (λ (k : ℕ). set (paste c.args.out.now 0 c.args.store.now l.i) k (get_or c.args.store.now l.i 0)) z
          ∙ paste-suc c.args.out.now 0 c.args.store.now l.i 0 (omega arith) (omega arith)),
      simp length-set l.invariant.2,
    )

pub returns : goal.returns
returns c =
    let s = c.args.store.now in
    let e : c.loop-i.i ≡ length s = omega arith in
    let z : 0 + length s ≡ length s = omega arith in
    rw e at c.loop-i.invariant.1 ∙ ap₂ (λ (t : List ℕ) (k : ℕ). t ++ drop k c.args.out.now) (take_all (length s) s (omega arith)) z
