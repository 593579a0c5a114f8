use mathlib.Core.Path.{ap}
use native.Mathlib.Omega.{arith}
use Rattle.store_receipt.specs.declared.Entry.{Entry}
use Rattle.store_restore.proofs.Restoring.{put_both}
use Rattle.store_restore.proofs.put_back.Goals as goal

pub overflow_mul-rest : goal.overflow_mul-rest
overflow_mul-rest c = let q = ap (λ (y : Entry). y.stays) c.entry_at-stays.ensures in omega arith

pub overflow_add-rest : goal.overflow_add-rest
overflow_add-rest c = let q = ap (λ (y : Entry). y.stays) c.entry_at-stays.ensures in omega arith

pub returns : goal.returns
returns c =
    let a = c.args in
    let q = ap (λ (y : Entry). y.stays) c.entry_at-stays.ensures in
    put_both a.receipt.now a.e a.out.now a.n _ _ c.entry_at-stays.result.stays q c.copy_tile.ensures c.copy_rest.ensures
