use mathlib.Core.Path.{◌≡◌, sym}
use Prim.Native.Nat.{ℕ}
use native.Mathlib.Omega.{arith}
use lib.ListN.{length, replicate, length-replicate}
use lib.Seq.{length-take-le}
use Rattle.store_records.specs.Store.{store_limit}
use Rattle.text_restore.proofs.Answering as laws
use borrow.Author.Rules.{rules}
use Rattle.text_restore.proofs.put_restored.Goals as goal

room : length (replicate {A = ℕ} store_limit 0) ≡ store_limit
room = length-replicate {A = ℕ} store_limit 0

pub overflow_mul-size : goal.overflow_mul-size
overflow_mul-size c = let n = laws.records_fit room c.restore_store-restored.ensures in omega arith

pub slice_bounds-store-end : goal.slice_bounds-store-end
slice_bounds-store-end c = let n = laws.records_fit room c.restore_store-restored.ensures in omega arith

pub slice_bounds-put-end-2 : goal.slice_bounds-put-end-2
slice_bounds-put-end-2 c = let n = laws.records_fit room c.restore_store-restored.ensures in sym (length-take-le _ _ (omega arith))

pub put-requires : goal.put-requires
put-requires c = let f = laws.restored_fits room c.restore_store-restored.ensures in omega arith

pub returns : goal.returns
returns c =
    let d = c.restore_store-restored.ensures in
    let f = laws.restored_fits room d in
    record { upper_bound = search rules; written = laws.output_put room d (search rules) c.put-end.ensures.written c.put.ensures.written }
