use mathlib.Core.Path.{◌≡◌, sym}
use Prim.Native.Nat.{ℕ}
use native.Mathlib.Omega.{arith}
use lib.ListN.{length, replicate, length-replicate}
use lib.Seq.{length-take-le}
use Rattle.store_records.specs.Store.{store_limit}
use Rattle.text_clean.proofs.Lines as lines
use borrow.Author.Rules.{rules}
use Rattle.text_clean.proofs.put_cleaning.Goals as goal

room : length (replicate {A = ℕ} store_limit 0) ≡ store_limit
room = length-replicate {A = ℕ} store_limit 0

pub put_text-end-requires : goal.put_text-end-requires
put_text-end-requires c = record { most_records_in_bounds = search rules; cleaned_value = lines.cleaned_is room c.clean_store-cleaned.ensures }

pub overflow_mul-size : goal.overflow_mul-size
overflow_mul-size c = let n = lines.left_size room c.clean_store-cleaned.ensures in omega arith

pub slice_bounds-left-end : goal.slice_bounds-left-end
slice_bounds-left-end c = let n = lines.left_size room c.clean_store-cleaned.ensures in omega arith

pub slice_bounds-put-end : goal.slice_bounds-put-end
slice_bounds-put-end c = let n = lines.left_size room c.clean_store-cleaned.ensures in sym (length-take-le _ _ (omega arith))

pub put-requires : goal.put-requires
put-requires c = let f = lines.left_fits room c.clean_store-cleaned.ensures in omega arith

pub returns : goal.returns
returns c =
    let d = c.clean_store-cleaned.ensures in
    let f = lines.left_fits room d in
    record { upper_bound = search rules; written = lines.output_put room d c.put_text-end.ensures.written c.put.ensures.written }
