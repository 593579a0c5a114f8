-- How much of a store the program has to read. Assumes nothing.
use mathlib.Core.Path.{◌≡◌, sym, ap, ◌∙◌}
use mathlib.Core.List.{List, append-nil}
use Prim.Native.Nat.{ℕ, ◌+◌, ◌<◌}
use native.Mathlib.Omega.{arith}
use lib.Dec.{ltb}
use lib.ListN.{length, take}
use lib.Seq.{length-take-le, take_all}
use borrow.Author.Tests.{lt-ltb, ltb-true, ltb-false}
use Rattle.laws.proofs.Tests.{cases}
use Rattle.bcn_spec.specs.Answers.{long_store}
use Rattle.store_records.specs.Store.{store_limit}
use Rattle.store_spec.specs.Twins.{list_refusal}
use Rattle.text.specs.Text.{refusal_line}
use Rattle.text_clean.specs.CleanText.{cleaning_text, cleaning_output, ReadEnough}

too_long : (store : List ℕ) → store_limit < length store → cleaning_output store ≡ refusal_line long_store
unfolding cleaning_output cleaning_text list_refusal
too_long store h = rw (lt-ltb store_limit (length store) h) (append-nil _)

pub read_enough : ReadEnough
read_enough store =
    cases (ltb store_limit (length store))
    (λ t. let h : store_limit < length store = ltb-true _ _ t in
    let n : length (take (store_limit + 1) store) ≡ store_limit + 1 = length-take-le (store_limit + 1) store (omega arith) in
    too_long (take (store_limit + 1) store) (omega arith) ∙ sym (too_long store h))
    (λ f. ap cleaning_output (take_all (store_limit + 1) store (omega (arith, ltb-false store_limit (length store) f))))
