-- What a look at the numbers of a range answers. Assumes nothing.
use Rattle.std.proofs.Common.{◌≡◌, sym, ◌∙◌, ℕ, ◌<◌, Bool, true, false, MatchBool, length, get_or, zero-add, arith}
use Rattle.std.specs.List.{HoldsAt, AllWithin, range_with_len}
use Rattle.std.proofs.lemmas.List.FromFn.{length-range_with_len, get_or-range_with_len}
use Rattle.laws.specs.Search.{some}
use Rattle.laws.proofs.Search.{is_true, is_false, some_found, some_here}
use Rattle.laws.proofs.Sameness.{true_false}

module _ (test : ℕ → Bool) (n : ℕ) where
  number : (k : ℕ) → k < n → get_or (range_with_len 0 n) k 0 ≡ k
  number k h = get_or-range_with_len 0 n k 0 h ∙ zero-add k

  pub some_of : (r : Bool)
      → MatchBool r ((k : ℕ) × (k < length (range_with_len 0 n)) × HoldsAt (λ x. test x ≡ true) (range_with_len 0 n) k)
      (AllWithin (λ x. test x ≡ false) (range_with_len 0 n) 0 (length (range_with_len 0 n)))
      → r ≡ some test n
  some_of true h =
      let l : h.0 < n = omega (arith, length-range_with_len 0 n, h.1) in
      some_here test n h.0 (rw (number h.0 l) at (h.2 0)) l
  some_of false h =
      sym (is_false (some test n) (λ t.
      let w = some_found test n t in
      let l : w.place < length (range_with_len 0 n) = omega (arith, length-range_with_len 0 n, w.inside) in
      true_false (sym (is_true _ w.there) ∙ rw (number w.place w.inside) at (h w.place 0 (omega arith) l))))
