-- `any` over n numbers from `first` on, by a test that the closure computes: `any_below` of laws/proofs/Chains has those from 0 on. Assumes nothing.
use Rattle.std.proofs.Common.{◌≡◌, refl, sym, ap, ◌∙◌, subst, ℕ, ◌+◌, ◌<◌, Bool, true, false, List, Option, arith}
use Rattle.std.specs.Prelude.{MatchOption}
use Rattle.std.specs.declared.ops.Range.{Range}
use Rattle.std.specs.Fn.{Called}
use Rattle.std.specs.Iterator.{YieldsThen}
use Rattle.std.specs.List.{FoldsTo, list_any, range_with_len}
use Rattle.std.proofs.iter.Yields.{nat_range_steps}
use Rattle.std.proofs.lemmas.Iterator.{YieldsList-from_range}
use Rattle.std.proofs.lemmas.Iterator.Search.{any_from_yields_List}
use Rattle.std.proofs.lemmas.List.FromFn.{length-range_with_len, get_or-range_with_len}
use Rattle.std.proofs.lemmas.List.Recursion.{or_is}
use denote.Param.Members.{Mut}
use lib.Dec.{T}
use Rattle.laws.specs.Search.{some}
use Rattle.laws.proofs.Search.{is_true, is_false, some_at, some_found, holds}

module _ (test : ℕ → Bool) (first n : ℕ) where
  some_any : some (λ k. test (first + k)) n ≡ list_any test (range_with_len first n)
  some_any =
      or_is (list_any test) test refl (λ x xs. refl) (range_with_len first n) 0 (some (λ k. test (first + k)) n)
      (λ t. let h = some_found _ n (holds t) in
      (h.place, rw length-range_with_len h.inside, rw (get_or-range_with_len first n h.place 0 h.inside) (is_true _ h.there)))
      (λ e i h. let l : i < n = rw length-range_with_len at h in
      rw (get_or-range_with_len first n i 0 l) (is_false (test (first + i)) (λ t. subst T e (some_at _ n i l t))))

  module _ {F : Type 0} (u : Range ℕ) (f : F) {g : Mut F (ℕ × Unit {0}) Bool} (computes : (x : ℕ) (b : Bool) (q : F) → Called g f (x, tt) b q → (q ≡ f) × (b ≡ test x)) where
    pub any_from : {low high : ℕ} → low ≡ first → high ≡ first + n → (r : Bool) → ((xs : List ℕ) × (o : Option ℕ) × (j : F) × YieldsThen nat_range_steps (record { start = low; end = high }) xs o u
        × FoldsTo (λ p x q. Called g p (x, tt) false q) f xs j × MatchOption o (r ≡ false) (λ x. (r ≡ true) × ((h : F) × Called g j (x, tt) true h)))
        → r ≡ some (λ k. test (first + k)) n
    any_from {low} {high} p q r ran =
        any_from_yields_List test u f r ran (YieldsList-from_range low high n refl (omega (arith, p, q))) computes
        ∙ ap (λ x. list_any test (range_with_len x n)) p ∙ sym some_any
