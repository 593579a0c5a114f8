-- What the library answers, in the words of specs/: a search through the numbers below n, a count, and `==` of two lists. Assumes nothing.
use Rattle.std.proofs.Common.{◌≡◌, refl, sym, ap, ◌∙◌, subst, ℕ, zero, suc, ◌<◌, ◌≤◌, Bool, true, false, List, [], ◌∷◌, Option, Some, None, arith, ◌==◌, zero-add}
use Rattle.std.specs.Prelude.{MatchOption, count_by, ⊤}
use Rattle.std.specs.declared.ops.Range.{Range}
use Rattle.std.specs.Fn.{Called, CalledAt}
use Rattle.std.specs.Iterator.{YieldsThen}
use Rattle.std.specs.List.{FoldsTo, list_any, range_with_len}
use Rattle.std.specs.Option.{unwrap_or}
use Rattle.std.proofs.iter.Yields.{nat_range_steps}
use Rattle.std.proofs.lemmas.Iterator.{YieldsList-from_range, first_from_Range}
use Rattle.std.proofs.lemmas.Iterator.Search.{any_from_yields_List}
use Rattle.std.proofs.lemmas.List.FromFn.{length-range_with_len, get_or-range_with_len}
use Rattle.std.proofs.lemmas.List.Recursion.{is_count_by, or_is}
use denote.Param.Members.{Mut}
use denote.Ref.{Bor}
use lib.Dec.{T, eqb}
use lib.Pointwise.{pointwise}
use Rattle.laws.specs.Pick.{both}
use Rattle.laws.specs.Made.{count_of}
use Rattle.laws.specs.First.{first_below}
use Rattle.laws.specs.Search.{some}
use Rattle.laws.specs.Every.{same}
use Rattle.laws.proofs.Tests.{and_both}
use Rattle.laws.proofs.Search.{is_true, is_false, some_at, some_found, holds}
use Rattle.laws.proofs.Firsts.{first_at}

-- ---- `any` and `find` over the numbers below n, by a test that the closure computes

module _ (f : ℕ → Bool) where
  none_some : (n : ℕ) → ((k : ℕ) → k < n → f k ≡ false) → some f n ≡ false
  unfolding some
  none_some zero h = refl
  none_some (suc n) h = rw (h n (omega arith)) (none_some n (λ k l. h k (omega arith)))

  none_first : (n : ℕ) → ((k : ℕ) → k < n → f k ≡ false) → first_below f n ≡ n
  unfolding first_below
  none_first zero h = refl
  none_first (suc n) h = let e = none_first n (λ k l. h k (omega arith)) in rw (e, h n (omega arith)) (grind arith)

  -- `position` or `find`, and the length where none is found
  pub position_is : (n : ℕ) (o : Option ℕ) → MatchOption o ((k : ℕ) → k < n → f k ≡ false) (λ i. (i < n) × (f i ≡ true) × ((k : ℕ) → k < i → f k ≡ false))
      → unwrap_or o n ≡ first_below f n
  position_is n None h = sym (none_first n h)
  position_is n (Some i) h = sym (first_at f n i (none_first i h.2) h.1 h.0)

  find_is : (n : ℕ) (o : Option ℕ) → MatchOption o ((k : ℕ) → 0 ≤ k → k < n → f k ≡ false) (λ i. (0 ≤ i) × (i < n) × (f i ≡ true) × ((k : ℕ) → 0 ≤ k → k < i → f k ≡ false))
      → unwrap_or o n ≡ first_below f n
  find_is n None h = position_is n None (λ k l. h k (omega arith) l)
  find_is n (Some i) h = position_is n (Some i) (h.1, h.2, λ k l. h.3 k (omega arith) l)

  some_any : (n : ℕ) → some f n ≡ list_any f (range_with_len 0 n)
  some_any n =
      or_is (list_any f) f refl (λ x xs. refl) (range_with_len 0 n) 0 (some f n)
      (λ t. let h = some_found f n (holds t) in
      (h.place, rw length-range_with_len h.inside, rw (get_or-range_with_len 0 n h.place 0 h.inside, zero-add) (is_true _ h.there)))
      (λ e i h. let l : i < n = rw length-range_with_len at h in
      rw (get_or-range_with_len 0 n i 0 l, zero-add) (is_false (f i) (λ t. subst T e (some_at f n i l t))))

module _ {F : Type 0} (test : ℕ → Bool) (n : ℕ) (u : Range ℕ) (f : F) where
  module _ {g : Mut F (ℕ × Unit {0}) Bool} (computes : (x : ℕ) (b : Bool) (q : F) → Called g f (x, tt) b q → (q ≡ f) × (b ≡ test x)) where
    pub any_below : (r : Bool) → ((xs : List ℕ) × (o : Option ℕ) × (j : F) × YieldsThen nat_range_steps (record { start = 0; end = n }) xs o u
        × FoldsTo (λ p x q. Called g p (x, tt) false q) f xs j × MatchOption o (r ≡ false) (λ x. (r ≡ true) × ((h : F) × Called g j (x, tt) true h)))
        → r ≡ some test n
    any_below r ran = any_from_yields_List test u f r ran (YieldsList-from_range 0 n n refl (omega arith)) computes ∙ sym (some_any test n)

  module _ {g : Mut F (Bor ℕ × Unit {0}) Bool} (computes : (x : ℕ) (b : Bool) (q : F) → CalledAt g f x b q → (q ≡ f) × (b ≡ test x)) where
    pub first_found : (r : Option ℕ) → ((xs : List ℕ) × (j : F) × YieldsThen nat_range_steps (record { start = 0; end = n }) xs r u
        × FoldsTo (λ p x q. CalledAt g p x false q) f xs j × MatchOption r ⊤ (λ x. (h : F) × CalledAt g j x true h))
        → unwrap_or r n ≡ first_below test n
    first_found r ran =
        find_is test n r
        (first_from_Range (record { start = 0; end = n }) u f r (λ k. test k ≡ true) (λ k. test k ≡ false) ran
        (λ x q k. sym (computes x true q k).1) (λ x q k. let h = computes x false q k in (h.0, sym h.1)))

-- ---- `filter` and `count`

pub count_is : (v : ℕ) (l : List ℕ) → count_of v l ≡ count_by (λ x. x == v) l
unfolding count_of
count_is v = is_count_by (count_of v) (λ x. x == v) refl (λ x xs. grind arith)

-- `==`
pub same_is : (xs ys : List ℕ) → pointwise eqb xs ys ≡ same xs ys
same_is [] [] = refl
same_is [] (y ∷ ys) = refl
same_is (x ∷ xs) [] = refl
same_is (x ∷ xs) (y ∷ ys) = and_both (eqb x y) (pointwise eqb xs ys) ∙ ap (both (eqb x y)) (same_is xs ys)
