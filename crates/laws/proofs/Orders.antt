-- Laws of the orders of records: each record of the one store is in the other, and an order is one both ways.
-- Assumes nothing.
use mathlib.Core.Path.{◌≡◌, sym, ◌∙◌, ap, subst}
use mathlib.Core.List.{List}
use Prim.Native.Nat.{ℕ, ◌/◌, ◌≤◌, ◌<◌}
use native.Mathlib.Omega.{arith}
use lib.ListN.{length}
use borrow.Author.Tests.{eqb-true}
use Rattle.laws.specs.First.{first_below}
use Rattle.laws.specs.Order.{record_in, Reordered}
use Rattle.laws.proofs.Search.{Found, is_true}
use Rattle.laws.proofs.Firsts.{first_passes, first_least}
use Rattle.laws.proofs.Pigeons.{Into, hits, onto}

module _ {size : ℕ} {s t : List ℕ} (o : Reordered size s t) where
  counts : length t / size ≡ length s / size
  counts = ap (λ (x : ℕ). x / size) o.same_size

  into : Into (length t / size) (length t / size) o.from
  into = record { inside = λ k h. subst (λ (x : ℕ). o.from k < x) (sym counts) (o.inside k h); apart = o.apart }

  -- every record of the first store is in the second
  pub come_from : (m : ℕ) → m < length s / size → Found (hits o.from m) (length t / size)
  come_from m h = onto o.from (length t / size) into m (subst (λ (x : ℕ). m < x) (sym counts) h)

  first_inside : (m : ℕ) → m < length s / size → first_below (hits o.from m) (length t / size) < length t / size
  first_inside m h =
      let f = come_from m h in
      let i : f.place < length t / size = f.inside in
      let l : first_below (hits o.from m) (length t / size) ≤ f.place = first_least (hits o.from m) (length t / size) f.place i (is_true _ f.there) in
      omega arith

  first_hits : (m : ℕ) → m < length s / size → o.from (first_below (hits o.from m) (length t / size)) ≡ m
  first_hits m h = eqb-true _ _ (first_passes (hits o.from m) (length t / size) (first_inside m h))

  -- the second store's records in the first one's order
  pub ordered_back : Reordered size t s
  ordered_back = record {
    same_size = sym o.same_size;
    from = λ m. first_below (hits o.from m) (length t / size);
    inside = λ m h. first_inside m h;
    apart = λ m n hm hn e. sym (first_hits m hm) ∙ ap o.from e ∙ first_hits n hn;
    same_bytes = λ m h. sym (o.same_bytes _ (first_inside m h) ∙ ap (record_in size s) (first_hits m h));
  }
