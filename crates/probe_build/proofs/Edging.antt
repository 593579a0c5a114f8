-- The search for an edge, and what its number means. Assumes nothing.
use Rattle.std.proofs.Common.{◌≡◌, ℕ, ◌+◌, ◌-◌, ◌*◌, ◌%◌, ◌<◌, ◌≤◌, true, ltb, List, length, sym, refl, ap, ◌∙◌, add-mul, mul-le-mul, arith, ltb-false, ltb-true, lt-ltb, eq-eqb, ne_eqb, eqb-true}
use native.Mathlib.Decide.{dec_lt}
use Rattle.laws.specs.First.{first_below}
use Rattle.laws.proofs.Tests.{cases}
use Rattle.laws.proofs.Firsts.{first_more, first_end, first_at, first_passes, first_least}
use Rattle.probe_places.specs.Places.{place_size}
use Rattle.probe_places.specs.Places.{places_in}
use Rattle.probe.specs.Probe.{edge_limit, IsProbe}
use Rattle.probe.proofs.Counting.{probe_count}
use Rattle.probe_build.specs.Building.{record_count}
use Rattle.probe_build.specs.Edges.{is_edge, edge_of, EdgeFound}

pub count_is : {k wide count : ℕ} → wide ≡ k → count ≡ record_count wide → count ≡ record_count k
count_is e h = h ∙ ap record_count e

module _ (size k : ℕ) {count : ℕ} (c : count ≡ record_count (k + 1)) (so_far : first_below (is_edge size) k ≡ k) where
  pub edge_here : k < edge_limit → place_size * count ≡ size → k + 1 ≡ edge_of size
  unfolding edge_of is_edge
  edge_here h e =
      let t : is_edge size k ≡ true = eq-eqb (place_size * record_count (k + 1)) size (rw (sym c) e) in
      let f : first_below (is_edge size) edge_limit ≡ k = first_at (is_edge size) edge_limit k so_far t h in
      rw (f, lt-ltb k edge_limit h)

  pub edge_next : (place_size * count ≡ size → ⊥) → first_below (is_edge size) (k + 1) ≡ k + 1
  unfolding is_edge
  edge_next n = first_more (is_edge size) k so_far (ne_eqb (place_size * record_count (k + 1)) size (λ e. n (rw c e)))

pub edge_none : (size k : ℕ) → first_below (is_edge size) k ≡ k → k ≤ edge_limit → edge_limit ≤ k → 0 ≡ edge_of size
unfolding edge_of
edge_none size k e h l = let f : first_below (is_edge size) edge_limit ≡ edge_limit = first_end (is_edge size) edge_limit k h l e in rw f

-- ---- in words

-- a larger edge has more records
square_order : (m n : ℕ) → m < n → 6 * m * m < 6 * n * n
square_order m n h =
    let a : 6 * m * m ≤ 6 * m * n = mul-le-mul {n₁ = 6 * m} {m₁ = m} {n₂ = 6 * m} {m₂ = n} (omega arith) (omega arith) in
    let b : (6 * m + 1) * n ≤ 6 * n * n = mul-le-mul {n₁ = 6 * m + 1} {m₁ = n} {n₂ = 6 * n} {m₂ = n} (omega arith) (omega arith) in
    let d : (6 * m + 1) * n ≡ 6 * m * n + 1 * n = add-mul (6 * m) 1 n in
    omega arith

edge_same : (m n : ℕ) → place_size * (6 * m * m) ≡ place_size * (6 * n * n) → m ≡ n
edge_same m n e = go (dec_lt m n) (dec_lt n m)
  where
    go : Dec (m < n) → Dec (n < m) → m ≡ n
    go (yes l) o = absurd (let s : 6 * m * m < 6 * n * n = square_order m n l in omega arith)
    go (no l) (yes o) = absurd (let s : 6 * n * n < 6 * m * m = square_order n m o in omega arith)
    go (no l) (no o) = omega arith

module _ (size : ℕ) where
  -- an edge that fits is found
  found_below : (n : ℕ) → 1 ≤ n → n ≤ edge_limit → place_size * (6 * n * n) ≡ size → first_below (is_edge size) edge_limit < edge_limit
  unfolding is_edge record_count
  found_below n l h e =
      let q : n - 1 + 1 ≡ n = omega arith in
      let t : is_edge size (n - 1) ≡ true = eq-eqb (place_size * record_count (n - 1 + 1)) size (rw q e) in
      let b : first_below (is_edge size) edge_limit ≤ n - 1 = first_least (is_edge size) edge_limit (n - 1) (omega arith) t in
      omega arith

  found_fits : first_below (is_edge size) edge_limit < edge_limit
      → place_size * (6 * (first_below (is_edge size) edge_limit + 1) * (first_below (is_edge size) edge_limit + 1)) ≡ size
  unfolding is_edge record_count
  found_fits h = eqb-true _ _ (first_passes (is_edge size) edge_limit h)

  -- S-59: the edge of a store's length, in words.
  pub edge_found : EdgeFound size (edge_of size)
  unfolding edge_of
  edge_found =
      cases (ltb (first_below (is_edge size) edge_limit) edge_limit)
      (λ t. let h : first_below (is_edge size) edge_limit < edge_limit = ltb-true _ _ t in
      rw t (record {
        most = omega arith;
        fits = λ n. found_fits h;
        only = λ n l m e. edge_same (first_below (is_edge size) edge_limit + 1) n (found_fits h ∙ sym e);
      }))
      (λ f. let h : edge_limit ≤ first_below (is_edge size) edge_limit = ltb-false _ _ f in
      rw f (record {
        most = omega arith;
        fits = λ n. absurd (n refl);
        only = λ n l m e. absurd (let b : first_below (is_edge size) edge_limit < edge_limit = found_below n l m e in omega arith);
      }))

-- it is one number
pub one_edge : {size m n : ℕ} → EdgeFound size m → EdgeFound size n → m ≡ n
one_edge {size} {m} {n} a b = go (dec_lt 0 m) (dec_lt 0 n)
  where
    go : Dec (0 < m) → Dec (0 < n) → m ≡ n
    go d (yes h) = a.only n h b.most (b.fits (λ z. omega arith))
    go (yes h) (no o) = sym (b.only m h a.most (a.fits (λ z. omega arith)))
    go (no l) (no o) = omega arith

-- a probe's length gives its edge
pub edge_of_probe : {store : List ℕ} {edge : ℕ} → IsProbe store edge → edge_of (length store) ≡ edge
edge_of_probe {store} {edge} p =
    let c : places_in store ≡ 6 * edge * edge = probe_count store edge p in
    let e : length store % 32 ≡ 0 = p.even in
    (edge_found (length store)).only edge p.edge_first p.edge_last (omega arith)
