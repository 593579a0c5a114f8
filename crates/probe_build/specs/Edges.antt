-- S-59: the edge of a probe by its store's length. Assumes nothing.
use Rattle.std.specs.Prelude.{◌≡◌, ℕ, ◌+◌, ◌*◌, ◌≤◌, Bool, ◌==◌, ◌≢◌, nat_lt, refl}
use Rattle.laws.specs.Pick.{pick}
use Rattle.laws.specs.First.{first_below}
use Rattle.probe_places.specs.Places.{place_size}
use Rattle.probe.specs.Probe.{edge_limit}
use Rattle.probe_build.specs.Building.{record_count}

-- a store of so many bytes has the records of a probe of edge k + 1
unfoldable pub is_edge : ℕ → ℕ → Bool
is_edge size k = place_size * record_count (k + 1) == size

-- S-59: the edge of 1 to 16 whose records have so many bytes, or 0.
abbrev pub edge_at : ℕ → ℕ
edge_at first = pick (nat_lt first edge_limit) (first + 1) 0

unfoldable pub edge_of : ℕ → ℕ
edge_of size = edge_at (first_below (is_edge size) edge_limit)

-- in words: proofs/ shows that `edge_of` is this
pub record EdgeFound (size edge : ℕ) : Type 0 where
  pub most : edge ≤ edge_limit
  pub fits : (edge ≢ 0) → place_size * (6 * edge * edge) ≡ size
  pub only : (n : ℕ) → 1 ≤ n → n ≤ edge_limit → place_size * (6 * n * n) ≡ size → edge ≡ n

smallest : edge_of 192 ≡ 1
unfolding edge_of is_edge record_count first_below
smallest = refl

largest : edge_of 49152 ≡ 16
unfolding edge_of is_edge record_count first_below
largest = refl

empty : edge_of 0 ≡ 0
unfolding edge_of is_edge record_count first_below
empty = refl

past_the_limit : edge_of 55488 ≡ 0
unfolding edge_of is_edge record_count first_below
past_the_limit = refl
