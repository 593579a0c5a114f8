-- A probe of an edge of n blocks has 6 n² records. Assumes nothing.
use mathlib.Core.Path.{◌≡◌, sym, ◌∙◌, ap}
use mathlib.Core.List.{List}
use Prim.Native.Nat.{ℕ, ◌+◌, ◌*◌, ◌/◌, ◌%◌, ◌≤◌, ◌<◌}
use native.Mathlib.Nat.{mul-le-mul_right, add-mul, mod-lt, div-add-mod', div-lt_iff_lt-mul}
use native.Mathlib.Decide.{dec_lt}
use native.Mathlib.Omega.{arith}
use Rattle.probe_places.specs.declared.Place.{Place}
use Rattle.probe_places.specs.Places.{places_in, place_in}
use Rattle.probe.specs.Probe.{place_of, Filled, IsProbe, record_for}
use Rattle.laws.proofs.Pigeons.{pigeons}
use Rattle.probe.proofs.Spots.{place_same}
use Rattle.probe.proofs.Probes.{for_inside, for_here, place_filled, place_once}

-- ---- a number of two digits, the lower below e

module _ (e : ℕ) where
  pub digits_below : (a b m : ℕ) → a < m → b < e → a * e + b < m * e
  digits_below a b m h l =
      let s : (a + 1) * e ≤ m * e = mul-le-mul_right e (omega arith) in
      let d : (a + 1) * e ≡ a * e + 1 * e = add-mul a 1 e in
      omega arith

  digits_order : (a b c d : ℕ) → b < e → a < c → a * e + b ≡ c * e + d → ⊥
  digits_order a b c d l h q = let s : a * e + b < c * e = digits_below a b c h l in omega arith

  pub digits_high : (a b c d : ℕ) → b < e → d < e → a * e + b ≡ c * e + d → a ≡ c
  digits_high a b c d l m q = go (dec_lt a c) (dec_lt c a)
    where
      go : Dec (a < c) → Dec (c < a) → a ≡ c
      go (yes s) t = absurd (digits_order a b c d l s q)
      go (no s) (yes t) = absurd (digits_order c d a b m t (sym q))
      go (no s) (no t) = omega arith

  pub digits_low : (a b c d : ℕ) → a ≡ c → a * e + b ≡ c * e + d → b ≡ d
  digits_low a b c d s q = let t : a * e ≡ c * e = ap (λ (x : ℕ). x * e) s in omega arith

-- a place's number in a probe of the edge: row by row, face by face
abbrev spot : ℕ → Place → ℕ
spot edge p = (p.face * edge + p.row) * edge + p.column

abbrev spot_place : ℕ → ℕ → Place
spot_place edge s = place_of (s / edge / edge) (s % edge) (s / edge % edge)

spot_apart : (edge : ℕ) (p q : Place) → p.column < edge → p.row < edge → q.column < edge → q.row < edge → spot edge p ≡ spot edge q → p ≡ q
spot_apart edge p q a b c d e =
    let high : p.face * edge + p.row ≡ q.face * edge + q.row =
    digits_high edge (p.face * edge + p.row) p.column (q.face * edge + q.row) q.column a c e in
    let f : p.face ≡ q.face = digits_high edge p.face p.row q.face q.row b d high in
    place_same p q f
    (digits_low edge (p.face * edge + p.row) p.column (q.face * edge + q.row) q.column high e)
    (digits_low edge p.face p.row q.face q.row f high)

spot_place_lem : (edge s : ℕ) → spot edge (spot_place edge s) ≡ s
spot_place_lem edge s = ap (λ (x : ℕ). x * edge + s % edge) (div-add-mod' (s / edge) edge) ∙ div-add-mod' s edge

module _ (store : List ℕ) (edge : ℕ) (p : IsProbe store edge) where
  positive : 0 < edge
  positive = let l = p.edge_first in omega arith

  few : places_in store ≤ 6 * edge * edge
  few = pigeons (6 * edge * edge) (places_in store) (λ n. spot edge (place_in store n)) (record {
    inside = λ n h.
        digits_below edge ((place_in store n).face * edge + (place_in store n).row) (place_in store n).column (6 * edge)
        (digits_below edge (place_in store n).face (place_in store n).row 6 (p.on_face n h) (p.row_inside n h)) (p.column_inside n h);
    apart = λ m n hm hn e.
        place_once p m n hm hn
        (spot_apart edge (place_in store m) (place_in store n) (p.column_inside m hm) (p.row_inside m hm) (p.column_inside n hn) (p.row_inside n hn) e);
  })

  fill : (s : ℕ) → s < 6 * edge * edge → Filled store (spot_place edge s)
  fill s h =
      place_filled p (s / edge / edge) (s % edge) (s / edge % edge)
      ((div-lt_iff_lt-mul {k = edge} {x = s / edge} {y = 6} positive).1 ((div-lt_iff_lt-mul {k = edge} {x = s} {y = 6 * edge} positive).1 h))
      (mod-lt s positive) (mod-lt (s / edge) positive)

  many : 6 * edge * edge ≤ places_in store
  many = pigeons (places_in store) (6 * edge * edge) (λ s. record_for store (spot_place edge s)) (record {
    inside = λ s h. for_inside store (spot_place edge s) (fill s h);
    apart = λ s t hs ht e.
        sym (spot_place_lem edge s)
        ∙ ap (spot edge) (sym (for_here store (spot_place edge s) (fill s hs)) ∙ ap (place_in store) e ∙ for_here store (spot_place edge t) (fill t ht))
        ∙ spot_place_lem edge t;
  })

  -- S-56: 6 faces of n rows of n columns, each place filled exactly once
  pub probe_count : places_in store ≡ 6 * edge * edge
  probe_count = let l : places_in store ≤ 6 * edge * edge = few in let m : 6 * edge * edge ≤ places_in store = many in omega arith
