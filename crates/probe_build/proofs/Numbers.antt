-- The numbers of a probe's records: face by face, row by row. Assumes nothing.
use Rattle.std.proofs.Common.{◌≡◌, ℕ, ◌+◌, ◌*◌, ◌/◌, ◌%◌, ◌<◌, ◌≤◌, sym, ap, ◌∙◌, add-zero, mod-lt, mod-eq_of_lt, mul_assoc, div-lt_iff_lt-mul, mul-le-mul, mul-pos, div-add-mod', arith}
use native.Mathlib.Nat.{div-eq_of_lt, mul-add-div_right, mul-add-mod_self_right}
use Rattle.probe_places.specs.Places.{face_count}
use Rattle.probe.specs.Probe.{edge_limit, place_of}
use Rattle.probe.proofs.Counting.{digits_below}
use Rattle.probe.proofs.Spots.{place_same}
use Rattle.probe_build.specs.Building.{record_count, place_for}

module _ (edge : ℕ) where
  pub count_square : record_count edge ≡ 6 * (edge * edge)
  unfolding record_count
  count_square = mul_assoc 6 edge edge

  pub square_small : edge ≤ edge_limit → edge * edge ≤ 256
  square_small h = mul-le-mul {n₁ = edge} {m₁ = edge} {n₂ = 16} {m₂ = 16} h h

  pub count_small : edge ≤ edge_limit → record_count edge ≤ 1536
  count_small h = let s : edge * edge ≤ 256 = square_small h in let e : record_count edge ≡ 6 * (edge * edge) = count_square in omega arith

  module _ (first : 1 ≤ edge) where
    positive : 0 < edge
    positive = first

    pub square_positive : 0 < edge * edge
    square_positive = mul-pos positive positive

    pub column_small : (n : ℕ) → n % edge < edge
    column_small n = mod-lt n positive

    pub row_small : (n : ℕ) → n % (edge * edge) / edge < edge
    row_small n = (div-lt_iff_lt-mul {k = edge} {x = n % (edge * edge)} {y = edge} positive).1 (mod-lt n square_positive)

    pub face_small : (n : ℕ) → n < record_count edge → n / (edge * edge) < face_count
    face_small n h = (div-lt_iff_lt-mul {k = edge * edge} {x = n} {y = 6} square_positive).1 (rw count_square at h)

    -- a number is its face, its row and its column
    low_same : (n : ℕ) → n % (edge * edge) % edge ≡ n % edge
    low_same n =
        sym (mul-add-mod_self_right (n / (edge * edge) * edge) edge (n % (edge * edge)))
        ∙ ap (λ (x : ℕ). (x + n % (edge * edge)) % edge) (mul_assoc (n / (edge * edge)) edge edge)
        ∙ ap (λ (x : ℕ). x % edge) (div-add-mod' n (edge * edge))

    pub number_of : (n : ℕ) → n / (edge * edge) * (edge * edge) + n % (edge * edge) / edge * edge + n % edge ≡ n
    number_of n =
        let a : n / (edge * edge) * (edge * edge) + n % (edge * edge) ≡ n = div-add-mod' n (edge * edge) in
        let b : n % (edge * edge) / edge * edge + n % (edge * edge) % edge ≡ n % (edge * edge) = div-add-mod' (n % (edge * edge)) edge in
        let d : n % (edge * edge) % edge ≡ n % edge = low_same n in
        omega arith

    -- .. and these three are the number's
    module _ (face column row : ℕ) (c : column < edge) (r : row < edge) where
      abbrev number : ℕ
      number = face * (edge * edge) + row * edge + column

      abbrev rest : ℕ
      rest = row * edge + column

      rest_small : rest < edge * edge
      rest_small = digits_below edge row column edge r c

      split : number ≡ face * (edge * edge) + rest
      split = omega arith

      face_is : number / (edge * edge) ≡ face
      face_is =
          ap (λ (x : ℕ). x / (edge * edge)) split ∙ mul-add-div_right square_positive face rest
          ∙ ap (λ (x : ℕ). face + x) (div-eq_of_lt rest_small) ∙ add-zero face

      rest_is : number % (edge * edge) ≡ rest
      rest_is = ap (λ (x : ℕ). x % (edge * edge)) split ∙ mul-add-mod_self_right face (edge * edge) rest ∙ mod-eq_of_lt rest_small

      row_is : number % (edge * edge) / edge ≡ row
      row_is =
          ap (λ (x : ℕ). x / edge) rest_is ∙ mul-add-div_right positive row column
          ∙ ap (λ (x : ℕ). row + x) (div-eq_of_lt c) ∙ add-zero row

      column_is : number % edge ≡ column
      column_is = sym (low_same number) ∙ ap (λ (x : ℕ). x % edge) rest_is ∙ mul-add-mod_self_right row edge column ∙ mod-eq_of_lt c

      pub place_number : place_for edge (face * (edge * edge) + row * edge + column) ≡ place_of face column row
      unfolding place_for
      place_number = place_same _ (place_of face column row) face_is column_is row_is

      pub number_small : face < face_count → face * (edge * edge) + row * edge + column < record_count edge
      number_small f =
          let s : face * (edge * edge) + rest < 6 * (edge * edge) = digits_below (edge * edge) face rest 6 f rest_small in
          let e : record_count edge ≡ 6 * (edge * edge) = count_square in
          omega arith
