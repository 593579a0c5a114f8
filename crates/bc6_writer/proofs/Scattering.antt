-- The bits before the indices: code by code from the last, and by two words. Assumes nothing.
use mathlib.Core.Path.{◌≡◌, ◌∙◌, refl, sym, ap, ap₂, subst}
use mathlib.Core.List.{List, [], ◌∷◌}
use Prim.Native.Nat.{ℕ, zero, suc, zero-le, suc-le-suc, ◌+◌, ◌-◌, ◌*◌, ◌/◌, ◌%◌, ◌^◌, ◌≤◌, ◌<◌}
use native.Mathlib.Nat.{mul_assoc, mul_comm, pow-suc, one-mul, not-suc-le-zero, le_of_suc-le-suc, lt_of_lt_of_le}
use native.Mathlib.Omega.{arith}
use lib.Dec.{T, eqb, leb, eqb→eq, lit≤}
use lib.ListN.{length, get_or, take, drop, length-drop}
use lib.Pow.{pow_mono}
use lib.Seq.{get_or-take, get_or-drop, length-take-le, take_all, drop-cons, drop-length}
use borrow.Author.Tests.{le-leb, lt-leb, eq-eqb, ne_eqb}
use Rattle.laws.specs.Pick.{pick}
use Rattle.laws.specs.Every.{below}
use Rattle.laws.specs.Bit.{bit}
use Rattle.laws.specs.Made.{made}
use Rattle.laws.proofs.Tests.{picks, upto_at}
use Rattle.laws.proofs.Rows.{get_d_made}
use Rattle.bc6h_spec.specs.declared.Fields.{Fields}
use Rattle.bc6h_spec.specs.Layout.{row, table_bits, two_regions}
use Rattle.bc6h_spec.specs.Fields.{code_of}
use Rattle.bc6h_spec.specs.Writer.{scattered, at_place}
use Rattle.bc6h_spec.proofs.Once.{row_once}
use Rattle.bc6h_spec.proofs.Gather.{scattered_lt}
use Rattle.bc6_fields.specs.Places.{entry}
use Rattle.bc6_writer.specs.Parts.{InPlaces}

-- ---- the numbers at the places

-- the codes by a formula
abbrev by_formula : ℕ → ℕ
by_formula mode = pick (leb mode 2) (mode - 1) (pick (leb mode 10) (4 * mode - 10) (4 * mode - 41))

all_coded : T (below (λ j. eqb (by_formula (j + 1)) (code_of (j + 1))) 14)
all_coded = tt

module _ (mode : ℕ) (low : 1 ≤ mode) (high : mode ≤ 14) where
  coded : by_formula mode ≡ code_of mode
  coded = eqb→eq _ _ (upto_at (λ m. eqb (by_formula m) (code_of m)) 14 mode all_coded low high)

  pub code_two : mode ≤ 2 → mode - 1 ≡ code_of mode
  code_two h = sym (rw (le-leb mode 2 h) refl) ∙ coded

  module _ (h : 2 < mode) where
    pub code_five : mode ≤ 10 → 4 * mode - 10 ≡ code_of mode
    code_five k = sym (rw (lt-leb mode 2 h, le-leb mode 10 k) refl) ∙ coded

    pub code_last : 10 < mode → 4 * mode - 41 ≡ code_of mode
    code_last k = sym (rw (lt-leb mode 2 h, lt-leb mode 10 k) refl) ∙ coded

module _ (f : Fields) (place : ℕ) where
  pub at_mode : {r : ℕ} → place ≡ 12 → r ≡ code_of f.mode → r ≡ at_place f place
  unfolding at_place
  at_mode e q = rw (eq-eqb place 12 e) q

  pub at_partition : place ≡ 13 → f.partition ≡ at_place f place
  unfolding at_place
  at_partition e = rw e refl

  pub at_endpoint : (place ≡ 12 → ⊥) → (place ≡ 13 → ⊥) → get_or f.endpoints place 0 ≡ at_place f place
  unfolding at_place
  at_endpoint e d = rw (ne_eqb place 12 e, ne_eqb place 13 d) refl

-- ---- code by code, from the last

module _ (l : List ℕ) (f : ℕ → ℕ) where
  pub scattered_none : 0 ≡ scattered (drop (length l - 0) l) f
  unfolding scattered
  scattered_none = let e : length l - 0 ≡ length l = omega arith in rw (e, drop-length l) refl

  pub scattered_small : length l ≤ 64 → (k : ℕ) → 1 ≤ k → {x : ℕ} → x ≡ scattered (drop k l) f → x < 2 ^ 63
  scattered_small h k low {x} e =
      lt_of_lt_of_le (subst (λ (y : ℕ). y < 2 ^ length (drop k l)) (sym e) (scattered_lt (drop k l) f))
      (pow_mono (let q : length (drop k l) ≤ 63 = omega (arith, length-drop k l) in q))

  next : (k : ℕ) → k < length l → {x b : ℕ} → x ≡ scattered (drop (suc k) l) f → b ≡ bit (f (get_or l k 0 / 16)) (get_or l k 0 % 16)
      → b + 2 * x ≡ scattered (drop k l) f
  unfolding scattered
  next k h e q = rw (drop-cons l k 0 h) (ap₂ (λ (y z : ℕ). y + 2 * z) q e)

  -- the code behind which n were taken
  pub scattered_back : (n : ℕ) {x b code : ℕ} → x ≡ scattered (drop (length l - n) l) f → code ≡ get_or l (length l - 1 - n) 0
      → b ≡ bit (f (code / 16)) (code % 16) → n < length l → b + 2 * x ≡ scattered (drop (length l - (n + 1)) l) f
  scattered_back n e ec q h =
      let s : length l - n ≡ suc (length l - 1 - n) = omega arith in
      let t : length l - 1 - n ≡ length l - (n + 1) = omega arith in
      let r : _ ≡ scattered (drop (length l - 1 - n) l) f =
      next (length l - 1 - n) (omega arith) (e ∙ ap (λ (y : ℕ). scattered (drop y l) f) s) (q ∙ ap (λ (y : ℕ). bit (f (y / 16)) (y % 16)) ec) in
      r ∙ ap (λ (y : ℕ). scattered (drop y l) f) t

-- ---- by two words

pub scattered_split : (t : ℕ) (l : List ℕ) (f : ℕ → ℕ) → t ≤ length l → scattered l f ≡ scattered (take t l) f + 2 ^ t * scattered (drop t l) f
unfolding scattered
scattered_split zero l f h = sym (one-mul (scattered l f)) ∙ omega arith
scattered_split (suc t) [] f h = absurd (not-suc-le-zero h)
scattered_split (suc t) (c ∷ cs) f h =
    let q : 2 ^ suc t * scattered (drop t cs) f ≡ 2 * (2 ^ t * scattered (drop t cs) f) =
    ap (λ (x : ℕ). x * scattered (drop t cs) f) (pow-suc 2 t ∙ mul_comm (2 ^ t) 2) ∙ mul_assoc 2 (2 ^ t) (scattered (drop t cs) f) in
    omega (arith, scattered_split t cs f (le_of_suc-le-suc h), q)

pub scattered_cong : (l : List ℕ) (f g : ℕ → ℕ) → ((k : ℕ) → k < length l → f (get_or l k 0 / 16) ≡ g (get_or l k 0 / 16)) → scattered l f ≡ scattered l g
unfolding scattered
scattered_cong [] f g e = refl
scattered_cong (c ∷ cs) f g e =
    ap₂ (λ (x y : ℕ). bit x (c % 16) + 2 * y) (e 0 (suc-le-suc zero-le)) (scattered_cong cs f g (λ k h. e (suc k) (suc-le-suc h)))

pub bits_range : (m : ℕ) → (65 ≤ table_bits m) × (table_bits m ≤ 82)
bits_range m = picks (two_regions m) 82 65 (λ (n : ℕ). (65 ≤ n) × (n ≤ 82)) (λ _. (lit≤ tt, lit≤ tt)) (λ _. (lit≤ tt, lit≤ tt))

module _ (m : ℕ) (low : 1 ≤ m) (high : m ≤ 14) where
  size : length (row m) ≡ table_bits m
  size = (row_once m low high).size

  -- a part of a row
  part_long : (a n : ℕ) → a + n ≤ table_bits m → length (take n (drop a (row m))) ≡ n
  part_long a n h = length-take-le n (drop a (row m)) (omega (arith, length-drop a (row m), size))

  module _ {codes : List ℕ} (e : codes ≡ row m) where
    pub row_long : 64 ≤ length codes
    row_long = let r = (bits_range m).0 in omega (arith, ap length e, size)

    pub high_part : take (length codes - 64) (drop 64 codes) ≡ take (table_bits m - 64) (drop 64 (row m))
    high_part = let n : length codes ≡ table_bits m = ap length e ∙ size in rw (n, e) refl

  in_row : InPlaces (row m)
  in_row k h = (row_once m low high).place k (subst (λ (x : ℕ). k < x) size h)

  part_places : (a n : ℕ) → a + n ≤ table_bits m → n ≤ 64 → {l : List ℕ} → l ≡ take n (drop a (row m)) → (length l ≤ 64) × InPlaces l
  part_places a n f s {l} e =
      let long : length l ≡ n = ap length e ∙ part_long a n f in (
        omega arith,
        λ k h.
            let i : k < n = omega arith in
            rw (e, get_or-take n (drop a (row m)) k 0 i, get_or-drop a (row m) k 0) (in_row (a + k) (omega (arith, size))),
      )

  pub low_places : {l : List ℕ} → l ≡ take 64 (row m) → (length l ≤ 64) × InPlaces l
  low_places e = let r = (bits_range m).0 in part_places 0 64 (omega arith) (omega arith) e

  pub high_places : {l : List ℕ} → l ≡ take (table_bits m - 64) (drop 64 (row m)) → (length l ≤ 64) × InPlaces l
  high_places e = let r = bits_range m in part_places 64 (table_bits m - 64) (omega arith) (omega arith) e

  pub words_joined : (f : ℕ → ℕ) {lo hi : ℕ} {l h : List ℕ} → lo ≡ scattered l f → l ≡ take 64 (row m) → hi ≡ scattered h f
      → h ≡ take (table_bits m - 64) (drop 64 (row m))
      → lo + 2 ^ 64 * hi ≡ scattered (row m) f
  words_joined f el l eh h =
      let r = (bits_range m).0 in
      let all = take_all (table_bits m - 64) (drop 64 (row m)) (omega (arith, length-drop 64 (row m), size)) in
      ap₂ (λ (x y : ℕ). x + 2 ^ 64 * y) (el ∙ ap (λ (x : List ℕ). scattered x f) l) (eh ∙ ap (λ (x : List ℕ). scattered x f) (h ∙ all))
      ∙ sym (scattered_split 64 (row m) f (omega (arith, size)))

  -- the numbers at the places are the record's
  pub of_record : (f : Fields) {places : List ℕ} → places ≡ made (at_place f) 14 → scattered (row m) (entry places) ≡ scattered (row m) (at_place f)
  unfolding entry
  of_record f {places} e =
      scattered_cong (row m) (entry places) (at_place f)
      (λ k h. ap (λ (l : List ℕ). get_or l (get_or (row m) k 0 / 16) 0) e ∙ get_d_made (at_place f) 14 (get_or (row m) k 0 / 16) 0 (in_row k h))
