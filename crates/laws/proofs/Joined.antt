-- Lists of one length, one after the other, and a loop that writes them into parts of a lent list. Assumes nothing.
use mathlib.Core.Path.{◌≡◌, ◌∙◌, refl, sym, ap, ap₂}
use mathlib.Core.List.{List, ◌++◌, append_assoc}
use mathlib.Core.Logic.{⊎_elim}
use Prim.Native.Nat.{ℕ, zero, suc, ◌+◌, ◌-◌, ◌*◌, ◌≤◌, ◌<◌}
use native.Mathlib.Nat.{le_of_suc-le-suc, not-suc-le-zero, eq-or-lt_of_le, mul-add, mul-le-mul_left}
use native.Mathlib.Numerals.{add-one}
use native.Mathlib.Omega.{arith}
use lib.ListN.{length, get_or, take, drop, length-append, get_or-append}
use lib.Seq.{take_at, drop_at, get_or-append-add}
use borrow.Rule.Slice.PartMut.{mid_of, put_mid}
use Rattle.laws.specs.Made.{made, join}
use Rattle.laws.proofs.Rows.{join_last}
use Rattle.laws.proofs.Pasting.{behind_front}

pub run_more : (f : ℕ → List ℕ) (n : ℕ) → join (made f (n + 1)) ≡ join (made f n) ++ f n
unfolding made
run_more f n = rw (add-one n) (join_last (made f n) (f n))

-- four lists at a time
pub run_fours : (f g : ℕ → List ℕ) → ((k : ℕ) → g k ≡ f (4 * k) ++ (f (4 * k + 1) ++ (f (4 * k + 2) ++ f (4 * k + 3))))
    → (n : ℕ) → join (made f (4 * n)) ≡ join (made g n)
unfolding made
run_fours f g e zero = refl
run_fours f g e (suc n) =
    let step : 4 * suc n ≡ 4 * n + 1 + 1 + 1 + 1 = omega arith in
    let two : 4 * n + 1 + 1 ≡ 4 * n + 2 = omega arith in
    let three : 4 * n + 1 + 1 + 1 ≡ 4 * n + 3 = omega arith in
    let j = join (made f (4 * n)) in
    let flat : j ++ f (4 * n) ++ f (4 * n + 1) ++ f (4 * n + 2) ++ f (4 * n + 3) ≡ j ++ (f (4 * n) ++ (f (4 * n + 1) ++ (f (4 * n + 2) ++ f (4 * n + 3)))) =
    simp append_assoc in
    ap (λ (k : ℕ). join (made f k)) step
    ∙ run_more f (4 * n + 1 + 1 + 1) ∙ ap (λ (t : List ℕ). t ++ f (4 * n + 1 + 1 + 1)) (run_more f (4 * n + 1 + 1))
    ∙ ap (λ (t : List ℕ). t ++ f (4 * n + 1 + 1) ++ f (4 * n + 1 + 1 + 1)) (run_more f (4 * n + 1))
    ∙ ap (λ (t : List ℕ). t ++ f (4 * n + 1) ++ f (4 * n + 1 + 1) ++ f (4 * n + 1 + 1 + 1)) (run_more f (4 * n))
    ∙ ap₂ (λ (a b : ℕ). j ++ f (4 * n) ++ f (4 * n + 1) ++ f a ++ f b) two three
    ∙ flat
    ∙ ap₂ (λ (s t : List ℕ). s ++ t) (run_fours f g e n) (sym (e n))
    ∙ sym (ap (λ (k : ℕ). join (made g k)) (sym (add-one n)) ∙ run_more g n)

module _ (f : ℕ → List ℕ) (size : ℕ) (each : (n : ℕ) → length (f n) ≡ size) where
  more : (n : ℕ) → size * (n + 1) ≡ size * n + size
  more n = let e : size * (n + 1) ≡ size * n + size * 1 = mul-add size n 1 in omega arith

  pub run_length : (n : ℕ) → length (join (made f n)) ≡ size * n
  unfolding made
  run_length zero = omega arith
  run_length (suc n) =
      ap (λ (k : ℕ). length (join (made f k))) (sym (add-one n)) ∙ ap length (run_more f n) ∙ length-append (join (made f n)) (f n)
      ∙ ap₂ (λ (a b : ℕ). a + b) (run_length n) (each n) ∙ sym (more n) ∙ ap (λ (k : ℕ). size * k) (add-one n)

  -- nothing is written yet
  pub run_start : (out : List ℕ) → out ≡ join (made f 0) ++ drop (size * 0) out
  unfolding made
  run_start out = let z : size * 0 ≡ 0 = omega arith in rw z

  -- list n is written into the part that begins behind the lists before it
  pub run_step : (out₀ out part : List ℕ) (n : ℕ) → out ≡ join (made f n) ++ drop (size * n) out₀ → part ≡ f n ++ drop size (mid_of (size * n) (length out - size * n) out)
      → put_mid (size * n) (length out - size * n) out part ≡ join (made f (n + 1)) ++ drop (size * (n + 1)) out₀
  run_step out₀ out part n e shown =
      behind_front (join (made f n)) (f n) out₀ out part (size * n) size (run_length n) e shown
      ∙ ap₂ (λ (t : List ℕ) (k : ℕ). t ++ drop k out₀) (sym (run_more f n)) (sym (more n))

  -- all are written
  pub run_end : (out₀ out : List ℕ) (count n : ℕ) → out ≡ join (made f n) ++ drop (size * n) out₀ → n ≤ count → count ≤ n
      → out ≡ join (made f count) ++ drop (size * count) out₀
  run_end out₀ out count n e l h = let same : n ≡ count = omega arith in rw same at e

  -- list n of them
  pub run_at_lem : (count n : ℕ) (rest : List ℕ) → n < count → take size (drop (size * n) (join (made f count) ++ rest)) ≡ f n
  run_at_lem zero n rest h = absurd (not-suc-le-zero h)
  run_at_lem (suc c) n rest h =
      let more : join (made f (suc c)) ++ rest ≡ join (made f c) ++ (f c ++ rest) =
      ap (λ (k : ℕ). join (made f k) ++ rest) (sym (add-one c)) ∙ ap (λ (t : List ℕ). t ++ rest) (run_more f c) ∙ append_assoc (join (made f c)) (f c) rest in
      ap (λ (t : List ℕ). take size (drop (size * n) t)) more
      ∙ ⊎_elim
      (λ e. rw e (ap (take size) (drop_at (join (made f c)) (f c ++ rest) (size * c) (run_length c)) ∙ take_at (f c) rest size (each c)))
      (λ s. run_at_lem c n (f c ++ rest) s)
      (eq-or-lt_of_le (le_of_suc-le-suc h))

  -- value v of list n
  pub run_value : (count n v : ℕ) (rest : List ℕ) → n < count → v < size → get_or (join (made f count) ++ rest) (size * n + v) 0 ≡ get_or (f n) v 0
  run_value zero n v rest h l = absurd (not-suc-le-zero h)
  run_value (suc c) n v rest h l =
      let more : join (made f (suc c)) ++ rest ≡ join (made f c) ++ (f c ++ rest) =
      ap (λ (k : ℕ). join (made f k) ++ rest) (sym (add-one c)) ∙ ap (λ (t : List ℕ). t ++ rest) (run_more f c) ∙ append_assoc (join (made f c)) (f c) rest in
      ap (λ (t : List ℕ). get_or t (size * n + v) 0) more
      ∙ ⊎_elim
      (λ e. rw e
      (ap (λ (k : ℕ). get_or (join (made f c) ++ (f c ++ rest)) (k + v) 0) (sym (run_length c))
      ∙ get_or-append-add (join (made f c)) (f c ++ rest) v 0
      ∙ get_or-append (f c) rest 0 v (let s : length (f c) ≡ size = each c in omega arith)))
      (λ s. run_value c n v (f c ++ rest) s l)
      (eq-or-lt_of_le (le_of_suc-le-suc h))

  -- room for one more list, where there is room for all
  pub run_room : (count n room : ℕ) → n < count → size * count ≤ room → size * n + size ≤ room
  run_room count n room h l = let m : size * (n + 1) ≤ size * count = mul-le-mul_left size (omega arith) in let e : size * (n + 1) ≡ size * n + size = more n in omega arith
