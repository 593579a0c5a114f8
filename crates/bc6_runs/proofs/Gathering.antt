-- The runs of a row: what stretches of bits give at a place is what the row's codes gather there, for any row. Assumes nothing.
use mathlib.Core.Path.{◌≡◌, ◌∙◌, refl, sym, ap, ap₂}
use mathlib.Core.Bool.{Bool, true, false}
use mathlib.Core.List.{List, [], ◌∷◌}
use Prim.Native.Nat.{ℕ, suc, ◌+◌, ◌*◌, ◌/◌, ◌%◌, ◌^◌}
use native.Mathlib.Nat.{div-one, add-mul, mul_comm, mul_assoc, add_comm, zero-add}
use native.Mathlib.Numerals.{add-one}
use native.Mathlib.Omega.{arith}
use lib.Dec.{eqb}
use lib.Pow.{shr-shr, mod-pow-add, pow-add}
use borrow.Author.Tests.{eqb-true}
use Rattle.laws.specs.Pick.{pick, both}
use Rattle.bc6h_spec.specs.Fields.{gathered}
use Rattle.bcn_util.specs.Runs.{Run, part, sum}

-- bit k of the block, as bit b, before the runs that follow: where the first of them goes on from it, the two are one
abbrev joined : ℕ → ℕ → List Run → List Run
joined k b [] = record { at = k; size = 1; shift = b } ∷ []
joined k b (r ∷ rs) =
    pick (both (eqb r.at (suc k)) (eqb r.shift (suc b)))
    (record { at = k; size = suc r.size; shift = b } ∷ rs)
    (record { at = k; size = 1; shift = b } ∷ (r ∷ rs))

-- the runs of place p in the codes of bits k, k + 1, ..
abbrev pub runs : List ℕ → ℕ → ℕ → List Run
runs [] k p = []
runs (c ∷ cs) k p = pick (eqb (c / 16) p) (joined k (c % 16) (runs cs (suc k) p)) (runs cs (suc k) p)

-- ---- the law

halved : (n k : ℕ) → n / 2 ^ k / 2 ≡ n / 2 ^ suc k
halved n k = shr-shr n k 1 ∙ ap (λ (y : ℕ). n / 2 ^ y) (add-one k)

-- one bit more below a run
longer : (n k t b : ℕ) → n / 2 ^ k % 2 ^ suc t * 2 ^ b ≡ n / 2 ^ k % 2 * 2 ^ b + n / 2 ^ suc k % 2 ^ t * 2 ^ suc b
longer n k t b =
    let x = n / 2 ^ k in
    let a : x % 2 ^ (t + 1) ≡ x / 2 % 2 ^ t * 2 + x % 2 = mod-pow-add x t 1 in
    let f : 2 ^ suc b ≡ 2 * 2 ^ b = ap (λ (y : ℕ). 2 ^ y) (sym (add-one b)) ∙ pow-add 2 b 1 ∙ mul_comm (2 ^ b) 2 in
    ap (λ (y : ℕ). x % 2 ^ y * 2 ^ b) (sym (add-one t))
    ∙ ap (λ (y : ℕ). y * 2 ^ b) a
    ∙ add-mul (x / 2 % 2 ^ t * 2) (x % 2) (2 ^ b)
    ∙ add_comm (x / 2 % 2 ^ t * 2 * 2 ^ b) (x % 2 * 2 ^ b)
    ∙ ap (λ (y : ℕ). x % 2 * 2 ^ b + y) (mul_assoc (x / 2 % 2 ^ t) 2 (2 ^ b) ∙ ap (λ (y : ℕ). x / 2 % 2 ^ t * y) (sym f))
    ∙ ap (λ (y : ℕ). x % 2 * 2 ^ b + y % 2 ^ t * 2 ^ suc b) (halved n k)

joined_case : (n k b : ℕ) (r : Run) (rs : List Run) (x y : Bool) → eqb r.at (suc k) ≡ x → eqb r.shift (suc b) ≡ y
    → sum n (pick (both x y) (record { at = k; size = suc r.size; shift = b } ∷ rs) (record { at = k; size = 1; shift = b } ∷ (r ∷ rs)))
    ≡ n / 2 ^ k % 2 * 2 ^ b + sum n (r ∷ rs)
joined_case n k b r rs false y e f = refl
joined_case n k b r rs true false e f = refl
joined_case n k b r rs true true e f =
    let g : part n r ≡ n / 2 ^ suc k % 2 ^ r.size * 2 ^ suc b =
    ap₂ (λ (i j : ℕ). n / 2 ^ i % 2 ^ r.size * 2 ^ j) (eqb-true r.at (suc k) e) (eqb-true r.shift (suc b) f) in
    omega (arith, longer n k r.size b, g)

joined_sum : (n k b : ℕ) (rs : List Run) → sum n (joined k b rs) ≡ n / 2 ^ k % 2 * 2 ^ b + sum n rs
joined_sum n k b [] = refl
joined_sum n k b (r ∷ rs) = joined_case n k b r rs (eqb r.at (suc k)) (eqb r.shift (suc b)) refl refl

runs_case : (n k b : ℕ) (rs : List Run) (g : ℕ) (x : Bool) → sum n rs ≡ g
    → sum n (pick x (joined k b rs) rs) ≡ pick x (n / 2 ^ k % 2 * 2 ^ b) 0 + g
runs_case n k b rs g true e = joined_sum n k b rs ∙ ap (λ (z : ℕ). n / 2 ^ k % 2 * 2 ^ b + z) e
runs_case n k b rs g false e = e ∙ sym (zero-add g)

runs_sum : (l : List ℕ) (n k p : ℕ) → sum n (runs l k p) ≡ gathered l (n / 2 ^ k) p
unfolding gathered
runs_sum [] n k p = refl
runs_sum (c ∷ cs) n k p =
    runs_case n k (c % 16) (runs cs (suc k) p) (gathered cs (n / 2 ^ k / 2) p) (eqb (c / 16) p)
    (runs_sum cs n (suc k) p ∙ ap (λ (x : ℕ). gathered cs x p) (sym (halved n k)))

-- what the runs of a place make is what the row's codes gather there
pub run_law : (l : List ℕ) (n p : ℕ) → sum n (runs l 0 p) ≡ gathered l n p
run_law l n p = runs_sum l n 0 p ∙ ap (λ (x : ℕ). gathered l x p) (div-one n)
