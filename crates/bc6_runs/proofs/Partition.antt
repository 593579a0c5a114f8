-- Where the partition stands: in each mode of two regions it is the five bits from bit 77 on. Assumes nothing.
use mathlib.Core.Path.{◌≡◌, ◌∙◌, sym}
use mathlib.Core.Bool.{Bool, false}
use mathlib.Core.List.{List, [], ◌∷◌}
use Prim.Native.Nat.{ℕ, ◌+◌, ◌/◌, ◌%◌, ◌^◌, ◌≤◌}
use native.Mathlib.Nat.{add-zero, mul-one}
use lib.Dec.{T, eqb, eqb→eq}
use Rattle.laws.specs.Pick.{both}
use Rattle.laws.specs.Every.{below}
use Rattle.laws.proofs.Tests.{both_left, both_right, upto_at}
use Rattle.bc6h_spec.specs.Layout.{row, rows, row1, row2, row3, row4, row5, row6, row7, row8, row9, row10}
use Rattle.bc6h_spec.specs.Fields.{gathered}
use Rattle.bcn_util.specs.Runs.{Run, sum}
use Rattle.bc6_runs.proofs.Gathering.{runs, run_law}

-- one run: five bits, from bit 77 on
abbrev alone : List Run → Bool
alone [] = false
alone (r ∷ []) = both (eqb r.at 77) (both (eqb r.size 5) (eqb r.shift 0))
alone (r ∷ s ∷ rs) = false

alone_sum : (n : ℕ) (rs : List Run) → T (alone rs) → sum n rs ≡ n / 2 ^ 77 % 2 ^ 5
alone_sum n [] t = absurd t
alone_sum n (r ∷ []) t =
    let at = eqb→eq r.at 77 (both_left (eqb r.at 77) _ t) in
    let two = both_right (eqb r.at 77) _ t in
    let size = eqb→eq r.size 5 (both_left (eqb r.size 5) _ two) in
    let shift = eqb→eq r.shift 0 (both_right (eqb r.size 5) _ two) in
    rw (at, size, shift) (add-zero _ ∙ mul-one (n / 2 ^ 77 % 2 ^ 5))
alone_sum n (r ∷ s ∷ rs) t = absurd t

all : T (below (λ j. alone (runs (row (j + 1)) 0 13)) 10)
unfolding rows row1 row2 row3 row4 row5 row6 row7 row8 row9 row10
all = tt

pub partition_at : (mode n : ℕ) → 1 ≤ mode → mode ≤ 10 → gathered (row mode) n 13 ≡ n / 2 ^ 77 % 2 ^ 5
partition_at mode n low high =
    sym (run_law (row mode) n 13) ∙ alone_sum n (runs (row mode) 0 13) (upto_at (λ m. alone (runs (row m) 0 13)) 10 mode all low high)
