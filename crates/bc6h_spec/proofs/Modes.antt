-- The mode is settled by the low five bits: each law is a test over all 32. Assumes nothing.
use mathlib.Core.Path.{◌≡◌, ◌∙◌, sym, subst}
use mathlib.Core.Bool.{Bool, true, false}
use Prim.Native.Nat.{ℕ, ◌+◌, ◌%◌, ◌^◌, ◌<◌, ◌≤◌}
use native.Mathlib.Nat.{mod-lt, mod-mod, lt_of_lt_of_le}
use native.Mathlib.Omega.{arith}
use lib.Dec.{T, eqb, leb, ltb, eqb→eq, leb→le, ltb→lt, lit<, lit≤}
use borrow.Author.Tests.{eq-eqb, ne_eqb}
use Rattle.laws.specs.Pick.{pick, both, either, implies}
use Rattle.laws.specs.Every.{below}
use Rattle.laws.proofs.Tests.{both_left, both_right, either_right, implied, below_at, upto_at}
use Rattle.bc6h_spec.specs.Layout.{row, width, two_regions}
use Rattle.bc6h_spec.specs.Fields.{mode_in, code_of, gathered}
use Rattle.bc6h_spec.proofs.Gather.{mode_bits, in_width}

pub low_mode : (n : ℕ) → mode_in (n % 32) ≡ mode_in n
unfolding mode_in
low_mode n =
    let a : n % 32 % 4 ≡ n % 4 = omega arith in
    let b : n % 32 % 32 ≡ n % 32 = mod-mod n 32 in
    rw (a, b)

-- ---- the tests

-- the mode is at most 14, and its code stands in its low bits
abbrev coded : ℕ → Bool
coded x = both (leb (mode_in x) 14) (either (eqb (mode_in x) 0) (eqb (x % 2 ^ width (mode_in x) 12) (code_of (mode_in x))))

-- the code of a mode is no other's
abbrev known : ℕ → ℕ → Bool
known m x = implies (eqb (x % 2 ^ width m 12) (code_of m)) (eqb (mode_in x) m)

all_coded : T (below coded 32)
unfolding mode_in width
all_coded = tt

all_known : T (below (λ j. below (known (j + 1)) 32) 14)
unfolding mode_in width
all_known = tt

all_narrow : T (below (λ j. ltb (code_of (j + 1)) (2 ^ width (j + 1) 12)) 14)
unfolding width
all_narrow = tt

-- ---- the laws

pub mode_range : (n : ℕ) → mode_in n ≤ 14
mode_range n =
    subst (λ (m : ℕ). m ≤ 14) (low_mode n)
    (leb→le _ _ (both_left (leb (mode_in (n % 32)) 14) _ (below_at coded 32 (n % 32) all_coded (mod-lt n (lit< tt)))))

low_code : (n : ℕ) (b : Bool) → n % 32 % 2 ^ pick b 2 5 ≡ n % 2 ^ pick b 2 5
low_code n true = omega arith
low_code n false = omega arith

low_width : (n m : ℕ) → n % 32 % 2 ^ width m 12 ≡ n % 2 ^ width m 12
unfolding width
low_width n m = low_code n (leb m 2)

-- the code of a block's mode stands in its low bits
pub mode_code : (n : ℕ) → 1 ≤ mode_in n → n % 2 ^ width (mode_in n) 12 ≡ code_of (mode_in n)
mode_code n h =
    let t : T (coded (n % 32)) = below_at coded 32 (n % 32) all_coded (mod-lt n (lit< tt)) in
    let z : eqb (mode_in (n % 32)) 0 ≡ false = ne_eqb _ _ (λ e. let q : mode_in n ≡ 0 = sym (low_mode n) ∙ e in omega arith) in
    let r : n % 32 % 2 ^ width (mode_in (n % 32)) 12 ≡ code_of (mode_in (n % 32)) =
    eqb→eq _ _ (either_right (eqb (mode_in (n % 32)) 0) _ z (both_right (leb (mode_in (n % 32)) 14) _ t)) in
    sym (low_width n (mode_in n)) ∙ subst (λ (m : ℕ). n % 32 % 2 ^ width m 12 ≡ code_of m) (low_mode n) r

-- a block in whose low bits the code of a mode stands is of that mode
pub mode_known : (m n : ℕ) → 1 ≤ m → m ≤ 14 → gathered (row m) n 12 ≡ code_of m → mode_in n ≡ m
mode_known m n low high e =
    let t : T (known m (n % 32)) = below_at (known m) 32 (n % 32) (upto_at (λ m. below (known m) 32) 14 m all_known low high) (mod-lt n (lit< tt)) in
    let c : n % 32 % 2 ^ width m 12 ≡ code_of m = low_width n m ∙ sym (mode_bits m low high n) ∙ e in
    sym (low_mode n) ∙ eqb→eq _ _ (implied (eqb (n % 32 % 2 ^ width m 12) (code_of m)) _ (eq-eqb _ _ c) t)

pub code_narrow : (m : ℕ) → 1 ≤ m → m ≤ 14 → code_of m < 2 ^ width m 12
code_narrow m low high =
    ltb→lt _ _ (upto_at (λ m. ltb (code_of m) (2 ^ width m 12)) 14 m all_narrow low high)

-- ---- the partition: five bits or none

five : (b : Bool) → 2 ^ pick b 5 0 ≤ 32
five true = lit≤ tt
five false = lit≤ tt

pub partition_width : (m x : ℕ) → x < 2 ^ width m 13 → x < 32
unfolding width
partition_width m x h = lt_of_lt_of_le h (five (two_regions m))

pub partition_lt : (m n : ℕ) → 1 ≤ m → m ≤ 14 → gathered (row m) n 13 < 32
partition_lt m n low high = partition_width m _ (in_width m n 13 low high (lit< tt))
