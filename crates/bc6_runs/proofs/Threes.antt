-- Three numbers of sixteen bits in one word, and the endpoints of a mode of one region. Assumes nothing.
use mathlib.Core.Path.{◌≡◌, ◌∙◌, refl, sym, ap, ap₂, subst}
use mathlib.Core.List.{List, [], ◌∷◌}
use Prim.Native.Nat.{ℕ, zero, suc, ◌+◌, ◌-◌, ◌*◌, ◌/◌, ◌%◌, ◌^◌, ◌<◌, ◌≤◌}
use native.Mathlib.Nat.{add_comm, add-zero, zero-add, zero-mul, div-one, mul-one, one-mul, mul_assoc, mod-lt, mod-eq_of_lt, lt_of_lt_of_le, lt_of_le_of_lt, le_of_suc-le-suc, mul-le-mul_right}
use native.Mathlib.Omega.{arith}
use lib.Bits.{bit_and, and_mask, and_high, and_le_r, and_zero_r}
use lib.Dec.{T, lit<, lit≤}
use lib.IntN.{ℤ, pos}
use lib.Pow.{pow_pos, pow_mono, pow-add, shl_lt, shr-shr, field, mod-mod-pow, high_ones}
use Rattle.bc6_runs.proofs.Lanes.{sums, products, whole, fourth, lane_of_four, four_fits, and_lane}
use Rattle.bc6h_spec.specs.Layout.{row, rows, row11, row12, row13, row14, precision}
use Rattle.bc6h_spec.specs.Fields.{gathered, fields_at}
use Rattle.bc6h_spec.proofs.Reading.{at_endpoint, read_valid}
use borrow.Author.Tests.{lt-leb, ne_eqb}
use Rattle.laws.specs.Pick.{either}
use Rattle.laws.proofs.Below.{below_three, below_four}
use Rattle.bcn_util.specs.Runs.{Run, sum}
use Rattle.bc6_runs.specs.declared.Channels.{Channels}
use Rattle.bc6_runs.specs.Ends.{four_of, places_of, is_extra, mode_by, two_of, ChannelsRead}
use Rattle.bc6_runs.specs.Threes.{lane, four_lanes, three_of, ten, turned_bit, extra_bits}
use Rattle.bc6_runs.proofs.Gathering.{runs, run_law}
use Rattle.bc6_runs.proofs.Stored.{channels_read}

-- ---- three numbers in one word

three_same : (f g : ℕ → ℕ) → ((c : ℕ) → c < 3 → f c ≡ g c) → three_of f ≡ three_of g
three_same f g e = λ i. four_lanes (e 0 (lit< tt) i) (e 1 (lit< tt) i) (e 2 (lit< tt) i) 0

pub three_sum : (f g : ℕ → ℕ) → three_of f + three_of g ≡ three_of (λ c. f c + g c)
three_sum f g = sums (f 0) (f 1) (f 2) 0 (g 0) (g 1) (g 2) 0

three_times : (f : ℕ → ℕ) (k : ℕ) → three_of f * k ≡ three_of (λ c. f c * k)
three_times f k = products (f 0) (f 1) (f 2) 0 k ∙ ap (four_lanes (f 0 * k) (f 1 * k) (f 2 * k)) (zero-mul k)

module _ (f : ℕ → ℕ) (small : (c : ℕ) → c < 3 → f c < 65536) where
  lanes : (e : ℕ) → e < 4 → lane (three_of f) e ≡ fourth (f 0) (f 1) (f 2) 0 e
  lanes = lane_of_four (f 0) (f 1) (f 2) 0 (small 0 (lit< tt)) (small 1 (lit< tt)) (small 2 (lit< tt)) (lit< tt)

  pub three_lane : (c : ℕ) → c < 3 → lane (three_of f) c ≡ f c
  three_lane = below_three (λ c. lane (three_of f) c ≡ f c) (lanes 0 (lit< tt)) (lanes 1 (lit< tt)) (lanes 2 (lit< tt))

  three_top : lane (three_of f) 3 ≡ 0
  three_top = lanes 3 (lit< tt)

  pub three_fits : three_of f < 2 ^ 64
  three_fits = four_fits (f 0) (f 1) (f 2) 0 (small 0 (lit< tt)) (small 1 (lit< tt)) (small 2 (lit< tt)) (lit< tt)

-- `&` with the same number in each of three lanes
and_three : (x m : ℕ) → m < 65536 → bit_and x (three_of (λ c. m)) ≡ three_of (λ c. bit_and (lane x c) m)
and_three x m h =
    let mask = three_of (λ (c : ℕ). m) in
    let y = bit_and x mask in
    let at : (c : ℕ) → c < 3 → lane y c ≡ bit_and (lane x c) m =
    λ c k. and_lane x mask c ∙ ap (bit_and (lane x c)) (three_lane (λ c. m) (λ c k. h) c k) in
    let top : lane y 3 ≡ 0 = and_lane x mask 3 ∙ ap (bit_and (lane x 3)) (three_top (λ c. m) (λ c k. h)) ∙ and_zero_r (lane x 3) in
    whole y (lt_of_le_of_lt (and_le_r x mask) (three_fits (λ c. m) (λ c k. h)))
    ∙ (λ i. four_lanes (at 0 (lit< tt) i) (at 1 (lit< tt) i) (at 2 (lit< tt) i) (top i))

-- ---- fields of ten bits

pub ten_lt : (x c : ℕ) → ten x c < 1024
ten_lt x c = mod-lt (x / 2 ^ (10 * c)) (lit< tt)

moved : (a b d : ℕ) → a < 1024 → b < 1024 → d < 1024 → a + b * 1024 * 64 % 2 ^ 64 + d * 1048576 * 4096 % 2 ^ 64 ≡ four_lanes a b d 0
moved a b d ha hb hd = omega arith

pub tens_are : (x : ℕ) → bit_and x 0x3FF + bit_and x 0xFFC00 * 2 ^ 6 % 2 ^ 64 + bit_and x 0x3FF00000 * 2 ^ 12 % 2 ^ 64 ≡ three_of (ten x)
tens_are x =
    let a : bit_and x 0x3FF ≡ ten x 0 = and_mask x 10 ∙ ap (λ (y : ℕ). y % 1024) (sym (div-one x)) in
    let b : bit_and x 0xFFC00 ≡ ten x 1 * 1024 = and_high x 10 10 in
    let d : bit_and x 0x3FF00000 ≡ ten x 2 * 1048576 = and_high x 10 20 in
    (λ i. a i + b i * 64 % 2 ^ 64 + d i * 4096 % 2 ^ 64)
    ∙ moved (ten x 0) (ten x 1) (ten x 2) (ten_lt x 0) (ten_lt x 1) (ten_lt x 2)

-- what stands above thirty bits is not in three fields
ten_low : (x q : ℕ) → three_of (ten (x + 1073741824 * q)) ≡ three_of (ten x)
ten_low x q =
    let a : (x + 1073741824 * q) / 1 ≡ x / 1 + 1024 * (1048576 * q) = omega arith in
    let b : (x + 1073741824 * q) / 1024 ≡ x / 1024 + 1024 * (1024 * q) = omega arith in
    let d : (x + 1073741824 * q) / 1048576 ≡ x / 1048576 + 1024 * q = omega arith in
    λ i.
    four_lanes ((ap (λ (y : ℕ). y % 1024) a ∙ low (x / 1) (1048576 * q)) i) ((ap (λ (y : ℕ). y % 1024) b ∙ low (x / 1024) (1024 * q)) i)
    ((ap (λ (y : ℕ). y % 1024) d ∙ low (x / 1048576) q) i) 0
  where
    low : (y q : ℕ) → (y + 1024 * q) % 1024 ≡ y % 1024
    low y q = omega arith

pub first_tens : (lo hi : ℕ) → three_of (ten (lo / 32)) ≡ three_of (ten ((lo + 2 ^ 64 * hi) / 32))
first_tens lo hi =
    let e : (lo + 2 ^ 64 * hi) / 32 ≡ lo / 32 + 1073741824 * (536870912 * hi) = omega arith in
    sym (ap (λ (x : ℕ). three_of (ten x)) e ∙ ten_low (lo / 32) (536870912 * hi))

pub second_tens : (lo hi : ℕ) → three_of (ten (lo / 2 ^ 35 + hi % 2 * 2 ^ 29 % 2 ^ 64)) ≡ three_of (ten ((lo + 2 ^ 64 * hi) / 2 ^ 35))
second_tens lo hi =
    let e : (lo + 2 ^ 64 * hi) / 34359738368 ≡ lo / 34359738368 + hi % 2 * 536870912 % 18446744073709551616 + 1073741824 * (hi / 2) = omega arith in
    sym (ap (λ (x : ℕ). three_of (ten x)) e ∙ ten_low _ (hi / 2))

-- ---- bits above the tenth

module _ (f at : ℕ) (low : 4 ≤ at) (high : at ≤ 9) where
  turned_lt : (c : ℕ) → turned_bit f at c < 65536
  turned_lt c =
      lt_of_lt_of_le (shl_lt 1 (19 - at) (mod-lt (lane f c / 2 ^ at) (lit< tt))) (pow_mono {i = 1 + (19 - at)} {j = 16} (omega arith))

  power : 2 ^ at ≤ 512
  power = pow_mono high

  mask_is : 4295032833 * 2 ^ at % 2 ^ 64 ≡ three_of (λ c. 2 ^ at)
  mask_is = let p = power in omega arith

  one_bit : (x : ℕ) → bit_and x (2 ^ at) ≡ x / 2 ^ at % 2 * 2 ^ at
  one_bit x = ap (bit_and x) (sym (high_ones 1 at ∙ one-mul (2 ^ at))) ∙ and_high x 1 at

  raised : (b : ℕ) → b * 2 ^ at * 2 ^ (19 - 2 * at) ≡ b * 2 ^ (19 - at)
  raised b =
      let e : at + (19 - 2 * at) ≡ 19 - at = omega arith in
      mul_assoc b (2 ^ at) (2 ^ (19 - 2 * at)) ∙ ap (λ (x : ℕ). b * x) (sym (pow-add 2 at (19 - 2 * at)) ∙ ap (λ (k : ℕ). 2 ^ k) e)

  pub turned_is : bit_and f (4295032833 * 2 ^ at % 2 ^ 64) * 2 ^ (19 - 2 * at) % 2 ^ 64 ≡ three_of (turned_bit f at)
  turned_is =
      let small : 2 ^ at < 65536 = lt_of_le_of_lt power (lit< tt) in
      ap (λ (x : ℕ). x % 2 ^ 64)
      (ap (λ (x : ℕ). x * 2 ^ (19 - 2 * at)) (ap (bit_and f) mask_is ∙ and_three f (2 ^ at) small)
      ∙ three_times (λ c. bit_and (lane f c) (2 ^ at)) (2 ^ (19 - 2 * at))
      ∙ three_same _ (turned_bit f at) (λ c h. ap (λ (x : ℕ). x * 2 ^ (19 - 2 * at)) (one_bit (lane f c)) ∙ raised (lane f c / 2 ^ at % 2)))
      ∙ mod-eq_of_lt (three_fits (turned_bit f at) (λ c h. turned_lt c))

module _ (f : ℕ) where
  extra_most : (k : ℕ) → k ≤ 6 → (c : ℕ) → extra_bits f k c + 1024 ≤ 2 ^ (10 + k)
  extra_most zero h c = omega arith
  extra_most (suc k) h c =
      let l : k ≤ 6 = omega arith in
      let e : 19 - (9 - k) ≡ 10 + k = omega arith in
      let a = extra_most k l c in
      let bit : lane f c / 2 ^ (9 - k) % 2 ≤ 1 = le_of_suc-le-suc (mod-lt (lane f c / 2 ^ (9 - k)) (lit< tt)) in
      let b : turned_bit f (9 - k) c ≤ 1 * 2 ^ (10 + k) = subst (λ (s : ℕ). lane f c / 2 ^ (9 - k) % 2 * 2 ^ s ≤ 1 * 2 ^ (10 + k)) (sym e) (mul-le-mul_right (2 ^ (10 + k)) bit) in
      let s : 10 + suc k ≡ suc (10 + k) = omega arith in
      subst (λ (s : ℕ). extra_bits f (suc k) c + 1024 ≤ 2 ^ s) (sym s) (omega arith)

  pub with_ten : (x k : ℕ) → k ≤ 6 → (c : ℕ) → c < 3 → ten x c + extra_bits f k c < 65536
  with_ten x k h c l =
      let a = extra_most k h c in
      let b = ten_lt x c in
      let p : 2 ^ (10 + k) ≤ 65536 = pow_mono {i = 10 + k} {j = 16} (omega arith) in
      omega arith

  extra_lt : (k : ℕ) → k ≤ 6 → (c : ℕ) → c < 3 → extra_bits f k c < 65536
  extra_lt k h c l = let a = with_ten 0 k h c l in omega arith

  pub extra_fits : (k : ℕ) → k ≤ 6 → three_of (extra_bits f k) < 2 ^ 64
  extra_fits k h = three_fits (extra_bits f k) (extra_lt k h)

-- ---- the bits of the second endpoint

-- a power of two in each lane, less one
module _ (p : ℕ) (low : 1 ≤ p) (high : p ≤ 1024) where
  in_each : 4295032833 * p % 2 ^ 64 ≡ 4295032833 * p
  in_each = omega arith

  pub ones_fit : 4295032833 ≤ 4295032833 * p % 2 ^ 64
  ones_fit = let e = in_each in omega arith

  ones_are : 4295032833 * p % 2 ^ 64 - 4295032833 ≡ three_of (λ c. p - 1)
  ones_are = ap (λ (x : ℕ). x - 4295032833) in_each ∙ (let e : 4295032833 * p - 4295032833 ≡ four_lanes (p - 1) (p - 1) (p - 1) 0 = omega arith in e)

module _ (f j : ℕ) (high : j ≤ 10) where
  power_10 : 2 ^ j ≤ 1024
  power_10 = pow_mono high

  pub kept_are : bit_and f (4295032833 * 2 ^ j % 2 ^ 64 - 4295032833) ≡ three_of (λ c. lane f c % 2 ^ j)
  kept_are =
      let small : 2 ^ j - 1 < 65536 = let p = power_10 in omega arith in
      ap (bit_and f) (ones_are (2 ^ j) (pow_pos j) power_10) ∙ and_three f (2 ^ j - 1) small ∙ three_same _ _ (λ c h. and_mask (lane f c) j)

-- ---- the rows of one region

-- the bits above the tenth are stored highest first, above what is left of the second endpoint
abbrev above : ℕ → ℕ → List Run
above zero c = []
above (suc k) c = record { at = 44 + 10 * c - k; size = 1; shift = 10 + k } ∷ above k c

abbrev first_runs : ℕ → ℕ → List Run
first_runs extra c = record { at = 5 + 10 * c; size = 10; shift = 0 } ∷ above extra c

abbrev second_runs : ℕ → ℕ → List Run
second_runs extra c = record { at = 35 + 10 * c; size = 10 - extra; shift = 0 } ∷ []

pub record Rows (mode : ℕ) : Type 0 where
  pub first : (c : ℕ) → c < 3 → runs (row mode) 0 c ≡ first_runs (precision mode - 10) c
  pub second : (c : ℕ) → c < 3 → runs (row mode) 0 (3 + c) ≡ second_runs (precision mode - 10) c

all : (m : ℕ) → m < 4 → Rows (m + 11)
unfolding rows row11 row12 row13 row14
all =
    below_four (λ m. Rows (m + 11))
    (record { first = below_three (λ c. runs (row 11) 0 c ≡ first_runs 0 c) refl refl refl; second = below_three (λ c. runs (row 11) 0 (3 + c) ≡ second_runs 0 c) refl refl refl })
    (record { first = below_three (λ c. runs (row 12) 0 c ≡ first_runs 1 c) refl refl refl; second = below_three (λ c. runs (row 12) 0 (3 + c) ≡ second_runs 1 c) refl refl refl })
    (record { first = below_three (λ c. runs (row 13) 0 c ≡ first_runs 2 c) refl refl refl; second = below_three (λ c. runs (row 13) 0 (3 + c) ≡ second_runs 2 c) refl refl refl })
    (record { first = below_three (λ c. runs (row 14) 0 c ≡ first_runs 6 c) refl refl refl; second = below_three (λ c. runs (row 14) 0 (3 + c) ≡ second_runs 6 c) refl refl refl })

-- the mode that has so many bits above the tenth
pub record PairMode (extra : ℕ) : Type 0 where
  pub few : extra ≤ 6
  pub low : 11 ≤ mode_by extra
  pub high : mode_by extra ≤ 14
  pub bits : precision (mode_by extra) ≡ 10 + extra

pub pair_mode : (extra : ℕ) → T (is_extra extra) → PairMode extra
pair_mode zero t = record { few = lit≤ tt; low = lit≤ tt; high = lit≤ tt; bits = refl }
pair_mode (suc zero) t = record { few = lit≤ tt; low = lit≤ tt; high = lit≤ tt; bits = refl }
pair_mode (suc (suc zero)) t = record { few = lit≤ tt; low = lit≤ tt; high = lit≤ tt; bits = refl }
pair_mode (suc (suc (suc k))) t = go k t
  where
    go : (k : ℕ) → T (is_extra (suc (suc (suc k)))) → PairMode (suc (suc (suc k)))
    go zero t = absurd t
    go (suc zero) t = absurd t
    go (suc (suc zero)) t = absurd t
    go (suc (suc (suc zero))) t = record { few = lit≤ tt; low = lit≤ tt; high = lit≤ tt; bits = refl }
    go (suc (suc (suc (suc k)))) t =
        let m = suc (suc (suc (suc (suc (suc (suc k)))))) in
        absurd (subst T (λ i. either (lt-leb m 2 (omega arith) i) (ne_eqb m 6 (λ e. omega arith) i)) t)

module _ (n f extra : ℕ) (is : f ≡ three_of (ten (n / 2 ^ 35))) (most : extra ≤ 6) where
  field_is : (c : ℕ) → c < 3 → lane f c ≡ n / 2 ^ (35 + 10 * c) % 2 ^ 10
  field_is c h =
      ap (λ (x : ℕ). lane x c) is
      ∙ three_lane (ten (n / 2 ^ 35)) (λ c h. lt_of_lt_of_le (ten_lt (n / 2 ^ 35) c) (lit≤ tt)) c h
      ∙ ap (λ (x : ℕ). x % 2 ^ 10) (shr-shr n 35 (10 * c))

  above_sum : (k c : ℕ) → k ≤ 6 → c < 3 → sum n (above k c) ≡ extra_bits f k c
  above_sum zero c hk hc = refl
  above_sum (suc k) c hk hc =
      let x = n / 2 ^ (35 + 10 * c) in
      let all : k + 1 + (9 - k) ≡ 10 = omega arith in
      let at : 35 + 10 * c + (9 - k) ≡ 44 + 10 * c - k = omega arith in
      let shift : 19 - (9 - k) ≡ 10 + k = omega arith in
      let bit : lane f c / 2 ^ (9 - k) % 2 ≡ n / 2 ^ (44 + 10 * c - k) % 2 =
      ap (λ (y : ℕ). y / 2 ^ (9 - k) % 2) (field_is c hc)
      ∙ ap (λ (j : ℕ). x % 2 ^ j / 2 ^ (9 - k) % 2) (sym all)
      ∙ ap (λ (y : ℕ). y % 2) (field x (k + 1) (9 - k))
      ∙ mod-mod-pow (x / 2 ^ (9 - k)) k 1
      ∙ ap (λ (y : ℕ). y % 2) (shr-shr n (35 + 10 * c) (9 - k))
      ∙ ap (λ (j : ℕ). n / 2 ^ j % 2) at in
      let less : k ≤ 6 = omega arith in
      sym (ap₂ (λ (b s : ℕ). b * 2 ^ s + sum n (above k c)) bit shift)
      ∙ ap (λ (y : ℕ). turned_bit f (9 - k) c + y) (above_sum k c less hc)
      ∙ add_comm (turned_bit f (9 - k) c) (extra_bits f k c)

  first_is : (c : ℕ) → c < 3 → ten (n / 2 ^ 5) c + extra_bits f extra c ≡ sum n (first_runs extra c)
  first_is c h =
      ap₂ (λ (x y : ℕ). x + y) (ap (λ (x : ℕ). x % 2 ^ 10) (shr-shr n 5 (10 * c)) ∙ sym (mul-one _)) (sym (above_sum extra c most h))

  second_is : (c : ℕ) → c < 3 → lane f c % 2 ^ (10 - extra) ≡ sum n (second_runs extra c)
  second_is c h =
      let all : extra + (10 - extra) ≡ 10 = omega arith in
      let x = n / 2 ^ (35 + 10 * c) in
      ap (λ (y : ℕ). y % 2 ^ (10 - extra)) (field_is c h ∙ ap (λ (j : ℕ). x % 2 ^ j) (sym all))
      ∙ mod-mod-pow x extra (10 - extra)
      ∙ sym (add-zero _ ∙ mul-one (x % 2 ^ (10 - extra)))

  second_lt : (c : ℕ) → lane f c % 2 ^ (10 - extra) < 65536
  second_lt c = lt_of_lt_of_le (mod-lt (lane f c) (pow_pos (10 - extra))) (pow_mono {i = 10 - extra} {j = 16} (omega arith))

  module _ (first second : ℕ) (ef : first ≡ three_of (λ c. ten (n / 2 ^ 5) c + extra_bits f extra c)) (es : second ≡ three_of (λ c. lane f c % 2 ^ (10 - extra))) where
    module _ (mode : ℕ) (low : 11 ≤ mode) (high : mode ≤ 14) (e : precision mode - 10 ≡ extra) (rows : Rows mode) where
      by_runs : (l : List Run) (p : ℕ) → runs (row mode) 0 p ≡ l → sum n l ≡ gathered (row mode) n p
      by_runs l p el = sym (ap (sum n) el) ∙ run_law (row mode) n p

      first_read : (c : ℕ) → c < 3 → lane first c ≡ places_of mode n c 0
      first_read c h =
          ap (λ (x : ℕ). lane x c) ef
          ∙ three_lane _ (with_ten f (n / 2 ^ 5) extra most) c h
          ∙ first_is c h
          ∙ by_runs (first_runs extra c) c (rows.first c h ∙ ap (λ (x : ℕ). first_runs x c) e)
          ∙ ap (gathered (row mode) n) (sym (zero-add c))

      second_read : (c : ℕ) → c < 3 → lane second c ≡ places_of mode n c 1
      second_read c h =
          ap (λ (x : ℕ). lane x c) es
          ∙ three_lane _ (λ c h. second_lt c) c h
          ∙ second_is c h
          ∙ by_runs (second_runs extra c) (3 + c) (rows.second c h ∙ ap (λ (x : ℕ). second_runs x c) e)

      -- no place of the other two endpoints is in the row
      none_read : (c d : ℕ) → 2 ≤ d → d < 4 → c < 3 → 0 ≡ places_of mode n c d
      unfolding fields_at
      none_read c d l h k =
          sym ((read_valid 0 mode n (omega arith) high (lit≤ tt)).endpoint_zero (lt-leb mode 10 low) d c l h k)
          ∙ at_endpoint 0 mode n (omega arith) high (3 * d + c) (omega arith)

      channel_read : (c : ℕ) → c < 3 → {r : List ℤ} → r ≡ two_of (lane first c) (lane second c) → r ≡ four_of (places_of mode n c)
      channel_read c h is =
          is
          ∙ (λ i.
          pos (first_read c h i) ∷ pos (second_read c h i) ∷ pos (none_read c 2 (lit≤ tt) (lit< tt) h i) ∷ pos (none_read c 3 (lit≤ tt) (lit< tt) h i) ∷ [])

    pub pair_read : T (is_extra extra) → {r : Channels} → r.red ≡ two_of (lane first 0) (lane second 0) → r.green ≡ two_of (lane first 1) (lane second 1)
        → r.blue ≡ two_of (lane first 2) (lane second 2) → ChannelsRead (mode_by extra) n r
    pair_read t er eg eb =
        let k = pair_mode extra t in
        let mode = mode_by extra in
        let back : mode - 11 + 11 ≡ mode = omega (arith, k.low) in
        let e : precision mode - 10 ≡ extra = omega (arith, k.bits) in
        let rows = subst Rows back (all (mode - 11) (omega (arith, k.high))) in
        channels_read mode n (omega (arith, k.low)) k.high (channel_read mode k.low k.high e rows 0 (lit< tt) er) (channel_read mode k.low k.high e rows 1 (lit< tt) eg)
        (channel_read mode k.low k.high e rows 2 (lit< tt) eb)
