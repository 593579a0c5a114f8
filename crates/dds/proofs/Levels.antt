-- Mip levels: each has sides in range, the blocks of up to 13 of them have at most 22,369,648 bytes, and a file of one level has the blocks of its
-- picture. Assumes nothing.
use mathlib.Core.Path.{◌≡◌, refl, sym, ap, ap₂, ◌∙◌}
use mathlib.Core.Logic.{⊎_elim}
use Prim.Native.Nat.{ℕ, zero, suc, ◌+◌, ◌-◌, ◌/◌, ◌^◌, ◌≤◌}
use native.Mathlib.Nat.{le_refl, le_trans, le_of_eq, add-le-add, mul-le-mul, mul-le-mul_right, zero-add, div-one, div-le_self, div-mul-le_self, le-div_iff_mul-le, le_of_suc-le-suc, eq-or-lt_of_le}
use native.Mathlib.Numerals.{add-one}
use native.Mathlib.Omega.{arith}
use lib.Pow.{pow_pos}
use Rattle.bcn_spec.specs.Bits.{size_limit}
use Rattle.dds.specs.Dds.{SizeOurs, blocks_along, block_bytes, level_limit, at_least_one, level_side, level_bytes, chain_bytes}

-- ---- sides

pub one_is : (n : ℕ) → at_least_one n ≡ n + (1 - n)
one_is zero = refl
one_is (suc n) = omega arith

halved_rises : (k a b : ℕ) → a ≤ b → a / 2 ^ k ≤ b / 2 ^ k
halved_rises k a b h = (le-div_iff_mul-le {k = 2 ^ k} {x = a / 2 ^ k} {y = b} (pow_pos k)).1 (le_trans (div-mul-le_self a (2 ^ k)) h)

side_rises : (k a b : ℕ) → a ≤ b → level_side k a ≤ level_side k b
side_rises k a b h = omega (arith, one_is (a / 2 ^ k), one_is (b / 2 ^ k), halved_rises k a b h)

side_most : (k side : ℕ) → 1 ≤ side → level_side k side ≤ side
side_most k side h = omega (arith, one_is (side / 2 ^ k), div-le_self side (2 ^ k))

pub level_ours : (k width height : ℕ) → SizeOurs width height → SizeOurs (level_side k width) (level_side k height)
level_ours k width height s =
    record {
      wide = (omega (arith, one_is (width / 2 ^ k)), le_trans (side_most k width s.wide.0) s.wide.1);
      high = (omega (arith, one_is (height / 2 ^ k)), le_trans (side_most k height s.high.0) s.high.1);
    }

-- ---- bytes

along_rises : (a b : ℕ) → a ≤ b → blocks_along a ≤ blocks_along b
along_rises a b h = omega arith

level_rises : (k a b c d : ℕ) → a ≤ c → b ≤ d → level_bytes k a b ≤ level_bytes k c d
unfolding level_bytes block_bytes
level_rises k a b c d h g =
    mul-le-mul_right 16 (mul-le-mul (along_rises (level_side k a) (level_side k c) (side_rises k a c h)) (along_rises (level_side k b) (level_side k d) (side_rises k b d g)))

chain_rises : (n a b c d : ℕ) → a ≤ c → b ≤ d → chain_bytes n a b ≤ chain_bytes n c d
unfolding chain_bytes
chain_rises zero a b c d h g = le_refl 0
chain_rises (suc n) a b c d h g = add-le-add (chain_rises n a b c d h g) (level_rises n a b c d h g)

chain_longer : (m n width height : ℕ) → m ≤ n → chain_bytes m width height ≤ chain_bytes n width height
unfolding chain_bytes
chain_longer m zero width height h = let e : m ≡ 0 = omega arith in rw e (le_refl 0)
chain_longer m (suc n) width height h =
    ⊎_elim (λ e. rw e (le_refl _)) (λ l. omega (arith, chain_longer m n width height (le_of_suc-le-suc l))) (eq-or-lt_of_le h)

whole_chain : chain_bytes level_limit size_limit size_limit ≡ 22369648
unfolding chain_bytes level_bytes block_bytes
whole_chain = refl

-- S-95: the most bytes that the blocks of all levels have
pub chain_most : (n width height : ℕ) → n ≤ level_limit → SizeOurs width height → chain_bytes n width height ≤ 22369648
chain_most n width height h s =
    le_trans (chain_longer n level_limit width height h)
    (le_trans (chain_rises level_limit width height size_limit size_limit s.wide.1 s.high.1) (le_of_eq whole_chain))

-- level 0 is the picture
one_level : (width height : ℕ) → SizeOurs width height → chain_bytes 1 width height ≡ block_bytes width height
unfolding chain_bytes level_bytes
one_level width height s =
    zero-add _
    ∙ ap₂ block_bytes (ap at_least_one (div-one width) ∙ omega (arith, one_is width)) (ap at_least_one (div-one height) ∙ omega (arith, one_is height))

-- S-95: a level count of 0 or 1 is one level
pub all_one : (width height count : ℕ) → count ≤ 1 → SizeOurs width height → chain_bytes (at_least_one count) width height ≡ block_bytes width height
all_one width height zero h s = one_level width height s
all_one width height (suc zero) h s = one_level width height s
all_one width height (suc (suc n)) h s = absurd (omega arith)

-- the blocks of level 0 are among those of all levels
pub first_among : (width height count : ℕ) → SizeOurs width height → block_bytes width height ≤ chain_bytes (at_least_one count) width height
first_among width height count s =
    le_trans (le_of_eq (sym (one_level width height s))) (chain_longer 1 (at_least_one count) width height (omega (arith, one_is count)))

-- what a turn of the loop adds
pub chain_next : (k width height : ℕ) {bytes level : ℕ} → bytes ≡ chain_bytes k width height → level ≡ level_bytes k width height
    → bytes + level ≡ chain_bytes (k + 1) width height
unfolding chain_bytes
chain_next k width height b l = rw (b, l, add-one)
