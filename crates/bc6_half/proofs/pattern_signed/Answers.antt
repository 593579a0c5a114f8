-- `bc6_half::pattern_signed` meets its contract. Assumes nothing.
use mathlib.Core.Path.{◌≡◌, ◌∙◌, sym, ap, subst}
use mathlib.Core.Bool.{true, false}
use native.Mathlib.Omega.{arith}
use Prim.Native.Nat.{ℕ, ◌+◌, ◌*◌, ◌/◌, ◌≤◌, ◌<◌}
use lib.Dec.{lit<}
use lib.IntN.{ℤ, pos, negsuc, nat_abs, ◌*ℤ◌}
use lib.Signed.{mag, shr_z, lt_z}
use mir.Syntax.{w32}
use mir.Val.{to_z, of_z}
use Rattle.laws.specs.Ranges.{Within}
use Rattle.laws.proofs.Num.{Num, lit, mul, shr, given, need, kept, read, to_u16, u16_is, upto_mag}
use Rattle.bc6h_spec.specs.Half.{sign_extend, finish_s}
use Rattle.bc6h_spec.proofs.Ranges.{extended_in}
use Rattle.bc6_half.specs.Halves.{signed_number}
use Rattle.bc6_half.proofs.Sized.{shrunk, low_pattern, high_pattern, finish_lt}
use Rattle.bc6_half.proofs.pattern_signed.Goals as goal

-- the number as it is read
module _ (u : ℕ) (fits : u < 65536) (n : ℤ) (fine : mag n < 2147483648) (is : n ≡ signed_number true u) where
  abbrev x : ℤ
  x = sign_extend 16 u

  number : to_z w32 (of_z w32 n) ≡ x
  unfolding signed_number
  number = read fine is

  inside : mag x < 32768
  inside = (extended_in 16 u (lit< tt) fits).inside

  upto : nat_abs x ≤ 32768
  upto = (upto_mag {n = 32768} {z = x} inside).upto

  -- its magnitude, scaled
  module _ (m : ℤ) (ok : mag m < 2147483648) (is-size : m ≡ pos (nat_abs (to_z w32 (of_z w32 n)))) where
    told : m ≡ pos (nat_abs x)
    told = is-size ∙ ap (λ (z : ℤ). pos (nat_abs z)) number

    abbrev product : Num
    product = mul (given 32768 m (record { sfits = ok }) (subst (λ (z : ℤ). nat_abs z ≤ 32768) (sym told) upto)) (lit (pos 31))

    abbrev scaled : Num
    scaled = kept (shr 32 (kept product tt)) tt

    scaled_is : scaled.z ≡ pos (31 * nat_abs x / 32)
    scaled_is = ap (λ (z : ℤ). shr_z (z *ℤ pos 31) 32) told ∙ shrunk (nat_abs x)

    size : nat_abs scaled.v ≡ 31 * nat_abs x / 32
    size = u16_is scaled scaled_is

    -- the sign and the scaled magnitude, by the test on the number
    low : (sign : ℕ) → lt_z (to_z w32 (of_z w32 n)) (negsuc 0) ≡ true → sign ≡ 32768 → sign + nat_abs scaled.v ≡ finish_s x
    low sign b f = let g : lt_z x (negsuc 0) ≡ true = ap (λ (z : ℤ). lt_z z (negsuc 0)) (sym number) ∙ b in omega (arith, size, f, low_pattern x g)

    high : (sign : ℕ) → lt_z (to_z w32 (of_z w32 n)) (negsuc 0) ≡ false → sign ≡ 0 → sign + nat_abs scaled.v ≡ finish_s x
    high sign b f = let g : lt_z x (negsuc 0) ≡ false = ap (λ (z : ℤ). lt_z z (negsuc 0)) (sym number) ∙ b in omega (arith, size, f, high_pattern x g)

    fits_low : (sign : ℕ) → lt_z (to_z w32 (of_z w32 n)) (negsuc 0) ≡ true → sign ≡ 32768 → sign + nat_abs scaled.v < 65536
    fits_low s e f = rw (low s e f) (finish_lt x inside)

    fits_high : (sign : ℕ) → lt_z (to_z w32 (of_z w32 n)) (negsuc 0) ≡ false → sign ≡ 0 → sign + nat_abs scaled.v < 65536
    fits_high s e f = rw (high s e f) (finish_lt x inside)

pub magnitude-requires : goal.magnitude-requires
magnitude-requires c =
    let n = c.number-x in
    let l = inside c.args.u c.ranges.u.fits n.result n.type_inv n.ensures in
    subst (Within 65536) (sym (number c.args.u c.ranges.u.fits n.result n.type_inv n.ensures)) (record { inside = omega (arith, l) })

pub overflow_mul-t : goal.overflow_mul-t
overflow_mul-t c =
    let n = c.number-x in
    let m = c.magnitude in
    need (product c.args.u c.ranges.u.fits n.result n.type_inv n.ensures m.result m.type_inv m.ensures) tt

pub overflow_cast-t : goal.overflow_cast-t
overflow_cast-t c =
    let n = c.number-x in
    let m = c.magnitude in
    let u = upto c.args.u c.ranges.u.fits n.result n.type_inv n.ensures in
    to_u16 (scaled c.args.u c.ranges.u.fits n.result n.type_inv n.ensures m.result m.type_inv m.ensures)
    (scaled_is c.args.u c.ranges.u.fits n.result n.type_inv n.ensures m.result m.type_inv m.ensures) (omega (arith, u))

pub overflow_add-result : goal.overflow_add-result
overflow_add-result c =
    let n = c.number-x in
    let m = c.magnitude in
    let below = fits_low c.args.u c.ranges.u.fits n.result n.type_inv n.ensures m.result m.type_inv m.ensures 32768 in
    let above = fits_high c.args.u c.ranges.u.fits n.result n.type_inv n.ensures m.result m.type_inv m.ensures 0 in
    record { fits = grind (arith, below, above) }

pub returns : goal.returns
returns c =
    let n = c.number-x in
    let m = c.magnitude in
    let below = low c.args.u c.ranges.u.fits n.result n.type_inv n.ensures m.result m.type_inv m.ensures 32768 in
    let above = high c.args.u c.ranges.u.fits n.result n.type_inv n.ensures m.result m.type_inv m.ensures 0 in
    grind (arith, below, above)
