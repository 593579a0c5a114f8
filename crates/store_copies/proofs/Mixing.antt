-- Interpolation on naturals, and on integers by an offset. Assumes nothing.
use mathlib.Core.Path.{◌≡◌, refl, ap}
use Prim.Native.Nat.{ℕ, ◌+◌, ◌-◌, ◌*◌, ◌/◌, ◌≤◌, min, max}
use native.Mathlib.Nat.{mul-le-mul_right, add_comm}
use native.Mathlib.Omega.{arith}
use lib.Arith.{sub-sub_self}
use lib.IntN.{ℤ, pos, ◌+ℤ◌, ◌*ℤ◌}
use Rattle.laws.proofs.Num.{diff}
use Rattle.laws.proofs.Off.{Off, off_pos, off_add, off_mul, off_shr, off_same}
use Rattle.bc6h_spec.specs.Half.{interpolated}

unfoldable pub mixed : ℕ → ℕ → ℕ → ℕ
mixed a b w = (a * (64 - w) + b * w + 32) / 64

pub mixed_first : (a b : ℕ) → mixed a b 0 ≡ a
unfolding mixed
mixed_first a b = omega arith

pub mixed_last : (a b : ℕ) → mixed a b 64 ≡ b
unfolding mixed
mixed_last a b = omega arith

pub mixed_turned : (a b w : ℕ) → w ≤ 64 → mixed a b w ≡ mixed b a (64 - w)
unfolding mixed
mixed_turned a b w h = rw (sub-sub_self {a = w} {m = 64} h, add_comm (a * (64 - w)) (b * w))

-- a sum with weights v and w, 64 together, lies between bounds of its parts
weighed_above : (m a b v w : ℕ) → v + w ≡ 64 → m ≤ a → m ≤ b → 64 * m ≤ a * v + b * w
weighed_above m a b v w e ha hb =
    omega (arith, mul-le-mul_right v ha, mul-le-mul_right w hb, ap (λ (x : ℕ). m * x) e)

weighed_below : (m a b v w : ℕ) → v + w ≡ 64 → a ≤ m → b ≤ m → a * v + b * w ≤ 64 * m
weighed_below m a b v w e ha hb =
    omega (arith, mul-le-mul_right v ha, mul-le-mul_right w hb, ap (λ (x : ℕ). m * x) e)

pub mixed_above : (a b w : ℕ) → w ≤ 64 → min a b ≤ mixed a b w
unfolding mixed
mixed_above a b w h =
    omega (arith, weighed_above (min a b) a b (64 - w) w (omega arith) (omega arith) (omega arith))

pub mixed_below : (a b w : ℕ) → w ≤ 64 → mixed a b w ≤ max a b
unfolding mixed
mixed_below a b w h =
    omega (arith, weighed_below (max a b) a b (64 - w) w (omega arith) (omega arith) (omega arith))

-- ---- integers

pub off_mixed : (K : ℕ) (a b : ℤ) (n m w : ℕ) → w ≤ 64 → Off K a n → Off K b m → Off K (interpolated a b (pos w)) (mixed n m w)
unfolding interpolated mixed
off_mixed K a b n m w h oa ob =
    rw (diff 64 w h)
    (off_shr K (a *ℤ pos (64 - w) +ℤ b *ℤ pos w +ℤ pos 32) (n * (64 - w) + m * w + 32)
    (off_same (K * (64 - w) + K * w + 0) (K * 64) (a *ℤ pos (64 - w) +ℤ b *ℤ pos w +ℤ pos 32) (n * (64 - w) + m * w + 32) (n * (64 - w) + m * w + 32) e refl
    (off_add (K * (64 - w) + K * w) 0 (a *ℤ pos (64 - w) +ℤ b *ℤ pos w) (pos 32) (n * (64 - w) + m * w) 32
    (off_add (K * (64 - w)) (K * w) (a *ℤ pos (64 - w)) (b *ℤ pos w) (n * (64 - w)) (m * w) (off_mul K a n (64 - w) oa) (off_mul K b m w ob))
    (off_pos 32))))
  where
    s : (64 - w) + w ≡ 64
    s = omega arith

    e : K * (64 - w) + K * w + 0 ≡ K * 64
    e = omega (arith, ap (λ (x : ℕ). K * x) s)
