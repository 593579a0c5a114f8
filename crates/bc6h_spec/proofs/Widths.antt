-- What the lists of precisions and widths are known to hold: one test over the modes. Assumes nothing.
use mathlib.Core.Path.{◌≡◌, refl}
use mathlib.Core.Bool.{Bool, true, false}
use Prim.Native.Nat.{ℕ, ◌+◌, ◌^◌, ◌≤◌, ◌<◌}
use native.Mathlib.Decide.{ℕ_discrete}
use native.Mathlib.Omega.{arith}
use lib.Dec.{T, leb, eqb, leb→le, eqb→eq, lit<}
use lib.Pow.{pow_pos}
use borrow.Author.Tests.{ne_eqb}
use Rattle.laws.specs.Pick.{both, either}
use Rattle.laws.specs.Every.{below}
use Rattle.laws.proofs.Tests.{both_left, both_right, either_right, below_at, upto_at}
use Rattle.bc6h_spec.specs.declared.Fields.{Fields}
use Rattle.bc6h_spec.specs.Layout.{precision, own_width, transformed, two_regions}
use Rattle.bc6h_spec.specs.Fields.{stored, Valid}
use Rattle.bc6h_spec.proofs.Reading.{width_first, width_second, width_last}

pub record Mode (m : ℕ) : Type 0 where
  pub some : 1 ≤ precision m
  pub most : precision m ≤ 16
  -- mode 14 alone has more than 12 bits
  pub few : m ≤ 13 → precision m ≤ 12
  pub width_some : (c : ℕ) → c < 3 → 1 ≤ own_width m c
  pub width_few : (c : ℕ) → c < 3 → own_width m c ≤ precision m
  -- a mode that is not transformed stores every endpoint in p bits
  pub whole : transformed m ≡ false → (c : ℕ) → c < 3 → own_width m c ≡ precision m

abbrev channel? : ℕ → ℕ → Bool
channel? m c =
    both (leb 1 (own_width m c)) (both (leb (own_width m c) (precision m)) (either (transformed m) (eqb (own_width m c) (precision m))))

abbrev mode? : ℕ → Bool
mode? m =
    both (leb 1 (precision m))
    (both (leb (precision m) 16)
    (both (either (eqb m 14) (leb (precision m) 12))
    (below (channel? m) 3)))

all : T (below (λ j. mode? (j + 1)) 14)
unfolding transformed
all = tt

by_test : (m : ℕ) → T (mode? m) → Mode m
by_test m t =
    let t1 = both_right (leb 1 (precision m)) _ t in
    let t2 = both_right (leb (precision m) 16) _ t1 in
    let w = below_at (channel? m) 3 in
    let s = both_right (either (eqb m 14) (leb (precision m) 12)) _ t2 in
    record {
      some = leb→le _ _ (both_left (leb 1 (precision m)) _ t);
      most = leb→le _ _ (both_left (leb (precision m) 16) _ t1);
      few = λ h. leb→le _ _ (either_right (eqb m 14) _ (ne_eqb m 14 (λ e. omega arith)) (both_left (either (eqb m 14) (leb (precision m) 12)) _ t2));
      width_some = λ c k. leb→le _ _ (both_left (leb 1 (own_width m c)) _ (w c s k));
      width_few = λ c k.
          leb→le _ _ (both_left (leb (own_width m c) (precision m)) _ (both_right (leb 1 (own_width m c)) _ (w c s k)));
      whole = λ e c k.
          eqb→eq _ _
          (either_right (transformed m) _ e
          (both_right (leb (own_width m c) (precision m)) _ (both_right (leb 1 (own_width m c)) _ (w c s k))));
    }

pub mode_facts : (m : ℕ) → 1 ≤ m → m ≤ 14 → Mode m
mode_facts m low high = by_test m (upto_at mode? 14 m all low high)

-- ---- the stored numbers of a valid record, by endpoint

module _ (f : Fields) (v : Valid f) where
  pub known : Mode f.mode
  known = mode_facts f.mode v.mode_first v.mode_last

  pub first_fits : (c : ℕ) → c < 3 → stored f 0 c < 2 ^ precision f.mode
  first_fits c h = rw (width_first f.mode c h) at (v.endpoint_fits 0 c (lit< tt) h)

  last_case : (e c : ℕ) → 2 ≤ e → e < 4 → c < 3 → (b : Bool) → two_regions f.mode ≡ b → stored f e c < 2 ^ own_width f.mode c
  last_case e c l h k true t = rw (width_last f.mode e c l h k, t) at (v.endpoint_fits e c h k)
  last_case e c l h k false t = rw (v.endpoint_zero t e c l h k) (pow_pos (own_width f.mode c))

  pub other_fits : (e c : ℕ) → 1 ≤ e → e < 4 → c < 3 → stored f e c < 2 ^ own_width f.mode c
  other_fits e c l h k = go (ℕ_discrete e 1)
    where
      go : Dec (e ≡ 1) → stored f e c < 2 ^ own_width f.mode c
      go (yes q) = rw q (rw (width_second f.mode c k) at (v.endpoint_fits 1 c (lit< tt) k))
      go (no q) = last_case e c (omega arith) h k (two_regions f.mode) refl
