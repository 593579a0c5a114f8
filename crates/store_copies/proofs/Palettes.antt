-- The palettes of both formats obey the laws of Region's `Palette`, at each precision from 1 to 12 bits and for each list of even
-- weights. What the formats differ in is the record `Format`. Assumes nothing.
use mathlib.Core.Path.{◌≡◌, refl, sym, ap, ◌∙◌}
use mathlib.Core.Bool.{Bool, true, false}
use mathlib.Core.List.{List}
use Prim.Native.Nat.{ℕ, zero, suc, ◌+◌, ◌-◌, ◌*◌, ◌/◌, ◌^◌, ◌≤◌, ◌<◌, min, max}
use native.Mathlib.Decide.{dec_lt}
use native.Mathlib.Omega.{arith}
use lib.Dec.{ltb, lit≤}
use lib.IntN.{ℤ, pos, negsuc, neg_ℤ, nat_abs}
use lib.ListN.{get_or}
use borrow.Author.Tests.{lt-leb, lt-ltb, le-ltb}
use Rattle.laws.specs.Pick.{pick}
use Rattle.laws.proofs.Off.{Off, off_inj, off_pos}
use Rattle.bc6h_spec.specs.Half.{unquantize_u, unquantize_m, unquantized, interpolated, scaled, pattern, finish_u, finish_s, finished}
use Rattle.bc6h_spec.specs.Picture.{between}
use Rattle.bc6h_spec.proofs.Ranges.{u_m_le}
use Rattle.bcn_spec.proofs.Weights.{Weights}
use Rattle.store_copies.proofs.Region.{Palette}
use Rattle.store_copies.proofs.Staircase.{unsigned_gap, signed_gap}
use Rattle.store_copies.proofs.Mixing.{mixed, mixed_first, mixed_last, mixed_turned, mixed_above, mixed_below, off_mixed}

-- an endpoint's number is `enc` less K; a colour's rank is a rising function of the number's
pub record Format (signed : Bool) (p : ℕ) (Ok : ℤ → Type 0) : Type 0 where
  pub K : ℕ
  pub enc : ℤ → ℕ
  pub rank : ℕ → ℕ
  pub fin : ℕ → ℕ
  pub enc_off : (a : ℤ) → Off K (unquantized signed p a) (enc a)
  pub rank_fin : (a b z : ℤ) (n : ℕ) → n ≤ max (enc a) (enc b) → Off K z n → rank (finished signed z) ≡ fin n
  pub fin_rises : (m n : ℕ) → m ≤ n → fin m ≤ fin n
  pub fin_apart : (a b : ℤ) → Ok a → Ok b → fin (enc a) ≡ fin (enc b) → a ≡ b

rising_above : (f : ℕ → ℕ) → ((m n : ℕ) → m ≤ n → f m ≤ f n) → (a b x : ℕ) → min a b ≤ x → min (f a) (f b) ≤ f x
rising_above f r a b x h = go (dec_lt a b)
  where
    go : Dec (a < b) → min (f a) (f b) ≤ f x
    go (yes l) = omega (arith, r a x (omega arith))
    go (no l) = omega (arith, r b x (omega arith))

rising_below : (f : ℕ → ℕ) → ((m n : ℕ) → m ≤ n → f m ≤ f n) → (a b x : ℕ) → x ≤ max a b → f x ≤ max (f a) (f b)
rising_below f r a b x h = go (dec_lt a b)
  where
    go : Dec (a < b) → f x ≤ max (f a) (f b)
    go (yes l) = omega (arith, r x b (omega arith))
    go (no l) = omega (arith, r x a (omega arith))

-- numbers below N whose steps are apart are told apart by them
steps_apart : (N : ℕ) (f : ℕ → ℕ) → ((a b : ℕ) → a < b → b < N → f a < f b) → (a b : ℕ) → a < N → b < N → f a ≡ f b → a ≡ b
steps_apart N f rises a b la lb e = go (dec_lt a b) (dec_lt b a)
  where
    go : Dec (a < b) → Dec (b < a) → a ≡ b
    go (yes l) m = absurd (omega (arith, rises a b l lb))
    go (no l) (yes m) = absurd (omega (arith, rises b a m la))
    go (no l) (no m) = omega arith

module _ (n : ℕ) (ws : List ℕ) (W : Weights n ws) (signed : Bool) (p : ℕ) (Ok : ℤ → Type 0) (F : Format signed p Ok) where
  abbrev colour : ℤ → ℕ
  colour a = finished signed (unquantized signed p a)

  number : (a b : ℤ) (w : ℕ) → w ≤ 64 → Off F.K (interpolated (unquantized signed p a) (unquantized signed p b) (pos w)) (mixed (F.enc a) (F.enc b) w)
  number a b w h = off_mixed F.K _ _ (F.enc a) (F.enc b) w h (F.enc_off a) (F.enc_off b)

  rank_between : (a b : ℤ) (w : ℕ) → w ≤ 64 → F.rank (between signed p a b w) ≡ F.fin (mixed (F.enc a) (F.enc b) w)
  unfolding between
  rank_between a b w h = F.rank_fin a b _ _ (mixed_below (F.enc a) (F.enc b) w h) (number a b w h)

  rank_colour : (a : ℤ) → F.rank (colour a) ≡ F.fin (F.enc a)
  rank_colour a = F.rank_fin a a _ _ (omega arith) (F.enc_off a)

  -- what a weight shows, where the mixed number is known
  shows : (a b z : ℤ) (w : ℕ) {m : ℕ} → w ≤ 64 → mixed (F.enc a) (F.enc b) w ≡ m → Off F.K z m → between signed p a b w ≡ finished signed z
  unfolding between
  shows a b z w {m} h e o = ap (finished signed) (off_inj F.K _ _ m (rw e at (number a b w h)) o)

  turned : (a b : ℤ) (w : ℕ) → w ≤ 64 → between signed p a b w ≡ between signed p b a (64 - w)
  unfolding between
  turned a b w h = shows a b _ w h (mixed_turned (F.enc a) (F.enc b) w h) (number b a (64 - w) (omega arith))

  pub palette_laws : Palette n ℤ Ok (λ a b i. between signed p a b (get_or ws i 0)) colour F.rank
  palette_laws =
      record {
        at_first = λ a b. rw W.starts (shows a b _ 0 (lit≤ tt) (mixed_first (F.enc a) (F.enc b)) (F.enc_off a));
        at_last = λ a b. rw W.ends (shows a b _ 64 (lit≤ tt) (mixed_last (F.enc a) (F.enc b)) (F.enc_off b));
        above = λ a b i l.
            rw (rank_colour a, rank_colour b, rank_between a b (get_or ws i 0) (W.small i l))
            (rising_above F.fin F.fin_rises _ _ _ (mixed_above (F.enc a) (F.enc b) (get_or ws i 0) (W.small i l)));
        below = λ a b i l.
            rw (rank_colour a, rank_colour b, rank_between a b (get_or ws i 0) (W.small i l))
            (rising_below F.fin F.fin_rises _ _ _ (mixed_below (F.enc a) (F.enc b) (get_or ws i 0) (W.small i l)));
        turned = λ a b i l. rw (W.even i l) (turned a b (get_or ws i 0) (W.small i l));
        apart = λ a b oa ob e. F.fin_apart a b oa ob (sym (rank_colour a) ∙ e ∙ rank_colour b);
      }

-- ---- unsigned

abbrev pub OkU : ℕ → ℤ → Type 0
OkU p (pos c) = c < 2 ^ p
OkU p (negsuc c) = ⊥

pub unsigned : (p : ℕ) → p ≤ 12 → Format false p (OkU p)
unfolding unquantized finished finish_u
unsigned p h =
    record {
      K = 0;
      enc = λ a. unquantize_u p (nat_abs a);
      rank = λ x. x;
      fin = λ n. 31 * n / 64;
      enc_off = λ a. off_pos (unquantize_u p (nat_abs a));
      rank_fin = rank_fin;
      fin_rises = λ m n l. omega arith;
      fin_apart = apart;
    }
  where
    rank_fin : (a b z : ℤ) (n : ℕ) → n ≤ max (unquantize_u p (nat_abs a)) (unquantize_u p (nat_abs b)) → Off 0 z n → finished false z ≡ 31 * n / 64
    rank_fin a b (pos x) n l o = omega arith
    rank_fin a b (negsuc x) n l o = absurd (omega arith)

    apart : (a b : ℤ) → OkU p a → OkU p b → 31 * unquantize_u p (nat_abs a) / 64 ≡ 31 * unquantize_u p (nat_abs b) / 64 → a ≡ b
    apart (pos a) (pos b) oa ob e =
        ap pos (steps_apart (2 ^ p) (λ c. 31 * unquantize_u p c / 64) (λ x y l m. omega (arith, unsigned_gap p h x y l m)) a b oa ob e)
    apart (pos a) (negsuc b) oa ob e = absurd ob
    apart (negsuc a) b oa ob e = absurd oa

-- ---- signed

-- not −2 ^ (p − 1), which shares its colour with its neighbour
abbrev pub OkS : ℕ → ℤ → Type 0
OkS p a = nat_abs a < 2 ^ (p - 1)

enc_s : ℕ → ℤ → ℕ
enc_s p (pos m) = 32768 + unquantize_m p m
enc_s p (negsuc m) = 32768 - unquantize_m p (suc m)

-- above 32768 the first product is zero, below it the second
fin_s : ℕ → ℕ
fin_s n = 32768 - 31 * (32768 - n) / 32 + 31 * (n - 32768) / 32

-- a pattern's place in the order of the numbers
rank_s : ℕ → ℕ
rank_s t = pick (ltb t 32768) (32768 + t) (65536 - t)

-- the pattern of a number below zero, or of zero
rank_neg : (v : ℕ) → v ≤ 32768 → rank_s (pattern (neg_ℤ (pos v))) ≡ 32768 - v
unfolding rank_s
rank_neg zero h = refl
rank_neg (suc y) h = rw (le-ltb (32768 + (y + 1)) 32768 (omega arith)) (omega arith)

rank_fin : (z : ℤ) (n : ℕ) → n ≤ 65536 → Off 32768 z n → rank_s (finish_s z) ≡ fin_s n
unfolding finish_s scaled rank_s fin_s
rank_fin (pos x) n l o = rw (lt-ltb (31 * x / 32) 32768 (omega arith)) (omega arith)
rank_fin (negsuc x) n l o = rank_neg (31 * suc x / 32) (omega arith) ∙ omega arith

below_zero : (u : ℕ) → u ≤ 32768 → Off 32768 (neg_ℤ (pos u)) (32768 - u)
below_zero zero h = omega arith
below_zero (suc u) h = omega arith

module _ (p : ℕ) (o : 1 ≤ p) (h : p ≤ 12) where
  enc_le : (a : ℤ) → enc_s p a ≤ 65536
  unfolding enc_s
  enc_le (pos m) = omega (arith, u_m_le p m)
  enc_le (negsuc m) = omega arith

  enc_off : (a : ℤ) → Off 32768 (unquantized true p a) (enc_s p a)
  unfolding enc_s unquantized
  enc_off (pos m) = rw (lt-leb 16 p (omega arith)) refl
  enc_off (negsuc m) = rw (lt-leb 16 p (omega arith)) (below_zero (unquantize_m p (suc m)) (omega (arith, u_m_le p (suc m))))

  magnitude_apart : (a b : ℕ) → a < 2 ^ (p - 1) → b < 2 ^ (p - 1) → 31 * unquantize_m p a / 32 ≡ 31 * unquantize_m p b / 32 → a ≡ b
  magnitude_apart = steps_apart (2 ^ (p - 1)) (λ c. 31 * unquantize_m p c / 32) (λ x y l m. omega (arith, signed_gap p o h x y l m))

  fin_pos : (m : ℕ) → fin_s (enc_s p (pos m)) ≡ 32768 + 31 * unquantize_m p m / 32
  unfolding enc_s fin_s
  fin_pos m = omega arith

  fin_neg : (m : ℕ) → fin_s (enc_s p (negsuc m)) ≡ 32768 - 31 * unquantize_m p (suc m) / 32
  unfolding enc_s fin_s
  fin_neg m = omega (arith, u_m_le p (suc m))

  apart : (a b : ℤ) → OkS p a → OkS p b → fin_s (enc_s p a) ≡ fin_s (enc_s p b) → a ≡ b
  apart (pos a) (pos b) oa ob e = ap pos (magnitude_apart a b oa ob (omega (arith, fin_pos a, fin_pos b)))
  apart (pos a) (negsuc b) oa ob e = absurd (omega (arith, fin_pos a, fin_neg b, signed_gap p o h 0 (suc b) (omega arith) ob, u_m_le p (suc b)))
  apart (negsuc a) (pos b) oa ob e = absurd (omega (arith, fin_neg a, fin_pos b, signed_gap p o h 0 (suc a) (omega arith) oa, u_m_le p (suc a)))
  apart (negsuc a) (negsuc b) oa ob e =
      let q : suc a ≡ suc b = magnitude_apart (suc a) (suc b) oa ob (omega (arith, fin_neg a, fin_neg b, u_m_le p (suc a), u_m_le p (suc b))) in
      ap negsuc (omega arith)

  pub signed : Format true p (OkS p)
  unfolding finished fin_s
  signed =
      record {
        K = 32768;
        enc = enc_s p;
        rank = rank_s;
        fin = fin_s;
        enc_off = enc_off;
        rank_fin = λ a b z n l w. rank_fin z n (omega (arith, enc_le a, enc_le b)) w;
        fin_rises = λ m n l. omega arith;
        fin_apart = apart;
      }
