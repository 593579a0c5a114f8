-- The ends that a mode's numbers are worked out to: one law over the modes and formats for differences, one for numbers stored whole, and one
-- for sixteen bits. Assumes nothing.
use mathlib.Core.Path.{◌≡◌, ◌∙◌, refl, sym, ap}
use mathlib.Core.Bool.{Bool, true, false}
use mathlib.Core.List.{List}
use Prim.Native.Nat.{ℕ, zero, suc, ◌≤◌, ◌<◌}
use native.Mathlib.Nat.{mod-eq_of_lt}
use native.Mathlib.Omega.{arith}
use lib.Dec.{eqb, lit<, lit≤, eqb-suc-zero}
use lib.IntN.{ℤ, pos, nat_abs}
use lib.ListN.{get_or}
use Rattle.laws.specs.Pick.{pick}
use Rattle.laws.proofs.Below.{below_three}
use Rattle.bc6h_spec.specs.Layout.{precision, own_width, transformed}
use Rattle.bc6h_spec.specs.Half.{sign_extend, keep, transform, unquantized}
use Rattle.bc6h_spec.specs.Picture.{first_end, delta, other_end}
use Rattle.bc6h_spec.proofs.Widths.{mode_facts}
use Rattle.bc6_runs.specs.declared.Channels.{Channels}
use Rattle.bc6_runs.specs.Ends.{four_of, places_of, ChannelsRead}
use Rattle.bc6_runs.proofs.Tables.{four_at}
use Rattle.bc6_runs.proofs.Stored.{first_bits}
use Rattle.bc6_endpoints.specs.Ends.{word_of, whole_of, moved_of, end_at, stored_in, ChannelEnds, WholeEnds, Sixteen, end_in, channel_of}
use Rattle.bc6_endpoints.proofs.Adding.{whole_16, moved_16_is}
use Rattle.bc6_endpoints.specs.declared.Ends.{Ends}
use Rattle.bc6_by_mode.specs.Words.{end_word, EndsOf, SixteenEnds}

-- ---- channels

-- channel c of three
abbrev numbers_in : Channels → ℕ → List ℤ
numbers_in x c = pick (eqb c 0) x.red (pick (eqb c 1) x.green x.blue)

-- something of each of them, and of what it becomes
by_channel : (P : ℕ → List ℤ → List ℤ → Type 0) (x : Channels) (r : Ends) → P 0 x.red r.red → P 1 x.green r.green → P 2 x.blue r.blue
    → (c : ℕ) → c < 3 → P c (numbers_in x c) (channel_of r c)
by_channel P x r = below_three (λ c. P c (numbers_in x c) (channel_of r c))

module _ {m n : ℕ} {stored : Channels} (read : ChannelsRead m n stored) where
  channel_is : (c : ℕ) → c < 3 → numbers_in stored c ≡ four_of (places_of m n c)
  channel_is = below_three (λ c. numbers_in stored c ≡ four_of (places_of m n c)) read.red.is read.green.is read.blue.is

  number_is : (c e : ℕ) → c < 3 → e < 4 → end_at (numbers_in stored c) e ≡ pos (places_of m n c e)
  number_is c e hc he = ap (λ (l : List ℤ). get_or l e (pos 0)) (channel_is c hc) ∙ four_at (places_of m n c) e he

  place_is : (c e : ℕ) → c < 3 → e < 4 → stored_in (numbers_in stored c) e ≡ places_of m n c e
  place_is c e hc he = ap nat_abs (number_is c e hc he)

-- ---- differences from the first

module _ {s : Bool} {m n : ℕ} {stored : Channels} {r : Ends} (read : ChannelsRead m n stored) where
  pub moved_done : transformed m ≡ true
      → ChannelEnds s (precision m) (own_width m 0) stored.red r.red × ChannelEnds s (precision m) (own_width m 1) stored.green r.green
      × ChannelEnds s (precision m) (own_width m 2) stored.blue r.blue → EndsOf 4 s m n r
  unfolding end_word whole_of moved_of word_of
  moved_done told k =
      record {
        each = λ c e hc he.
            let p = precision m in
            let first = place_is read c 0 hc (lit< tt) in
            ap (keep 16) ((by_channel (λ c l q. ChannelEnds s p (own_width m c) l q) stored r k.0 k.1 k.2 c hc).each e he)
            ∙ (λ i.
            keep 16
            (pick (eqb e 0) (unquantized s p (first_end s p (first i)))
            (unquantized s p (other_end s (sym told i) p (own_width m c) (first_end s p (first i)) (place_is read c e hc he i)))))
            ∙ inside (eqb e 0) _ _;
      }
    where
      inside : (b : Bool) (u v : ℤ) → keep 16 (pick b (unquantized s (precision m) u) (unquantized s (precision m) v)) ≡ word_of s (precision m) (pick b u v)
      inside true u v = refl
      inside false u v = refl

-- ---- stored whole

-- an endpoint that is no difference
whole_word : (s : Bool) (m n e c : ℕ) → transformed m ≡ false → own_width m c ≡ precision m → word_of s (precision m) (first_end s (precision m) (places_of m n c e)) ≡ end_word s m n e c
unfolding end_word other_end delta first_end
whole_word s m n zero c t w = refl
whole_word true m n (suc e) c t w = rw (eqb-suc-zero e, t) (ap (λ (p : ℕ). word_of true (precision m) (sign_extend p (places_of m n c (suc e)))) (sym w))
whole_word false m n (suc e) c t w = rw (eqb-suc-zero e, t) refl

module _ {s : Bool} {m n : ℕ} {stored : Channels} {r : Ends} (read : ChannelsRead m n stored) where
  pub whole_done : 1 ≤ m → m ≤ 14 → transformed m ≡ false
      → WholeEnds s (precision m) stored.red r.red × WholeEnds s (precision m) stored.green r.green × WholeEnds s (precision m) stored.blue r.blue
      → EndsOf 4 s m n r
  unfolding whole_of word_of
  whole_done low high told k =
      record {
        each = λ c e hc he.
            let p = precision m in
            ap (keep 16) ((by_channel (λ c l q. WholeEnds s p l q) stored r k.0 k.1 k.2 c hc).each e he)
            ∙ ap (λ (j : ℕ). keep 16 (unquantized s p (first_end s p j))) (place_is read c e hc he)
            ∙ whole_word s m n e c told ((mode_facts m low high).whole told c hc);
      }

-- ---- sixteen bits, which are no more unquantised

mode_14 : transformed 14 ≡ true
unfolding transformed
mode_14 = refl

own_four : (c : ℕ) → c < 3 → own_width 14 c ≡ 4
own_four = below_three (λ c. own_width 14 c ≡ 4) refl refl refl

module _ (s : Bool) {n : ℕ} {r : Ends} (k : SixteenEnds n r) (c : ℕ) (h : c < 3) where
  done : Sixteen (numbers_in k.stored c) (channel_of r c)
  done = by_channel (λ c l q. Sixteen l q) k.stored r k.red k.green k.blue c h

  first_word : end_in r 0 c ≡ end_word s 14 n 0 c
  unfolding end_word keep
  first_word =
      let few = first_bits 14 n (lit≤ tt) (lit≤ tt) c h in
      ap (keep 16) (done.first ∙ number_is k.read c 0 h (lit< tt)) ∙ mod-eq_of_lt few ∙ sym (whole_16 s (places_of 14 n c 0) few)

  second_word : end_in r 1 c ≡ end_word s 14 n 1 c
  unfolding end_word
  second_word =
      ap (keep 16) done.second
      ∙ (λ i. keep 16 (transform false 16 (number_is k.read c 0 h (lit< tt) i) (sign_extend 4 (place_is k.read c 1 h (lit< tt) i))))
      ∙ moved_16_is s (places_of 14 n c 0) (places_of 14 n c 1)
      ∙ (λ i. word_of s 16 (other_end s (sym mode_14 i) 16 (sym (own_four c h) i) (first_end s 16 (places_of 14 n c 0)) (places_of 14 n c 1)))

pub sixteen_done : (s : Bool) {n : ℕ} {r : Ends} → SixteenEnds n r → EndsOf 2 s 14 n r
sixteen_done s {n} {r} k = record { each = go }
  where
    go : (c e : ℕ) → c < 3 → e < 2 → end_in r e c ≡ end_word s 14 n e c
    go c zero hc he = first_word s k c hc
    go c (suc zero) hc he = second_word s k c hc
    go c (suc (suc e)) hc he = absurd (omega arith)
