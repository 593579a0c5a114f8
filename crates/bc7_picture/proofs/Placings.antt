-- A mode of more than one region, from where its parts are placed. Assumes nothing.
use mathlib.Core.Path.{◌≡◌, ◌∙◌, refl, sym, ap}
use mathlib.Core.List.{List, ◌++◌}
use Prim.Native.Nat.{ℕ, ◌+◌, ◌-◌, ◌*◌, ◌/◌, ◌%◌, ◌^◌}
use native.Mathlib.Nat.{mod-one}
use native.Mathlib.Omega.{arith}
use lib.Dec.{lit<, lit≤}
use lib.ListN.{length, drop}
use Rattle.laws.specs.Bit.{bit}
use Rattle.laws.specs.Made.{made}
use Rattle.laws.specs.Packed.{before, unpacked}
use Rattle.bcn_util.proofs.Indexing.{Rising}
use Rattle.bc7_spec.specs.Modes.{modes, mode_at}
use Rattle.bc7_spec.specs.Layout.{run_bits, run_in, first_run}
use Rattle.bc7_spec.specs.Fields.{partition_in, rotation_in, pbit_in}
use Rattle.bc7_spec.specs.Block.{byte_in}
use Rattle.bc7_ends.specs.Ends.{EndedIn}
use Rattle.bc7_weights.specs.Weighed.{WeighedBy}
use Rattle.bc7_paint.specs.Shades.{shade_byte}
use Rattle.bc7_picture.specs.Shown.{BothSides, Placed, PBits}
use Rattle.bc7_picture.proofs.Marks.{Marked}
use Rattle.bc7_picture.proofs.Parts.{Ends, Set}
use Rattle.bc7_picture.proofs.Classes.{one_set}
use Rattle.bc7_picture.proofs.Sides.{joined}
use Rattle.bc7_picture.proofs.Paintings.{painted}

module _ {m regions partition colour alpha d at bits n p : ℕ} (here : Placed m regions partition colour alpha d at bits) (pb : PBits m regions d n p) where
  ends_of : {ends : List ℕ} {place : ℕ} → place ≡ m + 1 + partition → EndedIn n place (2 * regions) colour alpha p d ends → Ends m n p d ends
  ends_of e h = record {
    made_so = rw (here.ends_at, here.regions_are, here.colour_is, here.alpha_is) (rw e at h);
    one_each = here.p_each;
    p_bits = λ k l. pb.is k (rw here.regions_are at l);
  }

  set_of : {xs weights : List ℕ} → length xs ≡ regions → Rising 0 16 xs → WeighedBy bits xs (n / 2 ^ at) weights
      → Set (mode_at m).first xs (n / 2 ^ at) (run_in m n first_run) weights
  set_of {xs} len rises h =
      let first : bits ≡ (mode_at m).first = sym here.first_is in
      let count : regions ≡ length xs = sym len in
      record {
        weighed = rw here.first_is h;
        positive = omega (arith, here.first_is, here.low_bits);
        rising = rises;
        run_is = here.run_is n ∙ (λ i. n / 2 ^ at % 2 ^ (16 * first i - count i));
      }

  pub shown : {row ones twos place : ℕ} {xs ends weights : List ℕ} → Marked regions row ones twos xs → length xs ≡ regions → Rising 0 16 xs
      → row ≡ n / 2 ^ (m + 1) % 2 ^ partition → place ≡ m + 1 + partition → EndedIn n place (2 * regions) colour alpha p d ends → WeighedBy bits xs (n / 2 ^ at) weights
      → (out after : List ℕ) → after ≡ made (shade_byte ends ones twos 0 weights weights) 64 ++ drop 64 out → after ≡ made (byte_in m n) 64 ++ drop 64 out
  shown mark len rises r e ends weighed out after =
      painted (one_set m n (rw here.regions_are mark) (r ∙ here.partition_is n) (ends_of e ends) (set_of len rises weighed) here.one_set (here.no_turn n)) out after

-- ---- the modes themselves

pub placed_0 : Placed 0 3 4 4 0 1 83 3
unfolding before unpacked modes mode_at run_bits run_in partition_in rotation_in
placed_0 = record {
  regions_are = refl;
  partition_is = λ n. refl;
  ends_at = refl;
  colour_is = refl;
  alpha_is = refl;
  p_each = refl;
  first_is = refl;
  run_is = λ n. refl;
  one_set = refl;
  no_turn = λ n. sym (mod-one _);
  colour_wide = record { p_bit = lit≤ tt; low = lit≤ tt; high = lit≤ tt; fits = lit≤ tt };
  alpha_wide = record { p_bit = lit≤ tt; low = lit≤ tt; high = lit≤ tt; fits = lit≤ tt };
  low_bits = lit≤ tt;
  high_bits = lit≤ tt;
  partition_most = lit≤ tt;
  mode_most = lit< tt;
  at_most = lit< tt;
}

pub placed_1 : Placed 1 2 6 6 0 1 82 3
unfolding before unpacked modes mode_at run_bits run_in partition_in rotation_in
placed_1 = record {
  regions_are = refl;
  partition_is = λ n. refl;
  ends_at = refl;
  colour_is = refl;
  alpha_is = refl;
  p_each = refl;
  first_is = refl;
  run_is = λ n. refl;
  one_set = refl;
  no_turn = λ n. sym (mod-one _);
  colour_wide = record { p_bit = lit≤ tt; low = lit≤ tt; high = lit≤ tt; fits = lit≤ tt };
  alpha_wide = record { p_bit = lit≤ tt; low = lit≤ tt; high = lit≤ tt; fits = lit≤ tt };
  low_bits = lit≤ tt;
  high_bits = lit≤ tt;
  partition_most = lit≤ tt;
  mode_most = lit< tt;
  at_most = lit< tt;
}

pub placed_2 : Placed 2 3 6 5 0 0 99 2
unfolding before unpacked modes mode_at run_bits run_in partition_in rotation_in
placed_2 = record {
  regions_are = refl;
  partition_is = λ n. refl;
  ends_at = refl;
  colour_is = refl;
  alpha_is = refl;
  p_each = refl;
  first_is = refl;
  run_is = λ n. refl;
  one_set = refl;
  no_turn = λ n. sym (mod-one _);
  colour_wide = record { p_bit = lit≤ tt; low = lit≤ tt; high = lit≤ tt; fits = lit≤ tt };
  alpha_wide = record { p_bit = lit≤ tt; low = lit≤ tt; high = lit≤ tt; fits = lit≤ tt };
  low_bits = lit≤ tt;
  high_bits = lit≤ tt;
  partition_most = lit≤ tt;
  mode_most = lit< tt;
  at_most = lit< tt;
}

pub placed_3 : Placed 3 2 6 7 0 1 98 2
unfolding before unpacked modes mode_at run_bits run_in partition_in rotation_in
placed_3 = record {
  regions_are = refl;
  partition_is = λ n. refl;
  ends_at = refl;
  colour_is = refl;
  alpha_is = refl;
  p_each = refl;
  first_is = refl;
  run_is = λ n. refl;
  one_set = refl;
  no_turn = λ n. sym (mod-one _);
  colour_wide = record { p_bit = lit≤ tt; low = lit≤ tt; high = lit≤ tt; fits = lit≤ tt };
  alpha_wide = record { p_bit = lit≤ tt; low = lit≤ tt; high = lit≤ tt; fits = lit≤ tt };
  low_bits = lit≤ tt;
  high_bits = lit≤ tt;
  partition_most = lit≤ tt;
  mode_most = lit< tt;
  at_most = lit< tt;
}

pub placed_7 : Placed 7 2 6 5 5 1 98 2
unfolding before unpacked modes mode_at run_bits run_in partition_in rotation_in
placed_7 = record {
  regions_are = refl;
  partition_is = λ n. refl;
  ends_at = refl;
  colour_is = refl;
  alpha_is = refl;
  p_each = refl;
  first_is = refl;
  run_is = λ n. refl;
  one_set = refl;
  no_turn = λ n. sym (mod-one _);
  colour_wide = record { p_bit = lit≤ tt; low = lit≤ tt; high = lit≤ tt; fits = lit≤ tt };
  alpha_wide = record { p_bit = lit≤ tt; low = lit≤ tt; high = lit≤ tt; fits = lit≤ tt };
  low_bits = lit≤ tt;
  high_bits = lit≤ tt;
  partition_most = lit≤ tt;
  mode_most = lit< tt;
  at_most = lit< tt;
}

pub bits_0 : (n : ℕ) {p : ℕ} → p ≡ n / 2 ^ 77 % 2 ^ 6 → PBits 0 3 1 n p
unfolding before unpacked modes mode_at run_bits run_in pbit_in
bits_0 n e = record { is = λ k h d. ap (λ (x : ℕ). bit x k) e }

pub bits_3 : (n : ℕ) {p : ℕ} → p ≡ n / 2 ^ 94 % 2 ^ 4 → PBits 3 2 1 n p
unfolding before unpacked modes mode_at run_bits run_in pbit_in
bits_3 n e = record { is = λ k h d. ap (λ (x : ℕ). bit x k) e }

pub bits_7 : (n : ℕ) {p : ℕ} → p ≡ n / 2 ^ 94 % 2 ^ 4 → PBits 7 2 1 n p
unfolding before unpacked modes mode_at run_bits run_in pbit_in
bits_7 n e = record { is = λ k h d. ap (λ (x : ℕ). bit x k) e }

pub bits_1 : (n : ℕ) {first second p : ℕ} → BothSides first second p → first ≡ n / 2 ^ 80 % 2 ^ 1 → second ≡ n / 2 ^ 81 % 2 ^ 1 → PBits 1 2 1 n p
unfolding before unpacked modes mode_at run_bits run_in pbit_in
bits_1 n {first} {second} sides a b = record { is = λ k h d. sides.is k h ∙ ap (λ (x : ℕ). bit x (k / 2)) (joined n 80 first second a b) }
