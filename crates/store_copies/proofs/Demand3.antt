-- Demand 3: two blocks of one mode, 11, 12 or 13, that show the same picture, are the same sixteen bytes. A corollary of the wider
-- theorem. Assumes nothing.
use mathlib.Core.Path.{◌≡◌, refl, sym, ◌∙◌}
use mathlib.Core.Logic.{◌⊎◌, inl, inr, ⊎_elim}
use mathlib.Core.Bool.{false, true≢false}
use mathlib.Core.List.{List}
use Prim.Native.Nat.{ℕ, zero, suc, ◌≤◌, ◌<◌}
use native.Mathlib.Omega.{arith}
use lib.Dec.{lit≤}
use borrow.Author.Tests.{lt-leb}
use Rattle.bc6h_spec.specs.Layout.{two_regions}
use Rattle.bc6h_spec.specs.Regions.{region_of}
use Rattle.bc6h_spec.specs.Fields.{mode_of, fields_of, Valid}
use Rattle.bc6h_spec.proofs.Reading.{fields_valid, fields_mode}
use Rattle.store_copies.specs.Words.{PixelAt, ChannelDiffers, Eligible, Demand3}
use Rattle.store_copies.specs.Wide.{Reaches, Differs, Spanning, Suited}
use Rattle.store_copies.proofs.Wide.{copies}

pub demand3 : Demand3
unfolding region_of
demand3 x y ex ey m d e =
    copies 0 0 x y (suited x ex) (suited y ey)
    (record {
      one_mode = m;
      one_partition = (valid x ex).partition_zero (one x ex) ∙ sym ((valid y ey).partition_zero (one y ey));
      differ = λ r k. only r (rw (lt-leb (mode_of x) 10 ex.mode_from) at k);
      one_format = refl;
    })
    e
  where
    valid : (b : List ℕ) → Eligible b → Valid (fields_of 0 b)
    valid b v = fields_valid 0 b (lit≤ tt) (omega (arith, v.mode_from))

    one : (b : List ℕ) → Eligible b → two_regions (fields_of 0 b).mode ≡ false
    one b v = lt-leb (fields_of 0 b).mode 10 (omega (arith, fields_mode 0 b, v.mode_from))

    -- the one region has every pixel, and is numbered 0
    reaches : (b : List ℕ) → Eligible b → (n : ℕ) → PixelAt b n → (r : ℕ) → r < 1 → Reaches (fields_of 0 b) r n
    reaches b v n q zero k = record { pixel = q.pixel; is_pixel = q.is_pixel; in_region = rw (one b v) refl; at_index = q.at_index }
    reaches b v n q (suc r) k = absurd (omega arith)

    spanning : (b : List ℕ) → Eligible b → Spanning false (fields_of 0 b)
    spanning b v =
        record {
          lowest = λ r k. reaches b v 0 v.lowest r (rw (one b v) at k);
          highest = λ r k. rw (one b v) (reaches b v 15 v.highest r (rw (one b v) at k));
          not_least = λ q. absurd (true≢false (sym q));
        }

    suited : (b : List ℕ) → Eligible b → Suited 0 b
    suited b v = record { known_format = lit≤ tt; bytes = v.bytes; spanning = spanning b v; mode_from = omega (arith, v.mode_from); mode_to = v.mode_to }

    differs : (b : List ℕ) → Eligible b → ChannelDiffers false b → Differs false (fields_of 0 b) 0
    differs b v q =
        record {
          channel = q.channel;
          is_channel = q.is_channel;
          all_differ = λ i j hi hj.
              let ki : i ≤ 15 = rw (one b v) at hi in
              let kj : j ≤ 15 = rw (one b v) at hj in
              q.all_differ i j (omega arith) (omega arith);
        }

    only : (r : ℕ) → r < 1 → Differs false (fields_of 0 x) r ⊎ Differs false (fields_of 0 y) r
    only zero k = ⊎_elim (λ q. inl (differs x ex q)) (λ q. inr (differs y ey q)) d
    only (suc r) k = absurd (omega arith)
