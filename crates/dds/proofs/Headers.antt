-- The tests of a header and of a size hold exactly where the document's words do; what a size in range makes of the bytes of its blocks.
-- Assumes nothing.
use mathlib.Core.Path.{◌≡◌, refl}
use mathlib.Core.Bool.{Bool, true, false}
use mathlib.Core.List.{List}
use mathlib.Core.Logic.{◌⊎◌, inl, inr, ⊎_elim}
use Prim.Native.Nat.{ℕ, ◌+◌, ◌*◌, ◌/◌, ◌≤◌, ◌<◌}
use native.Mathlib.Nat.{mul-le-mul, mul-pos}
use native.Mathlib.Omega.{arith}
use lib.Dec.{eqb, leb}
use lib.ListN.{length}
use borrow.Author.Tests.{le-leb, lt-leb, eq-eqb, leb-true, eqb-true}
use Rattle.laws.specs.Pick.{both, either}
use Rattle.laws.specs.Bit.{bit}
use Rattle.laws.proofs.Tests.{both_true}
use Rattle.bcn_spec.specs.Bits.{size_limit}
use Rattle.dds.specs.Dds.{header_size, word_at, magic, code, dxgi_of, HeaderTaken, start_ours, pixels_ours, texture_ours, fields_ours, header_taken, SizeOurs, size_ours, block_bytes}

-- ---- headers

one_of : (a b : Bool) → either a b ≡ true → (a ≡ true) ⊎ (b ≡ true)
one_of true b e = inl refl
one_of false b e = inr e

either_second : (a b : Bool) → b ≡ true → either a b ≡ true
either_second true b e = refl
either_second false b e = e

known_so : (first dxgi : ℕ) → (dxgi ≡ first) ⊎ (dxgi ≡ first + 1) → either (eqb dxgi first) (eqb dxgi (first + 1)) ≡ true
known_so first dxgi = ⊎_elim (λ e. rw (eq-eqb _ _ e)) (λ e. either_second (eqb dxgi first) (eqb dxgi (first + 1)) (eq-eqb _ _ e))

module _ (first most : ℕ) (file : List ℕ) where
  -- S-61: the tests decide whether a header is ours
  pub ours_so : HeaderTaken first most file → header_taken first most file ≡ true
  unfolding header_taken fields_ours start_ours pixels_ours texture_ours
  ours_so h =
      rw
      (le-leb _ _ h.long, h.stands, h.size, le-leb _ _ h.levels, h.format_size, h.format_flag, h.format_code, known_so first (dxgi_of file) h.dxgi, h.dimension, h.no_cube, h.single)

  pub ours_means : header_taken first most file ≡ true → HeaderTaken first most file
  unfolding header_taken fields_ours start_ours pixels_ours texture_ours
  ours_means t =
      let whole = both_true (leb header_size (length file)) (fields_ours first most file) t in
      let fields = both_true (start_ours most file) (both (pixels_ours file) (texture_ours first file)) whole.1 in
      let others = both_true (pixels_ours file) (texture_ours first file) fields.1 in
      let magic = both_true (eqb (word_at file 0) magic) _ fields.0 in
      let size = both_true (eqb (word_at file 4) 124) (leb (word_at file 28) most) magic.1 in
      let format_size = both_true (eqb (word_at file 76) 32) _ others.0 in
      let flag = both_true (eqb (bit (word_at file 80) 2) 1) (eqb (word_at file 84) code) format_size.1 in
      let known = both_true (either (eqb (dxgi_of file) first) (eqb (dxgi_of file) (first + 1))) _ others.1 in
      let dimension = both_true (eqb (word_at file 132) 3) _ known.1 in
      let last = both_true (eqb (bit (word_at file 136) 2) 0) (eqb (word_at file 140) 1) dimension.1 in
      record {
        long = leb-true _ _ whole.0;
        stands = eqb-true _ _ magic.0;
        size = eqb-true _ _ size.0;
        levels = leb-true _ _ size.1;
        format_size = eqb-true _ _ format_size.0;
        format_flag = eqb-true _ _ flag.0;
        format_code = eqb-true _ _ flag.1;
        dxgi = ⊎_elim (λ x. inl (eqb-true _ _ x)) (λ x. inr (eqb-true _ _ x)) (one_of (eqb (dxgi_of file) first) (eqb (dxgi_of file) (first + 1)) known.0);
        dimension = eqb-true _ _ dimension.0;
        no_cube = eqb-true _ _ last.0;
        single = eqb-true _ _ last.1;
      }

  pub ours_dxgi : HeaderTaken first most file → (first ≤ dxgi_of file) × (dxgi_of file ≤ first + 1)
  ours_dxgi h = ⊎_elim (λ e. (omega arith, omega arith)) (λ e. (omega arith, omega arith)) h.dxgi

  -- what the code's two returns show
  pub ours_short : length file < header_size → false ≡ header_taken first most file
  unfolding header_taken
  ours_short h = rw (lt-leb _ _ h)

  pub ours_fields : {r : Bool} → header_size ≤ length file → r ≡ fields_ours first most file → r ≡ header_taken first most file
  unfolding header_taken
  ours_fields h e = rw (le-leb _ _ h) e

-- ---- sizes

module _ (width height : ℕ) where
  pub size_so : SizeOurs width height → size_ours width height ≡ true
  unfolding size_ours
  size_so s = rw (le-leb _ _ s.wide.0, le-leb _ _ s.wide.1, le-leb _ _ s.high.0, le-leb _ _ s.high.1)

  pub size_means : size_ours width height ≡ true → SizeOurs width height
  unfolding size_ours
  size_means t =
      let a = both_true (both (leb 1 width) (leb width size_limit)) (both (leb 1 height) (leb height size_limit)) t in
      let w = both_true (leb 1 width) (leb width size_limit) a.0 in
      let h = both_true (leb 1 height) (leb height size_limit) a.1 in
      record {
        wide = (leb-true _ _ w.0, leb-true _ _ w.1);
        high = (leb-true _ _ h.0, leb-true _ _ h.1);
      }

  -- at most 16 MiB, and at least one block
  pub bytes_most : SizeOurs width height → block_bytes width height ≤ 16777216
  unfolding block_bytes
  bytes_most s =
      let m : (width + 3) / 4 * ((height + 3) / 4) ≤ 1024 * 1024 = mul-le-mul {n₂ = 1024} {m₂ = 1024} (omega arith) (omega arith) in
      omega arith

  pub bytes_least : SizeOurs width height → 16 ≤ block_bytes width height
  unfolding block_bytes
  bytes_least s =
      let m : 0 < (width + 3) / 4 * ((height + 3) / 4) = mul-pos (omega arith) (omega arith) in
      omega arith
