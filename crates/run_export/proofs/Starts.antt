-- Wishes, what fits, and what each call leaves at the start of the lent bytes. Assumes nothing.
use mathlib.Core.Path.{◌≡◌, sym, ap, ◌∙◌}
use mathlib.Core.Bool.{true}
use mathlib.Core.List.{List, ◌++◌}
use Prim.Native.Nat.{ℕ, ◌+◌, ◌-◌, ◌*◌, ◌≤◌, ◌<◌}
use native.Mathlib.Nat.{mul-le-mul}
use native.Mathlib.Omega.{arith}
use lib.Dec.{leb}
use lib.ListN.{length, take, drop, length-append}
use lib.Seq.{sets, take_at}
use borrow.Author.Tests.{leb-true, eq-eqb, ne_eqb}
use Rattle.laws.specs.Pick.{both}
use Rattle.laws.proofs.Tests.{both_true}
use Rattle.text.specs.Text.{Written}
use Rattle.dds.specs.Dds.{size_ours, blocks_along}
use Rattle.dds.proofs.Headers.{size_means}
use Rattle.pfm_header.specs.Header.{header_of, header_length, HeaderPut}
use Rattle.pfm_header.proofs.Text.{length_header}
use Rattle.pfm.specs.File.{body_of}
use Rattle.pfm.proofs.Lines.{sets_front}
use Rattle.pfm.proofs.Whole.{length_body}
use Rattle.pfm_bands.specs.Bands.{rows_in, from_bottom, RowsFit, RowsPut}
use Rattle.exr_header.specs.Header.{line_length, front_of, front_length, SizeFits}
use Rattle.exr_header.proofs.Numbers.{front_length_is}
use Rattle.exr_bands.specs.Bands.{piece_of, LinesFit, LinesPut}
use Rattle.exr_bands.proofs.Lines.{pieces_length}
use Rattle.run_export.specs.Export.{wish_ours, WishOurs, front_for, piece_for, Says}

-- ---- a wish

pub wish_means : (kind format width height : ℕ) → wish_ours kind format width height ≡ true → WishOurs kind format width height
unfolding wish_ours
wish_means kind format width height t =
    let a = both_true (both (leb kind 1) (leb format 1)) (size_ours width height) t in
    let b = both_true (leb kind 1) (leb format 1) a.0 in
    record { named = leb-true _ _ b.0; known = leb-true _ _ b.1; size = size_means width height a.1 }

module _ {kind format width height : ℕ} (w : WishOurs kind format width height) where
  pub size_fits : SizeFits width height
  size_fits = let s = w.size in record { some_width = s.wide.0; most_width = s.wide.1; some_height = s.high.0; most_height = s.high.1 }

  pub front_fits : (room : ℕ) → 196608 ≤ room → front_length height ≤ room
  unfolding front_length
  front_fits room e = omega (arith, w.size.high.1)

  pub rows_fit : (d rows blocks lines out : ℕ) → rows ≡ rows_in height d → 16 * blocks_along width ≤ blocks → 196608 ≤ lines → 196608 ≤ out
      → RowsFit format width rows blocks lines out
  rows_fit d rows blocks lines out e b l o =
      let s = w.size.wide.1 in
      let f : rows ≤ 4 = omega arith in
      let m : 12 * width * rows ≤ 49152 * 4 = mul-le-mul {n₂ = 49152} {m₂ = 4} (omega arith) f in
      record { known = w.known; most = s; four = f; whole = b; lined = omega arith; room = omega arith }

  pub lines_fit : (n rows blocks lines out : ℕ) → n < blocks_along height → rows ≡ rows_in height n → 16 * blocks_along width ≤ blocks → 196608 ≤ lines
      → 196608 ≤ out → LinesFit format width (4 * n) rows blocks lines out
  lines_fit n rows blocks lines out h e b l o =
      let s = w.size.wide.1 in
      let t = w.size.high.1 in
      let f : rows ≤ 4 = omega arith in
      let m : (8 + 6 * width) * rows ≤ 24584 * 4 = mul-le-mul {n₂ = 24584} {m₂ = 4} (omega arith) f in
      record { known = w.known; most = s; number = omega arith; four = f; whole = b; lined = omega arith; room = omega arith }

-- ---- what stands at the start

begins : (text rest : List ℕ) {after : List ℕ} {r : ℕ} → length text ≡ r → after ≡ text ++ rest → Says text after r
begins text rest {after} {r} e a =
    record {
      fits = omega (arith, ap length a ∙ length-append text rest);
      says = ap (take r) a ∙ take_at text rest r e;
    }

stored : (text out : List ℕ) {after : List ℕ} {r : ℕ} → length text ≡ r → length text ≤ length out → after ≡ sets out 0 text → Says text after r
stored text out e l a = begins text (drop (length text) out) e (a ∙ sets_front text out l)

module _ {kind : ℕ} (k : kind ≡ 0) where
  pub front_pfm : (width height : ℕ) {out after : List ℕ} {r : ℕ} → header_length width height ≤ length out
      → HeaderPut out 0 (header_length width height) (header_of width height) r after → Says (front_for kind width height) after r
  unfolding front_for
  front_pfm width height {out} l p =
      let n = length_header width height in
      rw (eq-eqb kind 0 k) (stored (header_of width height) out (omega (arith, n, p.next_is)) (omega (arith, n)) p.exit_is)

  pub piece_pfm : (format width height n : ℕ) (band out : List ℕ) {down rows : ℕ} {after : List ℕ} {r : ℕ} → down ≡ blocks_along height → rows ≡ rows_in height (down - 1 - n)
      → RowsPut band format width rows out r after → Says (piece_for kind format width height n band) after r
  unfolding piece_for
  piece_pfm format width height n band out {down} {rows} {after} {r} d e p =
      let same : rows ≡ rows_in height (from_bottom height n) = e ∙ ap (λ (x : ℕ). rows_in height (x - 1 - n)) d in
      let q : RowsPut band format width (rows_in height (from_bottom height n)) out r after = rw same at p in
      rw (eq-eqb kind 0 k)
      (begins (body_of band format (blocks_along width) width (rows_in height (from_bottom height n))) (drop (12 * width * rows_in height (from_bottom height n)) out)
      (length_body band format (blocks_along width) width (rows_in height (from_bottom height n)) ∙ sym q.count) q.holds)

module _ {kind : ℕ} (k : kind ≡ 0 → ⊥) where
  pub front_exr : (width height : ℕ) {out after : List ℕ} {r : ℕ} → front_length height ≤ length out
      → Written out 0 (front_of width height) r after → Says (front_for kind width height) after r
  unfolding front_for
  front_exr width height {out} l p =
      let n = front_length_is width height in
      rw (ne_eqb kind 0 k) (stored (front_of width height) out (omega (arith, p.next_is)) (omega (arith, n)) p.exit_is)

  pub piece_exr : (format width height n : ℕ) (band out : List ℕ) {rows : ℕ} {after : List ℕ} {r : ℕ} → rows ≡ rows_in height n
      → LinesPut band format width (4 * n) rows out r after → Says (piece_for kind format width height n band) after r
  unfolding piece_for
  piece_exr format width height n band out {rows} {after} {r} e p =
      let q : LinesPut band format width (4 * n) (rows_in height n) out r after = rw e at p in
      rw (ne_eqb kind 0 k)
      (begins (piece_of band format width (4 * n) (rows_in height n)) (drop (line_length width * rows_in height n) out) (pieces_length band format width (4 * n) (rows_in height n) ∙ sym q.count) q.holds)
