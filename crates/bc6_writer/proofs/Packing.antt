-- The indices, pixel by pixel, each behind those before it. Assumes nothing.
use mathlib.Core.Path.{◌≡◌, ◌∙◌, refl, sym, ap, subst}
use Prim.Native.Nat.{ℕ, suc, ◌+◌, ◌*◌, ◌%◌, ◌^◌, ◌≤◌, ◌<◌}
use native.Mathlib.Nat.{lt_of_lt_of_le}
use native.Mathlib.Numerals.{add-one}
use native.Mathlib.Omega.{arith}
use lib.Dec.{lit≤}
use lib.Pow.{pow_mono, shl_exact}
use Rattle.laws.specs.Packed.{before, packed}
use Rattle.laws.proofs.Packing.{packed_lt}
use Rattle.laws.proofs.Opening.{before_mono}
use Rattle.bc6h_spec.specs.declared.Fields.{Fields}
use Rattle.bc6h_spec.specs.Layout.{table_bits}
use Rattle.bc6h_spec.specs.Fields.{index_of, Valid}
use Rattle.bc6h_spec.proofs.Undo.{bits_128, index_small}
use Rattle.bc6_valid.specs.Sizes.{second_fixup, index_size}
use Rattle.bc6_writer.specs.Parts.{stored_size}
use Rattle.bc6_valid.proofs.Sizes.{stored_size_lem}
use Rattle.bc6_writer.proofs.Scattering.{bits_range}

-- k pixels are packed
pub record So (f : Fields) (bits at k : ℕ) : Type 0 where
  pub sum : bits ≡ packed (stored_size f) (index_of f) k
  pub place : at ≡ before (stored_size f) k

module _ (f : Fields) (v : Valid f) where
  abbrev size : ℕ → ℕ
  size = stored_size f

  -- all of them take at most 63 bits
  room : (k : ℕ) → k ≤ 16 → before size k ≤ 63
  room k h =
      let b = (bits_range f.mode).0 in
      let a : before size 16 + table_bits f.mode ≡ 128 = bits_128 f.mode f.partition v.partition_fits in
      let i : before size k ≤ before size 16 = before_mono size k 16 h in
      omega arith

  next_place : (k : ℕ) → before size k + size k ≡ before size (suc k)
  unfolding before
  next_place k = refl

  pub whole_lt : packed size (index_of f) 16 < 2 ^ before size 16
  whole_lt = packed_lt size (index_of f) (index_small f v) 16

  pub so_first : So f 0 0 0
  unfolding packed before
  so_first = record { sum = refl; place = refl }

  module _ {bits at k : ℕ} (s : So f bits at k) (h : k < 16) where
    end : before size (suc k) ≤ 63
    end = room (suc k) (omega arith)

    pub so_at : at < 64
    so_at = let r : before size k ≤ 63 = room k (omega arith) in omega (arith, s.place)

    moved : index_of f k * 2 ^ at % 2 ^ 64 ≡ index_of f k * 2 ^ before size k
    moved =
        ap (λ (x : ℕ). index_of f k * 2 ^ x % 2 ^ 64) s.place
        ∙ shl_exact (size k) (before size k) 64 (index_small f v k) (omega (arith, next_place k, end))

    pub so_sum : index_of f k * 2 ^ at % 2 ^ 64 + bits ≡ packed size (index_of f) (k + 1)
    unfolding packed
    so_sum = rw (add-one k, moved, s.sum) refl

    pub so_fits : index_of f k * 2 ^ at % 2 ^ 64 + bits < 2 ^ 64
    so_fits =
        lt_of_lt_of_le (subst (λ (x : ℕ). x < 2 ^ before size (suc k)) (sym (so_sum ∙ ap (packed size (index_of f)) (add-one k))) (packed_lt size (index_of f) (index_small f v) (suc k)))
        (pow_mono (let q : before size (suc k) ≤ 64 = omega (arith, end) in q))

    module _ {fixup w : ℕ} (ef : fixup ≡ second_fixup f.mode f.partition) (ew : w ≡ index_size f.mode fixup k) where
      width_is : w ≡ size k
      width_is = ew ∙ ap (λ (x : ℕ). index_size f.mode x k) ef ∙ sym (stored_size_lem f.mode f.partition k)

      pub so_place : at + w < 2 ^ 64
      so_place = lt_of_lt_of_le (let q : at + w < 64 = omega (arith, s.place, width_is, next_place k, end) in q) (lit≤ tt)

      pub so_next : So f (index_of f k * 2 ^ at % 2 ^ 64 + bits) (at + w) (k + 1)
      so_next = record { sum = so_sum; place = rw (add-one k) (omega (arith, s.place, width_is, next_place k)) }

  pub so_done : {bits at k : ℕ} → So f bits at k → k ≤ 16 → 16 ≤ k → bits ≡ packed size (index_of f) 16
  so_done {bits} {at} {k} s h l = let e : k ≡ 16 = omega arith in s.sum ∙ ap (packed size (index_of f)) e
