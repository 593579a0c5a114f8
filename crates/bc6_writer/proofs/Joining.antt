-- The block's two words, and its bytes. Assumes nothing.
use mathlib.Core.Path.{◌≡◌, ◌∙◌, refl, sym, ap, ap₂, subst}
use mathlib.Core.List.{List, [], ◌∷◌, ◌++◌}
use Prim.Native.Nat.{ℕ, zero, suc, ◌+◌, ◌-◌, ◌*◌, ◌/◌, ◌%◌, ◌^◌, ◌≤◌, ◌<◌}
use native.Mathlib.Nat.{mul_assoc, mul_comm, add-mul-div_left, add-mul-mod_self_left}
use native.Mathlib.Omega.{arith}
use lib.Arith.{digits_lt}
use lib.Dec.{lit<, lit≤}
use Rattle.std.specs.Int.{w64, to_le_bytes}
use lib.Pow.{pow-add, pow_pos, shr-shr, shl_exact, shr_lt}
use Rattle.laws.specs.Made.{made}
use Rattle.laws.specs.Packed.{before, packed}
use Rattle.laws.proofs.Rows.{made_front, made-cong}
use Rattle.laws.specs.Bit.{low_bytes}
use Rattle.bc6h_spec.specs.declared.Fields.{Fields}
use Rattle.bc6h_spec.specs.Layout.{row, table_bits}
use Rattle.bc6h_spec.specs.Fields.{index_of, Valid}
use Rattle.bc6h_spec.specs.Writer.{scattered, at_place, number_from}
use Rattle.bc6h_spec.proofs.Once.{row_once}
use Rattle.bc6h_spec.proofs.Gather.{scattered_lt}
use Rattle.bc6h_spec.proofs.Undo.{bits_128}
use Rattle.bc6_fields.specs.Places.{entry}
use Rattle.bc6_writer.specs.Parts.{stored_size, number_byte}
use Rattle.bc6_writer.proofs.Scattering.{bits_range, of_record}
use Rattle.bc6_writer.proofs.Packing.{whole_lt}

-- ---- the words

upper : (lo hi : ℕ) → lo < 2 ^ 64 → (lo + 2 ^ 64 * hi) / 2 ^ 64 ≡ hi
upper lo hi h = omega arith

module _ (f : Fields) (v : Valid f) {places : List ℕ} (ep : places ≡ made (at_place f) 14) (lo hi bits t : ℕ)
    (en : lo + 2 ^ 64 * hi ≡ scattered (row f.mode) (entry places)) (eb : bits ≡ packed (stored_size f) (index_of f) 16)
    (et : t ≡ table_bits f.mode) where
  abbrev above : ℕ
  above = t - 64

  split : t ≡ above + 64
  split = let b = (bits_range f.mode).0 in omega arith

  words_are : lo + 2 ^ 64 * hi ≡ scattered (row f.mode) (at_place f)
  words_are = en ∙ of_record f.mode v.mode_first v.mode_last f ep

  low_lt : lo + 2 ^ 64 * hi < 2 ^ (above + 64)
  low_lt =
      subst (λ (x : ℕ). lo + 2 ^ 64 * hi < 2 ^ x) (sym (sym split ∙ et))
      (subst (λ (x : ℕ). x < 2 ^ table_bits f.mode) (sym words_are)
      (subst (λ (x : ℕ). scattered (row f.mode) (at_place f) < 2 ^ x) (row_once f.mode v.mode_first v.mode_last).size (scattered_lt (row f.mode) (at_place f))))

  pub above_lt : above < 64
  above_lt = let b = (bits_range f.mode).1 in omega arith

  hi_lt : lo < 2 ^ 64 → hi < 2 ^ above
  hi_lt h = subst (λ (x : ℕ). x < 2 ^ above) (upper lo hi h) (shr_lt above 64 low_lt)

  bits_lt : bits < 2 ^ before (stored_size f) 16
  bits_lt = subst (λ (x : ℕ). x < 2 ^ before (stored_size f) 16) (sym eb) (whole_lt f v)

  fill : before (stored_size f) 16 + above ≡ 64
  fill =
      let a : before (stored_size f) 16 + table_bits f.mode ≡ 128 = bits_128 f.mode f.partition v.partition_fits in
      omega (arith, split)

  moved : bits * 2 ^ above % 2 ^ 64 ≡ bits * 2 ^ above
  moved = shl_exact (before (stored_size f) 16) above 64 bits_lt (omega (arith, fill))

  pub word_fits : lo < 2 ^ 64 → bits * 2 ^ above % 2 ^ 64 + hi < 2 ^ 64
  word_fits h =
      subst (λ (x : ℕ). x + hi < 2 ^ 64) (sym moved)
      (subst (λ (x : ℕ). bits * 2 ^ above + hi < x) (sym (pow-add 2 (before (stored_size f) 16) above) ∙ ap (λ (x : ℕ). 2 ^ x) fill) (digits_lt bits_lt (hi_lt h)))

  pub number_is : lo + 2 ^ 64 * (bits * 2 ^ above % 2 ^ 64 + hi) ≡ number_from f
  unfolding number_from
  number_is =
      let q : bits * 2 ^ table_bits f.mode ≡ 2 ^ 64 * (bits * 2 ^ above) =
      ap (λ (x : ℕ). bits * x) (ap (λ (x : ℕ). 2 ^ x) (sym et ∙ split) ∙ pow-add 2 above 64) ∙ sym (mul_assoc bits (2 ^ above) (2 ^ 64)) ∙ mul_comm (bits * 2 ^ above) (2 ^ 64) in
      rw (moved, ← eb, ← words_are) (omega (arith, q))

-- ---- the bytes

module _ (lo hi k : ℕ) where
  pub byte_low : k < 8 → lo / 2 ^ (8 * k) % 256 ≡ number_byte (lo + 2 ^ 64 * hi) k
  unfolding number_byte
  byte_low h =
      let e : 8 * k + (8 + (56 - 8 * k)) ≡ 64 = omega arith in
      let p : 2 ^ 64 ≡ 2 ^ (8 * k) * (256 * 2 ^ (56 - 8 * k)) =
      ap (λ (x : ℕ). 2 ^ x) (sym e) ∙ pow-add 2 (8 * k) (8 + (56 - 8 * k)) ∙ ap (λ (x : ℕ). 2 ^ (8 * k) * x) (pow-add 2 8 (56 - 8 * k)) in
      let q : 2 ^ 64 * hi ≡ 2 ^ (8 * k) * (256 * (2 ^ (56 - 8 * k) * hi)) =
      ap (λ (x : ℕ). x * hi) p ∙ mul_assoc (2 ^ (8 * k)) (256 * 2 ^ (56 - 8 * k)) hi ∙ ap (λ (x : ℕ). 2 ^ (8 * k) * x) (mul_assoc 256 (2 ^ (56 - 8 * k)) hi) in
      sym
      (ap (λ (x : ℕ). (lo + x) / 2 ^ (8 * k) % 256) q
      ∙ ap (λ (x : ℕ). x % 256) (add-mul-div_left lo (256 * (2 ^ (56 - 8 * k) * hi)) (pow_pos (8 * k)))
      ∙ add-mul-mod_self_left (lo / 2 ^ (8 * k)) 256 (2 ^ (56 - 8 * k) * hi))

  pub byte_high : lo < 2 ^ 64 → 8 ≤ k → hi / 2 ^ (8 * (k - 8)) % 256 ≡ number_byte (lo + 2 ^ 64 * hi) k
  unfolding number_byte
  byte_high h l =
      let e : 64 + 8 * (k - 8) ≡ 8 * k = omega arith in
      sym
      (ap (λ (x : ℕ). (lo + 2 ^ 64 * hi) / 2 ^ x % 256) (sym e)
      ∙ ap (λ (x : ℕ). x % 256) (sym (shr-shr (lo + 2 ^ 64 * hi) 64 (8 * (k - 8))))
      ∙ ap (λ (x : ℕ). x / 2 ^ (8 * (k - 8)) % 256) (upper lo hi h))

next_byte : (n k : ℕ) → number_byte n (suc k) ≡ number_byte (n / 256) k
unfolding number_byte
next_byte n k =
    let e : 8 * suc k ≡ 8 + 8 * k = omega arith in
    ap (λ (x : ℕ). n / 2 ^ x % 256) e ∙ ap (λ (x : ℕ). x % 256) (sym (shr-shr n 8 (8 * k)))

pub bytes_made : (t n : ℕ) → made (number_byte n) t ≡ low_bytes t n
unfolding made number_byte low_bytes
bytes_made zero n = refl
bytes_made (suc t) n =
    made_front (number_byte n) t
    ∙ ap₂ (λ (x : ℕ) (l : List ℕ). x ∷ l) (let e : n / 1 % 256 ≡ n % 256 = omega arith in e) (made-cong _ _ (next_byte n) t ∙ bytes_made t (n / 256))

-- the bytes of both words, one after the other
pub two_words : (lo hi : ℕ) → lo < 2 ^ 64 → to_le_bytes w64 lo ++ to_le_bytes w64 hi ≡ low_bytes 16 (lo + 2 ^ 64 * hi)
unfolding made
two_words lo hi h =
    let none : (n : ℕ) → n % 256 ≡ n / 1 % 256 = λ n. omega arith in
    (λ i.
    (none lo ∙ byte_low lo hi 0 (lit< tt)) i ∷ byte_low lo hi 1 (lit< tt) i ∷ byte_low lo hi 2 (lit< tt) i ∷ byte_low lo hi 3 (lit< tt) i
    ∷ byte_low lo hi 4 (lit< tt) i ∷ byte_low lo hi 5 (lit< tt) i ∷ byte_low lo hi 6 (lit< tt) i ∷ byte_low lo hi 7 (lit< tt) i
    ∷ (none hi ∙ byte_high lo hi 8 h (lit≤ tt)) i ∷ byte_high lo hi 9 h (lit≤ tt) i ∷ byte_high lo hi 10 h (lit≤ tt) i ∷ byte_high lo hi 11 h (lit≤ tt) i
    ∷ byte_high lo hi 12 h (lit≤ tt) i ∷ byte_high lo hi 13 h (lit≤ tt) i ∷ byte_high lo hi 14 h (lit≤ tt) i ∷ byte_high lo hi 15 h (lit≤ tt) i ∷ [])
    ∙ bytes_made 16 _
