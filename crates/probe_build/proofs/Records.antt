-- The bytes of a record. Assumes nothing.
use Rattle.std.proofs.Common.{◌≡◌, ℕ, zero, suc, ◌+◌, ◌-◌, ◌*◌, ◌/◌, ◌%◌, ◌<◌, ◌≤◌, List, [], ◌∷◌, ◌++◌, length, get_or, take, drop, sym, refl, ap, ◌∙◌, ap₂, arith, length-append, length-drop, append_assoc, get_or-append-add}
use lib.ListN.{get_or-append}
use borrow.Rule.Slice.PartMut.{put_mid}
use lib.Seq.{take_at, drop_at, drop-drop}
use Rattle.std.specs.List.{between}
use Rattle.std.proofs.lemmas.List.{get_or-drop}
use Rattle.laws.proofs.Rows.{length_made, get_d_made, made-cong}
use Rattle.laws.proofs.Taken.{made_taken}
use Rattle.bcn_spec.specs.Bits.{block_size}
use Rattle.probe_places.specs.declared.Place.{Place}
use Rattle.probe_places.specs.Places.{place_size}
use Rattle.probe_build.specs.Building.{record_head, block_byte, bytes_of_block, record_with}

abbrev zeros : List ℕ
zeros = 0 ∷ 0 ∷ 0 ∷ 0 ∷ 0 ∷ 0 ∷ []

zeros_are : (i : ℕ) → get_or zeros i 0 ≡ 0
zeros_are zero = refl
zeros_are (suc zero) = refl
zeros_are (suc (suc zero)) = refl
zeros_are (suc (suc (suc zero))) = refl
zeros_are (suc (suc (suc (suc zero)))) = refl
zeros_are (suc (suc (suc (suc (suc zero))))) = refl
zeros_are (suc (suc (suc (suc (suc (suc i)))))) = refl

module _ (tile format : ℕ) (p : Place) where
  pub head_length : length (record_head tile format p) ≡ 16
  unfolding record_head
  head_length = refl

  abbrev front : List ℕ
  front =
      tile % 0x100 ∷ tile / 0x100 % 0x100 ∷ tile / 0x10000 % 0x100 ∷ tile / 0x1000000 % 0x100 ∷ format ∷ p.face ∷
      p.column % 0x100 ∷ p.column / 0x100 % 0x100 ∷ p.row % 0x100 ∷ p.row / 0x100 % 0x100 ∷ []

  pub head_zero : (k : ℕ) → 10 ≤ k → 0 ≡ get_or (record_head tile format p) k 0
  unfolding record_head
  head_zero k h =
      let e : 10 + (k - 10) ≡ k = omega arith in
      sym (ap (λ (i : ℕ). get_or (front ++ zeros) i 0) (sym e) ∙ get_or-append-add front zeros (k - 10) 0 ∙ zeros_are (k - 10))

module _ (blocks : List ℕ) (n tile format : ℕ) (p : Place) where
  pub record_length : length (record_with blocks n tile format p) ≡ place_size
  unfolding record_with
  record_length =
      length-append (record_head tile format p) (bytes_of_block blocks n)
      ∙ ap₂ (λ (a b : ℕ). a + b) (head_length tile format p) (length_made (block_byte blocks n) block_size)

  pub record_head_lem : (k : ℕ) → k < 16 → get_or (record_head tile format p) k 0 ≡ get_or (record_with blocks n tile format p) k 0
  unfolding record_with
  record_head_lem k h = sym (get_or-append (record_head tile format p) (bytes_of_block blocks n) 0 k (rw (head_length tile format p) h))

  pub record_block : (k : ℕ) → 16 ≤ k → k < place_size → get_or blocks (block_size * n + (k - 16)) 0 ≡ get_or (record_with blocks n tile format p) k 0
  unfolding record_with block_byte
  record_block k h l =
      let e : 16 + (k - 16) ≡ k = omega arith in
      sym
      (ap (λ (i : ℕ). get_or (record_head tile format p ++ bytes_of_block blocks n) i 0)
      (sym e ∙ ap (λ (x : ℕ). x + (k - 16)) (sym (head_length tile format p)))
      ∙ get_or-append-add (record_head tile format p) (bytes_of_block blocks n) (k - 16) 0
      ∙ get_d_made (block_byte blocks n) block_size (k - 16) 0 (omega arith))

  block_copied : (part : List ℕ) → block_size * n + block_size ≤ length blocks → part ≡ between (block_size * n) (block_size * n + block_size) blocks
      → part ≡ bytes_of_block blocks n
  unfolding block_byte
  block_copied part h e =
      let size : block_size * n + block_size - block_size * n ≡ block_size = omega arith in
      let long : block_size ≤ length (drop (block_size * n) blocks) = simp length-drop (omega arith) in
      e
      ∙ ap (λ (i : ℕ). take i (drop (block_size * n) blocks)) size
      ∙ sym (made_taken (drop (block_size * n) blocks) block_size long)
      ∙ made-cong (λ k. get_or (drop (block_size * n) blocks) k 0) (λ k. get_or blocks (block_size * n + k) 0) (λ k. get_or-drop (block_size * n) blocks k 0) block_size

  -- the head is copied, and then the block
  pub record_written : (lent head part : List ℕ) → head ≡ record_head tile format p → block_size * n + block_size ≤ length blocks
      → part ≡ between (block_size * n) (block_size * n + block_size) blocks
      → put_mid 16 (place_size - 16) (head ++ drop 16 lent) part ≡ record_with blocks n tile format p ++ drop place_size lent
  unfolding record_with
  record_written lent head part h room e =
      let long : length head ≡ 16 = ap length h ∙ head_length tile format p in
      ap (λ (t : List ℕ). t ++ (part ++ drop 16 (drop 16 (head ++ drop 16 lent)))) (take_at head (drop 16 lent) 16 long)
      ∙ ap (λ (t : List ℕ). head ++ (part ++ drop 16 t)) (drop_at head (drop 16 lent) 16 long)
      ∙ ap (λ (t : List ℕ). head ++ (part ++ t)) (drop-drop 16 16 lent)
      ∙ sym (append_assoc head part (drop 32 lent))
      ∙ rw (h, block_copied part room e)
