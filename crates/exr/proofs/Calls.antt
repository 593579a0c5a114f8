-- The refusals in their order, and what each return of the writing call shows. Assumes nothing.
use mathlib.Core.Path.{◌≡◌, refl, sym, ap, ap₂, ◌∙◌}
use mathlib.Core.Bool.{true, false}
use mathlib.Core.List.{List, ◌++◌}
use Prim.Native.Nat.{ℕ, zero, suc, ◌+◌, ◌-◌, ◌*◌, ◌/◌, ◌≤◌}
use native.Mathlib.Nat.{mul-le-mul, mul_assoc}
use native.Mathlib.Omega.{arith}
use lib.Dec.{eqb}
use lib.ListN.{length, take, drop, length-append}
use lib.Seq.{take_at}
use borrow.Rule.Slice.PartMut.{mid_of, put_mid}
use borrow.Author.Tests.{eqb-true, eqb-false}
use Rattle.laws.specs.Pick.{pick}
use Rattle.laws.proofs.Tests.{cases}
use Rattle.laws.proofs.Pasting.{behind_front}
use Rattle.bcn_spec.specs.Answers.{done}
use Rattle.pfm.specs.File.{size_writable}
use Rattle.pfm.proofs.Calls.{small, size_means, bytes_are, WriteKnown, write_known}
use Rattle.pfm.proofs.Lines.{sets_front}
use Rattle.text.specs.Text.{Written}
use Rattle.exr_header.specs.Header.{line_length, front_length, front_of, SizeFits}
use Rattle.exr_header.proofs.Numbers.{front_length_is}
use Rattle.exr.specs.declared.ExrWritten.{ExrWritten}
use Rattle.exr.specs.File.{lines_of, file_in, file_of, file_length, write_refusal, written_at, PictureWritten, length_of}
use Rattle.exr.specs.Bands.{bands_of}
use Rattle.exr.proofs.Whole.{lines_bands, length_lines}

-- ---- sizes

module _ (width height : ℕ) where
  -- the lines' bytes, as the code has them
  pub record Lines : Type 0 where
    pub first : 8 + 6 * width ≤ 24584
    pub all : (8 + 6 * width) * height ≤ 100696064
    pub front : front_length height ≤ 33081

  pub lines_small : size_writable width height ≡ true → Lines
  unfolding front_length
  lines_small t =
      let s = size_means width height t in
      let w : width ≤ 4096 = s.0.most in
      let h : height ≤ 4096 = s.1.most in
      let a : (8 + 6 * width) * height ≤ 24584 * 4096 = mul-le-mul {n₂ = 24584} {m₂ = 4096} (omega arith) h in
      record { first = omega arith; all = omega arith; front = omega arith }

  pub length_pick : length_of width height ≡ pick (size_writable width height) (file_length width height) 0
  unfolding length_of
  length_pick = refl

  pub length_none : size_writable width height ≡ false → 0 ≡ length_of width height
  unfolding length_of
  length_none s = rw s

  pub length_some : {front : ℕ} → size_writable width height ≡ true → front ≡ front_length height → front + (8 + 6 * width) * height ≡ length_of width height
  unfolding length_of file_length line_length
  length_some s e = rw (s, e)

  pub length_is : {size : ℕ} → size_writable width height ≡ true → size ≡ length_of width height → size ≡ file_length width height
  unfolding length_of
  length_is s e = e ∙ rw s

  -- four lines a row of blocks
  pub bytes_lines : size_writable width height ≡ true → (32 + 96 * (width / 4)) * (height / 4) ≡ line_length width * height
  unfolding line_length
  bytes_lines t =
      let k = small width height t in
      let w : 4 * (width / 4) ≡ width = k.whole_width in
      let h : 4 * (height / 4) ≡ height = k.whole_height in
      let line : 32 + 96 * (width / 4) ≡ (8 + 6 * width) * 4 = omega arith in
      ap (λ (n : ℕ). n * (height / 4)) line ∙ mul_assoc (8 + 6 * width) 4 (height / 4) ∙ ap (λ (n : ℕ). (8 + 6 * width) * n) h

-- what that makes sure of for the front and the rows of blocks
pub record Room (blocks format width height room : ℕ) : Type 0 where
  pub known : format ≤ 1
  pub sized : SizeFits width height
  pub wide : width / 4 ≤ 1024
  pub high : height / 4 ≤ 1024
  pub bytes : 16 * (width / 4 * (height / 4)) ≤ blocks
  pub fits : front_length height + (32 + 96 * (width / 4)) * (height / 4) ≤ room

pub room_for : (blocks format width height room : ℕ) → write_refusal blocks format width height room ≡ done → Room blocks format width height room
unfolding file_length
room_for blocks format width height room z =
    let w = write_known _ blocks format width height room z in
    let k = small width height w.even in
    let m = size_means width height w.even in
    record {
      known = w.known;
      sized = record { some_width = m.0.some; most_width = m.0.most; some_height = m.1.some; most_height = m.1.most };
      wide = k.wide;
      high = k.high;
      bytes = omega (arith, w.bytes ∙ sym (bytes_are width height));
      fits = omega (arith, w.fits, bytes_lines width height w.even);
    }

-- where the front ends
pub front_end : (width height : ℕ) {at : ℕ} {out after : List ℕ} → Written out 0 (front_of width height) at after → at ≡ front_length height
front_end width height w = w.next_is ∙ omega (arith, front_length_is width height)

-- ---- one outcome, and the number

pub one_outcome : {blocks : List ℕ} {format width height : ℕ} {out a b : List ℕ} {r s : ExrWritten} → PictureWritten blocks format width height out r a
    → PictureWritten blocks format width height out s b → (r ≡ s) × (a ≡ b)
one_outcome x y = (x.answers ∙ sym y.answers, x.holds ∙ sym y.holds)

written_answer : (n width height : ℕ) → (written_at n width height).answer ≡ n
written_answer zero width height = refl
written_answer (suc n) width height = refl

module _ {blocks : List ℕ} {format width height : ℕ} {out after : List ℕ} {r : ExrWritten} (w : PictureWritten blocks format width height out r after) where
  pub write_number : r.answer ≡ write_refusal (length blocks) format width height (length out)
  write_number =
      ap (λ (x : ExrWritten). x.answer) w.answers ∙ written_answer (write_refusal (length blocks) format width height (length out)) width height

  -- where it is not done, no byte is counted and none is changed
  pub silent : (r.answer ≡ done → ⊥) → (r.bytes ≡ 0) × (after ≡ out)
  silent n =
      let k = write_refusal (length blocks) format width height (length out) in
      let some : k ≡ suc (k - 1) = omega (arith, write_number) in
      (ap (λ (x : ExrWritten). x.bytes) w.answers ∙ rw some, w.holds ∙ rw some)

  module _ (z : r.answer ≡ done) where
    fine : write_refusal (length blocks) format width height (length out) ≡ done
    fine = sym write_number ∙ z

    pub done_known : WriteKnown (file_length width height) (length blocks) format width height (length out)
    done_known = write_known _ _ _ _ _ _ fine

    pub done_bytes : r.bytes ≡ file_length width height
    done_bytes = ap (λ (x : ExrWritten). x.bytes) w.answers ∙ rw fine

    pub done_holds : after ≡ file_of blocks format width height ++ drop (file_length width height) out
    done_holds = rw fine at w.holds

-- at most the front and 4,096 lines of 24,584 bytes
pub bytes_most : {blocks : List ℕ} {format width height : ℕ} {out after : List ℕ} {r : ExrWritten} → PictureWritten blocks format width height out r after
    → r.bytes ≤ 100729145
unfolding file_length line_length
bytes_most {width = width} {height} {r = r} w =
    cases (eqb r.answer done)
    (λ t.
    let z = eqb-true _ _ t in
    let m = lines_small width height (done_known w z).even in
    omega (arith, done_bytes w z, m.all, m.front))
    (λ f. let s = silent w (eqb-false _ _ f) in omega (arith, s.0))

pub length_file : (blocks : List ℕ) (format width height : ℕ) → length (file_of blocks format width height) ≡ file_length width height
unfolding file_in file_length
length_file blocks format width height =
    length-append (front_of width height) (lines_of blocks format (width / 4) width height)
    ∙ ap₂ (λ (a b : ℕ). a + b) (front_length_is width height) (length_lines blocks format (width / 4) width height)

-- what is written is that file, byte by byte: exactly the bytes that are counted
pub written_file : {blocks : List ℕ} {format width height : ℕ} {out after : List ℕ} {r : ExrWritten} → PictureWritten blocks format width height out r after
    → r.answer ≡ done → take r.bytes after ≡ file_of blocks format width height
written_file {blocks} {format} {width} {height} {out} w z =
    ap₂ take (done_bytes w z) (done_holds w z)
    ∙ take_at (file_of blocks format width height) (drop (file_length width height) out) (file_length width height) (length_file blocks format width height)

-- ---- what each return of exr_write shows

module _ (blocks : List ℕ) (format width height : ℕ) (out : List ℕ) where
  module _ {answer : ℕ} (e : answer ≡ write_refusal (length blocks) format width height (length out)) where
    pub told_refused : {r : ExrWritten} → (answer ≡ done → ⊥) → r ≡ record { answer = answer; bytes = 0 } → PictureWritten blocks format width height out r out
    told_refused n q =
        let k = write_refusal (length blocks) format width height (length out) in
        let some : k ≡ suc (k - 1) = omega arith in
        record { answers = q ∙ rw (e, some); holds = rw some }

    -- the front, and then the rows of blocks in what is behind it
    pub told_done : answer ≡ done → (with-front part : List ℕ) {at size : ℕ} → Written out 0 (front_of width height) at with-front
        → length with-front ≡ length out
        → part ≡ bands_of blocks format (width / 4) (height / 4) ++ drop ((32 + 96 * (width / 4)) * (height / 4)) (mid_of at (length with-front - at) with-front)
        → size ≡ length_of width height
        → PictureWritten blocks format width height out (record { answer = answer; bytes = size }) (put_mid at (length with-front - at) with-front part)
    unfolding file_in file_length
    told_done d m part {at} w len p i =
        let z : write_refusal (length blocks) format width height (length out) ≡ done = sym e ∙ d in
        let known = write_known _ _ _ _ _ _ z in
        let l = length_is width height known.even i in
        let k = small width height known.even in
        let h = front_of width height in
        let end : length h ≡ at = omega (arith, w.next_is) in
        let front : m ≡ h ++ drop at out = w.exit_is ∙ sets_front h out (omega (arith, known.fits, front_length_is width height)) ∙ ap (λ (x : ℕ). h ++ drop x out) end in
        let lines : bands_of blocks format (width / 4) (height / 4) ≡ lines_of blocks format (width / 4) width height =
        sym (lines_bands blocks format (width / 4) (height / 4)) ∙ ap₂ (lines_of blocks format (width / 4)) k.whole_width k.whole_height in
        let all : at + (32 + 96 * (width / 4)) * (height / 4) ≡ front_length height + line_length width * height =
        omega (arith, end, front_length_is width height, bytes_lines width height known.even) in
        record {
          answers = rw (e, z, l);
          holds = behind_front h (bands_of blocks format (width / 4) (height / 4)) out m part at ((32 + 96 * (width / 4)) * (height / 4)) end front p
              ∙ (λ i. (h ++ lines i) ++ drop (all i) out) ∙ rw z;
        }
