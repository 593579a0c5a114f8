-- The refusals of the program in their order, and what each return of `export` shows. Assumes nothing.
use mathlib.Core.Path.{◌≡◌, refl, sym, ap, ap₂, ◌∙◌}
use mathlib.Core.Bool.{true, false}
use mathlib.Core.Logic.{⊎_elim}
use mathlib.Core.List.{List}
use Prim.Native.Nat.{ℕ, zero, suc, ◌+◌, ◌*◌, ◌/◌, ◌≤◌}
use native.Mathlib.Omega.{arith}
use lib.ListN.{length, drop}
use borrow.Author.Tests.{eq-eqb, ne_eqb, le-ltb, ltb-false}
use Rattle.laws.proofs.Tests.{cases}
use Rattle.laws.proofs.Checks.{none_met}
use Rattle.bcn_spec.specs.Answers.{done, bad_size, blocks_misfit}
use Rattle.dds.specs.declared.DdsRead.{DdsRead}
use Rattle.dds.specs.Dds.{header_size, bc6h_first, one_bytes, header_ours, size_ours, blocks_along, width_of, height_of, dds_format, head_refusal, HeadRead, FileRead, BlocksRead}
use Rattle.dds.specs.Dds as dds
use Rattle.dds.proofs.Headers.{ours_so, size_so}
use Rattle.dds.proofs.Reading.{head_foreign, head_size, head_done, head_known, head_number, head_is, sized_blocks, sized_done, read_number, read_is, read_known, part_is, part_length}
use Rattle.pfm.specs.declared.PfmWritten.{PfmWritten}
use Rattle.pfm.specs.File.{SideEven, size_writable, even_bytes, file_length, refusal_for, write_refusal, PictureWritten}
use Rattle.pfm.proofs.Calls.{size_means}
use Rattle.run_pfm.specs.Export.{size_small, export_checks, export_refusal, Exported}

-- ---- one outcome, and a refusal is silent

pub one_outcome : {file out a b : List ℕ} {r s : PfmWritten} → Exported file out r a → Exported file out s b → (r ≡ s) × (a ≡ b)
one_outcome d e = (d.answers ∙ sym e.answers, d.holds ∙ sym e.holds)

-- ---- the two ways to count blocks are one where the sides are multiples of 4

blocks_whole : {side : ℕ} → SideEven side → blocks_along side ≡ side / 4
blocks_whole e = omega (arith, e.fours)

bytes_same : (width height : ℕ) → size_writable width height ≡ true → dds.block_bytes width height ≡ even_bytes width height
unfolding even_bytes dds.block_bytes
bytes_same width height s = let e = size_means width height s in ap₂ (λ (a b : ℕ). a * b * 16) (blocks_whole e.0) (blocks_whole e.1)

-- ---- the order

module _ (file : List ℕ) (room : ℕ) where
  refused_head : (n : ℕ) → head_refusal file ≡ suc n → export_refusal file room ≡ suc n
  unfolding export_refusal
  refused_head n e =
      cases (header_ours file)
      (λ o.
      cases (size_ours (width_of file) (height_of file))
      (λ s. absurd (omega (arith, sym e ∙ head_done bc6h_first 1 file o s)))
      (λ s. rw (o, s) (sym (head_size bc6h_first 1 file o s) ∙ e)))
      (λ o. rw o (sym (head_foreign bc6h_first 1 file o) ∙ e))

  module _ (h : head_refusal file ≡ done) where
    ours : header_ours file ≡ true
    ours = ours_so bc6h_first 1 file (head_known bc6h_first 1 file h).ours

    sized : size_ours (width_of file) (height_of file) ≡ true
    sized = size_so (width_of file) (height_of file) (head_known bc6h_first 1 file h).size

    refused_large : size_small (width_of file) (height_of file) ≡ false → export_refusal file room ≡ bad_size
    unfolding export_refusal
    refused_large s = rw (ours, sized, s)

    module _ (small : size_small (width_of file) (height_of file) ≡ true) where
      refused_blocks : (length file ≡ header_size + dds.block_bytes (width_of file) (height_of file) → ⊥) → export_refusal file room ≡ blocks_misfit
      unfolding export_refusal
      refused_blocks n = rw (ours, sized, small, ne_eqb _ _ n)

      -- what is left is what the writing call refuses
      refused_last : (size : ℕ) → size ≡ dds.block_bytes (width_of file) (height_of file) → length file ≡ header_size + dds.block_bytes (width_of file) (height_of file)
          → export_refusal file room ≡ write_refusal size (dds_format file) (width_of file) (height_of file) room
      unfolding export_refusal refusal_for
      refused_last size b l =
          let f : dds_format file ≤ 1 = ⊎_elim (λ e. omega arith) (λ e. omega arith) (head_known bc6h_first 1 file h).ours.dxgi in
          cases (size_writable (width_of file) (height_of file))
          (λ s. rw (ours, sized, small, eq-eqb _ _ l, le-ltb _ _ f, s, eq-eqb _ _ (b ∙ bytes_same (width_of file) (height_of file) s)))
          (λ s. rw (ours, sized, small, eq-eqb _ _ l, le-ltb _ _ f, s))

-- ---- what is written fits

module _ (file : List ℕ) (room : ℕ) where
  room_known : export_refusal file room ≡ done → file_length (width_of file) (height_of file) ≤ room
  unfolding export_refusal
  room_known z = ltb-false _ _ (none_met (export_checks file room) tt z).1.1.1.1.0

pub length_fits : {file out after : List ℕ} {r : PfmWritten} → Exported file out r after → r.length ≤ length out
length_fits {file} {out} {after} {r} d = go (export_refusal file (length out)) refl
  where
    go : (k : ℕ) → export_refusal file (length out) ≡ k → r.length ≤ length out
    go zero z = rw (d.answers, z) (room_known file (length out) z)
    go (suc k) z = rw (d.answers, z) (omega arith)

-- ---- what each return of export shows

module _ (file out : List ℕ) where
  told : (n : ℕ) {p : PfmWritten} → export_refusal file (length out) ≡ suc n → p ≡ record { answer = suc n; length = 0 } → Exported file out p out
  told n z e = record { answers = e ∙ rw z; holds = rw z }

  module _ {head : DdsRead} (d : HeadRead file head) where
    pub told_head : {p : PfmWritten} → (head.answer ≡ done → ⊥) → p ≡ record { answer = head.answer; length = 0 } → Exported file out p out
    told_head {p} n e = go (head_refusal file) refl
      where
        go : (k : ℕ) → head_refusal file ≡ k → Exported file out p out
        go zero z = absurd (n (head_number d ∙ z))
        go (suc k) z = told k (refused_head file (length out) k z) (e ∙ ap (λ (x : ℕ). record { answer = x; length = 0 }) (head_number d ∙ z))

    module _ (z : head.answer ≡ done) where
      fine : head_refusal file ≡ done
      fine = sym (head_number d) ∙ z

      small_is : size_small head.width head.height ≡ size_small (width_of file) (height_of file)
      small_is = ap (λ (x : DdsRead). size_small x.width x.height) (head_is d z)

      pub told_large : {p : PfmWritten} → size_small head.width head.height ≡ false → p ≡ record { answer = bad_size; length = 0 } → Exported file out p out
      told_large s e = told 13 (refused_large file (length out) fine (sym small_is ∙ s)) e

      module _ (s : size_small head.width head.height ≡ true) {read : DdsRead} (f : FileRead file read) where
        small : size_small (width_of file) (height_of file) ≡ true
        small = sym small_is ∙ s

        pub told_blocks : {p : PfmWritten} → (read.answer ≡ done → ⊥) → p ≡ record { answer = read.answer; length = 0 } → Exported file out p out
        told_blocks n e =
            let wrong : length file ≡ header_size + dds.block_bytes (width_of file) (height_of file) → ⊥ = λ l. n (read_number f ∙ sized_done bc6h_first 1 file one_bytes (length file) fine l) in
            told 14 (refused_blocks file (length out) fine small wrong)
            (e ∙ ap (λ (x : ℕ). record { answer = x; length = 0 }) (read_number f ∙ sized_blocks bc6h_first 1 file one_bytes (length file) fine wrong))

        pub told-written : read.answer ≡ done → {part : List ℕ} → BlocksRead file part → {p : PfmWritten} {after : List ℕ}
            → PictureWritten part read.format read.width read.height out p after → Exported file out p after
        told-written q {part} b {p} {after} w =
            let picture : PictureWritten (drop header_size file) (dds_format file) (width_of file) (height_of file) out p after =
            rw (part_is f b q, read_is f q) at w in
            let k = read_known f q in
            let same = refused_last file (length out) fine small (length (drop header_size file)) (sym (ap length (part_is f b q)) ∙ part_length f b q) k.bytes in
            record { answers = picture.answers ∙ rw same; holds = picture.holds ∙ rw same }
