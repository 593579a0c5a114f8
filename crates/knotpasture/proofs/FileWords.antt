-- The exports over DDS files, Portable Float Maps and OpenEXR files: each says of its word what the call says of its answer; one outcome for each. Assumes nothing.
use mathlib.Core.Path.{◌≡◌, refl, sym, ap, ◌∙◌}
use mathlib.Core.List.{List}
use Prim.Native.Nat.{ℕ, zero, suc}
use Rattle.bcn_spec.specs.Answers.{done}
use Rattle.dds.specs.declared.DdsRead.{DdsRead}
use Rattle.dds.specs.declared.DdsWritten.{DdsWritten}
use Rattle.dds.specs.Dds.{header_size, HeadRead, FileRead, SizedReadAs, sized_refusal_as, read_as, FileWritten}
use Rattle.dds.proofs.Reading.{read_number}
use Rattle.pfm.specs.declared.PfmWritten.{PfmWritten}
use Rattle.pfm.specs.File.{PictureWritten}
use Rattle.exr.specs.declared.ExrWritten.{ExrWritten}
use Rattle.exr.specs.File as exr
use Rattle.knotpasture.specs.Files.{read_word, HeadCalled, ReadCalled, start_at, BlocksCalled, dds_word, DdsWriteCalled, pfm_word, PfmWriteCalled, exr_word, ExrWriteCalled}

-- ---- DDS files

pub head_called : {file : List ℕ} {r : DdsRead} {word : ℕ} → HeadRead file r → word ≡ read_word r → HeadCalled file word
head_called d e = record { answers = e ∙ ap read_word d.answers }

pub read_called : {file : List ℕ} {r : DdsRead} {word : ℕ} → FileRead file r → word ≡ read_word r → ReadCalled file word
read_called d e = record { answers = e ∙ ap read_word d.answers }

pub start_none : (number : ℕ) → (number ≡ done → ⊥) → 0 ≡ start_at number
start_none zero n = absurd (n refl)
start_none (suc number) n = refl

pub start_some : (number : ℕ) → number ≡ done → header_size ≡ start_at number
start_some number z = rw z

pub blocks_called : {file : List ℕ} {r : DdsRead} {start : ℕ} → FileRead file r → start ≡ start_at r.answer → BlocksCalled file start
blocks_called d e = record { answers = e ∙ ap start_at (read_number d) }

-- ---- of BC7 and with mip levels

pub word_called : {first most : ℕ} {bytes_of : List ℕ → ℕ} {file : List ℕ} {size : ℕ} {r : DdsRead} {word : ℕ} → SizedReadAs first most bytes_of file size r → word ≡ read_word r
    → word ≡ read_word (read_as first (sized_refusal_as first most bytes_of file size) file)
word_called d e = e ∙ ap read_word d.answers

pub start_called : {first most : ℕ} {bytes_of : List ℕ → ℕ} {file : List ℕ} {size : ℕ} {r : DdsRead} {start : ℕ} → SizedReadAs first most bytes_of file size r
    → start ≡ start_at r.answer → start ≡ start_at (sized_refusal_as first most bytes_of file size)
start_called d e = e ∙ ap start_at (read_number d)

pub dds_written : {blocks : List ℕ} {format width height : ℕ} {out after : List ℕ} {r : DdsWritten} {word : ℕ} → FileWritten blocks format width height out r after
    → word ≡ dds_word r → DdsWriteCalled blocks format width height out word after
dds_written d e = record { answers = e ∙ ap dds_word d.answers; holds = d.holds }

pub one_head : {file : List ℕ} {r s : ℕ} → HeadCalled file r → HeadCalled file s → r ≡ s
one_head d e = d.answers ∙ sym e.answers

pub one_reading : {file : List ℕ} {r s : ℕ} → ReadCalled file r → ReadCalled file s → r ≡ s
one_reading d e = d.answers ∙ sym e.answers

pub one_start : {file : List ℕ} {r s : ℕ} → BlocksCalled file r → BlocksCalled file s → r ≡ s
one_start d e = d.answers ∙ sym e.answers

pub one_dds : {blocks : List ℕ} {format width height : ℕ} {out a b : List ℕ} {r s : ℕ} → DdsWriteCalled blocks format width height out r a
    → DdsWriteCalled blocks format width height out s b → (r ≡ s) × (a ≡ b)
one_dds d e = (d.answers ∙ sym e.answers, d.holds ∙ sym e.holds)

-- ---- Portable Float Maps

pub pfm_written : {blocks : List ℕ} {format width height : ℕ} {out after : List ℕ} {r : PfmWritten} {word : ℕ} → PictureWritten blocks format width height out r after
    → word ≡ pfm_word r → PfmWriteCalled blocks format width height out word after
pfm_written d e = record { answers = e ∙ ap pfm_word d.answers; holds = d.holds }

pub one_pfm : {blocks : List ℕ} {format width height : ℕ} {out a b : List ℕ} {r s : ℕ} → PfmWriteCalled blocks format width height out r a
    → PfmWriteCalled blocks format width height out s b → (r ≡ s) × (a ≡ b)
one_pfm d e = (d.answers ∙ sym e.answers, d.holds ∙ sym e.holds)

-- ---- OpenEXR files

pub exr_written : {blocks : List ℕ} {format width height : ℕ} {out after : List ℕ} {r : ExrWritten} {word : ℕ} → exr.PictureWritten blocks format width height out r after
    → word ≡ exr_word r → ExrWriteCalled blocks format width height out word after
exr_written d e = record { answers = e ∙ ap exr_word d.answers; holds = d.holds }

pub one_exr : {blocks : List ℕ} {format width height : ℕ} {out a b : List ℕ} {r s : ℕ} → ExrWriteCalled blocks format width height out r a
    → ExrWriteCalled blocks format width height out s b → (r ≡ s) × (a ≡ b)
one_exr d e = (d.answers ∙ sym e.answers, d.holds ∙ sym e.holds)
