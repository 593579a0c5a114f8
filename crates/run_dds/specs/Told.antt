-- S-74, S-96: what the program writes of a file. Assumes nothing.
use Rattle.std.specs.Prelude.{List, [], ◌∷◌, ℕ, zero, suc, ◌+◌, ◌/◌, ◌%◌, eqb}
use Rattle.laws.specs.Pick.{pick}
use Rattle.bcn_spec.specs.Answers.{done, foreign_header}
use Rattle.dds.specs.declared.DdsRead.{DdsRead}
use Rattle.dds.specs.Dds.{bc6h_first, bc7_first, level_limit, one_bytes, all_bytes, sized_refusal_as, read_as}

-- S-74: the number, the format, and the width and the height, two bytes each, low byte first
abbrev pub report_of : DdsRead → List ℕ
report_of r = r.answer ∷ r.format ∷ r.width % 256 ∷ r.width / 256 ∷ r.height % 256 ∷ r.height / 256 ∷ []

-- S-96: BC7's formats are 2 and 3; a refusal is told as it is
abbrev pub bc7_at : ℕ → DdsRead → DdsRead
bc7_at zero r = record { answer = done; width = r.width; height = r.height; format = r.format + 2 }
bc7_at (suc n) r = r

-- S-96: of a file that is read as BC6H and as BC7, the answer as BC6H, and where that header is not ours the answer as BC7
abbrev pub told_of : DdsRead → DdsRead → DdsRead
told_of bc6h bc7 = pick (eqb bc6h.answer foreign_header) (bc7_at bc7.answer bc7) bc6h

-- S-96: of a file of `size` bytes that begins with `head`, with at most so many levels
abbrev pub told_as : ℕ → (List ℕ → ℕ) → List ℕ → ℕ → DdsRead
told_as most bytes_of head size =
    told_of (read_as bc6h_first (sized_refusal_as bc6h_first most bytes_of head size) head) (read_as bc7_first (sized_refusal_as bc7_first most bytes_of head size) head)

-- S-96: without a word, one level; with --first-level, the first of at most 13
abbrev pub one_told : List ℕ → ℕ → DdsRead
one_told = told_as 1 one_bytes

abbrev pub first_told : List ℕ → ℕ → DdsRead
first_told = told_as level_limit all_bytes
