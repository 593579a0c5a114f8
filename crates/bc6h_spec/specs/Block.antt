-- S-2: what a block shows: the whole decoder. Assumes nothing.
use Rattle.std.specs.Prelude.{Bool, List, ℕ, eqb, replicate}
use Rattle.laws.specs.Pick.{pick}
use Rattle.laws.specs.Made.{count_of}
use Rattle.bc6h_spec.specs.declared.Fields.{Fields}
use Rattle.bc6h_spec.specs.Fields.{mode_of, fields_of}
use Rattle.bc6h_spec.specs.Half.{minus_infinity}
use Rattle.bc6h_spec.specs.Picture.{value_count, picture}

-- S-30: format 0 is unsigned, format 1 is signed.
abbrev pub format_number : Bool → ℕ
format_number signed = pick signed 1 0

-- S-15: the record of a block in either format
abbrev pub fields_in : Bool → List ℕ → Fields
fields_in signed block = fields_of (format_number signed) block

-- S-2, S-8: the 48 values of sixteen bytes. A reserved block has mode 0 and shows zeros.
unfoldable pub pixels_of : Bool → List ℕ → List ℕ
pixels_of signed block = pick (eqb (mode_of block) 0) (replicate value_count 0) (picture (fields_in signed block))

-- S-26: how many of the values are 0xFC00.
unfoldable pub infinities_of : Bool → List ℕ → ℕ
infinities_of signed block = count_of minus_infinity (pixels_of signed block)
