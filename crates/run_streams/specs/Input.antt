-- S-74: what a program knows of the input that it read. Assumes nothing.
use Rattle.std.specs.Prelude.{ℕ, ◌≤◌}
use Rattle.run_streams.specs.declared.Input.{Input}
use Rattle.run_streams.specs.declared.Input.TheVariants.{Whole, Failed}

-- a whole input fits its buffer; of one whose reading failed nothing is known, and no byte of it is used
abbrev pub Fits : Input → ℕ → Type 0
Fits (Whole size) room = size ≤ room
Fits Failed room = Unit {0}
