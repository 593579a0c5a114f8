-- S-87: two bytes of an answer as one word. Assumes nothing.
use Rattle.std.specs.Prelude.{ℕ, ◌+◌, ◌*◌, Result, Ok, Err}
use Rattle.bcn_spec.specs.declared.Refusal.{Refusal}

-- two bytes, the first the lowest
abbrev pub two_bytes : ℕ → ℕ → ℕ
two_bytes low high = low + high * 0x100

-- the count of what a call answers, 0 where it refuses
abbrev pub count_of : Result ℕ Refusal → ℕ
count_of (Ok count) = count
count_of (Err refusal) = 0
