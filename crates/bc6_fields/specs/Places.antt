-- S-10: the numbers at the places of a row. Assumes nothing.
use Rattle.std.specs.Prelude.{List, ℕ, get_or}

-- the number at a place
unfoldable pub entry : List ℕ → ℕ → ℕ
entry places place = get_or places place 0
