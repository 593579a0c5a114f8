-- S-10: what the endpoints of a block are read as: a mode's places, four numbers a channel. Assumes nothing.
use Rattle.std.specs.Prelude.{◌≡◌, Bool, List, [], ◌∷◌, ℕ, ◌+◌, ◌*◌, ◌/◌, ◌%◌, ◌^◌, eqb, leb, ltb, ℤ, pos, get_or}
use Rattle.laws.specs.Pick.{pick, both, either}
use Rattle.laws.specs.Every.{every, below}
use Rattle.laws.specs.Ranges.{Below}
use Rattle.bcn_util.specs.Runs.{Run, sum, readable, most}
use Rattle.bc6h_spec.specs.Layout.{row, precision, own_width}
use Rattle.bc6h_spec.specs.Fields.{gathered}
use Rattle.bc6_runs.specs.declared.Channels.{Channels}

-- ---- runs, as code writes them: at and size by two hexadecimal digits each, the endpoint and the shift by one

abbrev pub run_in : ℕ → Run
run_in code = record { at = code / 0x10000; size = code / 0x100 % 0x100; shift = code % 0x10 }

abbrev pub end_of : ℕ → ℕ
end_of code = code / 0x10 % 4

-- the runs of endpoint e
abbrev pub runs_of : ℕ → List ℕ → List Run
runs_of e [] = []
runs_of e (c ∷ cs) = pick (eqb (end_of c) e) (run_in c ∷ runs_of e cs) (runs_of e cs)

-- what they make of a block's number
abbrev pub sum_at : ℕ → List ℕ → ℕ → ℕ
sum_at n codes e = sum n (runs_of e codes)

-- each can be read, and sixteen bits hold what they make
abbrev pub fits : List ℕ → Bool
fits codes = both (every (λ c. readable (run_in c)) codes) (below (λ e. ltb (most (runs_of e codes)) (2 ^ 16)) 4)

-- ---- four numbers

abbrev pub four_of : (ℕ → ℕ) → List ℤ
four_of f = pos (f 0) ∷ pos (f 1) ∷ pos (f 2) ∷ pos (f 3) ∷ []

-- channel c of the endpoints, as mode m stores them in the bits n
abbrev pub places_of : ℕ → ℕ → ℕ → ℕ → ℕ
places_of m n c e = gathered (row m) n (3 * e + c)

-- its four numbers, and how many bits each has
pub record ChannelRead (mode n c : ℕ) (l : List ℤ) : Type 0 where
  pub is : l ≡ four_of (places_of mode n c)
  pub first : Below (2 ^ precision mode) (get_or l 0 (pos 0))
  pub second : Below (2 ^ own_width mode c) (get_or l 1 (pos 0))
  pub third : Below (2 ^ own_width mode c) (get_or l 2 (pos 0))
  pub fourth : Below (2 ^ own_width mode c) (get_or l 3 (pos 0))

-- the numbers of three tables of runs, one a channel
pub record ByTables (reds greens blues : List ℕ) (n : ℕ) (r : Channels) : Type 0 where
  pub red : r.red ≡ four_of (sum_at n reds)
  pub green : r.green ≡ four_of (sum_at n greens)
  pub blue : r.blue ≡ four_of (sum_at n blues)

pub record ChannelsRead (mode n : ℕ) (r : Channels) : Type 0 where
  pub red : ChannelRead mode n 0 r.red
  pub green : ChannelRead mode n 1 r.green
  pub blue : ChannelRead mode n 2 r.blue

-- ---- one region: ten bits a number, and those above the tenth of the first endpoint

-- how many a mode has above the tenth, and which mode has so many
abbrev pub is_extra : ℕ → Bool
is_extra extra = either (leb extra 2) (eqb extra 6)

abbrev pub mode_by : ℕ → ℕ
mode_by extra = pick (eqb extra 6) 14 (11 + extra)

-- two numbers of a channel
abbrev pub two_of : ℕ → ℕ → List ℤ
two_of w x = pos w ∷ pos x ∷ pos 0 ∷ pos 0 ∷ []
