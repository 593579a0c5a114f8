-- The endpoints of a mode, as it stores them: a table that the compiler sees is, by computing, the runs of its row, and each number has the
-- bits of its place. Assumes nothing.
use mathlib.Core.Path.{◌≡◌, ◌∙◌, sym, ap, subst}
use mathlib.Core.List.{List}
use Prim.Native.Nat.{ℕ, ◌+◌, ◌*◌, ◌^◌, ◌≤◌, ◌<◌}
use native.Mathlib.Omega.{arith}
use lib.Dec.{lit<, lit≤}
use lib.IntN.{ℤ, pos}
use lib.ListN.{get_or}
use Rattle.laws.specs.Ranges.{Below}
use Rattle.bcn_util.specs.Runs.{sum}
use Rattle.bc6h_spec.specs.declared.Fields.{Fields}
use Rattle.bc6h_spec.specs.Layout.{row, precision, own_width}
use Rattle.bc6h_spec.specs.Fields.{stored, fields_at, Valid}
use Rattle.bc6h_spec.proofs.Reading.{at_endpoint, read_valid}
use Rattle.bc6h_spec.proofs.Widths.{first_fits, other_fits}
use Rattle.bc6_runs.specs.declared.Channels.{Channels}
use Rattle.bc6_runs.specs.Ends.{four_of, places_of, ChannelRead, ChannelsRead}
use Rattle.bc6_runs.proofs.Gathering.{runs, run_law}
use Rattle.bc6_runs.proofs.Tables.{four_at, four_same}

-- ---- what a mode stores has its widths

module _ (m n : ℕ) (low : 1 ≤ m) (high : m ≤ 14) where
  abbrev f : Fields
  f = fields_at 0 m n

  valid : Valid f
  valid = read_valid 0 m n low high (lit≤ tt)

  stored_is : (e c : ℕ) → e < 4 → c < 3 → stored f e c ≡ places_of m n c e
  stored_is e c he hc = at_endpoint 0 m n low high (3 * e + c) (omega arith)

  pub first_bits : (c : ℕ) → c < 3 → places_of m n c 0 < 2 ^ precision m
  unfolding fields_at
  first_bits c h = subst (λ (x : ℕ). x < 2 ^ precision m) (stored_is 0 c (lit< tt) h) (first_fits f valid c h)

  other_bits : (e c : ℕ) → 1 ≤ e → e < 4 → c < 3 → places_of m n c e < 2 ^ own_width m c
  unfolding fields_at
  other_bits e c l h k = subst (λ (x : ℕ). x < 2 ^ own_width m c) (stored_is e c h k) (other_fits f valid e c l h k)

  channel_read : (c : ℕ) → c < 3 → {l : List ℤ} → l ≡ four_of (places_of m n c) → ChannelRead m n c l
  channel_read c h {l} is =
      record {
        is = is;
        first = small 0 (lit< tt) (first_bits c h);
        second = small 1 (lit< tt) (other_bits 1 c (lit≤ tt) (lit< tt) h);
        third = small 2 (lit< tt) (other_bits 2 c (lit≤ tt) (lit< tt) h);
        fourth = small 3 (lit< tt) (other_bits 3 c (lit≤ tt) (lit< tt) h);
      }
    where
      small : (e : ℕ) {k : ℕ} → e < 4 → places_of m n c e < k → Below k (get_or l e (pos 0))
      small e {k} he b = subst (Below k) (sym (ap (λ (l : List ℤ). get_or l e (pos 0)) is ∙ four_at (places_of m n c) e he)) (record { nonneg = tt; below = b })

  pub channels_read : {r : Channels} → r.red ≡ four_of (places_of m n 0) → r.green ≡ four_of (places_of m n 1) → r.blue ≡ four_of (places_of m n 2) → ChannelsRead m n r
  channels_read er eg eb = record { red = channel_read 0 (lit< tt) er; green = channel_read 1 (lit< tt) eg; blue = channel_read 2 (lit< tt) eb }

-- ---- read by runs

-- the numbers of channel c, by the runs of its places
abbrev pub row_sums : List ℕ → ℕ → ℕ → ℕ → ℕ
row_sums l n c e = sum n (runs l 0 (3 * e + c))

row_read : (m n c : ℕ) {r : List ℤ} → r ≡ four_of (row_sums (row m) n c) → r ≡ four_of (places_of m n c)
row_read m n c is =
    is
    ∙ four_same (row_sums (row m) n c) (places_of m n c) (run_law (row m) n (3 * 0 + c)) (run_law (row m) n (3 * 1 + c)) (run_law (row m) n (3 * 2 + c))
    (run_law (row m) n (3 * 3 + c))

-- the tables of a mode
pub runs_read : (m : ℕ) → 1 ≤ m → m ≤ 14 → {n : ℕ} {r : Channels} → r.red ≡ four_of (row_sums (row m) n 0) → r.green ≡ four_of (row_sums (row m) n 1)
    → r.blue ≡ four_of (row_sums (row m) n 2) → ChannelsRead m n r
runs_read m low high {n} {r} er eg eb = channels_read m n low high (row_read m _ 0 er) (row_read m _ 1 eg) (row_read m _ 2 eb)
