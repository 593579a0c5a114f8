-- An input with a head before its bytes, and an output within the bytes that were lent. Assumes nothing.
use mathlib.Core.Path.{◌≡◌, refl}
use mathlib.Core.List.{List, []}
use Prim.Native.Nat.{ℕ, ◌+◌, ◌-◌, ◌≤◌}
use native.Mathlib.Omega.{arith}
use lib.ListN.{length, take, drop, length-drop}
use lib.Seq.{take_all, get_or-take}
use Rattle.raw_bytes.specs.Bytes.{low_first}
use Rattle.raw_bytes.proofs.Bytes.{bytes_same}
use Rattle.text.specs.Text.{Written}
use Rattle.text.proofs.Texts.{written_length}

-- the output ends within the bytes that were lent
abbrev pub Put : (out word : List ℕ) (end : ℕ) (exit : List ℕ) → Type 0
Put out word end exit = (end ≤ length exit) × Written out 0 word end exit

pub fitting : {out word exit : List ℕ} {end : ℕ} → end ≤ length out → Written out 0 word end exit → Put out word end exit
fitting h w = (rw (written_length w) h, w)

pub nothing : {word : List ℕ} (out : List ℕ) → word ≡ [] → Put out word 0 out
nothing out e = (omega arith, rw e (record { next_is = refl; exit_is = refl }))

-- what is behind the head is the whole rest of the input
pub rest_whole : (head : ℕ) (input : List ℕ) → head ≤ length input → take (length input - head) (drop head input) ≡ drop head input
rest_whole head input h = take_all (length input - head) (drop head input) (simp length-drop (omega arith))

-- a number of the head is not cut
pub low_cut : (input : List ℕ) (room at count : ℕ) → at + count ≤ room → low_first (take room input) at count ≡ low_first input at count
low_cut input room at count h = bytes_same (take room input) input at at count (λ k l. get_or-take room input (at + k) 0 (omega arith))
