-- S-6: a stream read answers as the list of 128 bits would. Assumes nothing.
use mathlib.Core.Path.{◌≡◌, ◌∙◌, sym, ap}
use mathlib.Core.List.{List}
use Prim.Native.Nat.{ℕ, ◌-◌, ◌≤◌}
use lib.ListN.{take, drop}
use Rattle.laws.specs.Bit.{bits_of, of_bits}
use Rattle.laws.proofs.Digits.{first, rest}
use Rattle.bcn_spec.specs.Bits.{IsBlock, block_bits, number_of}
use Rattle.bcn_spec.proofs.Bytes.{bits_of_block}
use Rattle.bcn_util.specs.Stream.{BitsRead}

-- the stream of a block starts as the list of its 128 bits
pub listed_new : (block : List ℕ) (n : ℕ) → IsBlock block → n ≡ number_of block → bits_of 128 n ≡ block_bits block
listed_new block n b e = ap (bits_of 128) e ∙ bits_of_block block b

-- where t bits are left: the next n of them, the first lowest, and the list without them
module _ {n count bits left : ℕ} (t : ℕ) (r : BitsRead n count bits left) (h : count ≤ t) where
  pub listed_next : bits ≡ of_bits (take count (bits_of t n))
  listed_next = r.next ∙ sym (first count t n h)

  pub listed_left : bits_of (t - count) left ≡ drop count (bits_of t n)
  listed_left = ap (bits_of (t - count)) r.left ∙ sym (rest count t n h)
