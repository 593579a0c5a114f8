use Rattle.std.proofs.Common.{rules, arith, ◌≡◌, ℕ, ◌<◌, List, get_or, w16}
use Rattle.std.specs.Int.{to_le_bytes}
use Rattle.store_receipt.specs.Receipt.{low, high}
use Rattle.store_receipt.proofs.Entries.{entry_is}
use Rattle.store_receipt.proofs.entry_of.Goals as goal

-- the two bytes of a number
two_bytes : (bytes : List ℕ) (n : ℕ) → bytes ≡ to_le_bytes w16 n → n < 65536 → (get_or bytes 0 0 ≡ low n) × (get_or bytes 1 0 ≡ high n)
two_bytes bytes n e h = (rw e (search rules), rw e (omega arith))

pub returns : goal.returns
returns c =
    let n = two_bytes _ c.args.n c.to_le_bytes-number.ensures (search rules) in
    let f = two_bytes _ c.args.first c.to_le_bytes-stays.ensures (search rules) in
    rw (n.0, n.1, f.0, f.1) (entry_is _ _ _ (search rules))
