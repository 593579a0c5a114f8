-- `pfm_header::put_decimal` meets its contract. Assumes nothing.
use mathlib.Core.Path.{◌≡◌, ap}
use native.Mathlib.Omega.{arith}
use lib.Dec.{lit≤}
use lib.ListN.{length, take}
use Rattle.pfm_header.specs.Header.{decimal}
use Rattle.pfm_header.proofs.Text as text
use Rattle.pfm_header.proofs.put_decimal.Goals as goal

pub put-requires : goal.put-requires
put-requires c =
    let digits : take c.put_decimal-end.result c.put_decimal-end.new.text ≡ decimal c.args.n =
    text.in_buffer c.requires.0 (lit≤ tt) (omega arith) (rw c.from.ensures at c.put_decimal-end.ensures.written) in
    omega (arith, ap length digits, text.length_decimal c.args.n)

pub returns : goal.returns
returns c = text.copied c.args.n (text.in_buffer c.requires.0 (lit≤ tt) (omega arith) (rw c.from.ensures at c.put_decimal-end.ensures.written)) c.put.ensures.written
