-- `pfm_header::header_length` meets its contract. Assumes nothing.
use native.Mathlib.Omega.{arith}
use Rattle.pfm_header.proofs.Text as text
use Rattle.pfm_header.proofs.header_length.Goals as goal

pub overflow_add-result : goal.overflow_add-result
overflow_add-result c = omega (arith, text.places_small c.args.width)

pub overflow_add-result-2 : goal.overflow_add-result-2
overflow_add-result-2 c = omega (arith, text.places_small c.args.width, text.places_small c.args.height)
