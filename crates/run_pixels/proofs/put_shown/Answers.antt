-- `run_pixels::put_shown` meets its contract. Assumes nothing.
use borrow.Author.Rules.{rules}
use Rattle.run_pixels.proofs.Bytes.{head_stored, le_low, le_high}
use Rattle.run_pixels.proofs.put_shown.Goals as goal

pub returns : goal.returns
returns c = head_stored _ _ _ _ c.args.out.now _ (le_low _ c.to_le_bytes.ensures) (le_high _ (search rules) c.to_le_bytes.ensures) c.requires c.put_values.ensures
