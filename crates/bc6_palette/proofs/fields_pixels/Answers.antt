-- `bc6_palette::fields_pixels` meets its contract: one law for each return. Assumes nothing.
use borrow.Author.Rules.{rules}
use Rattle.bc6_valid.proofs.Verdict.{is_known}
use Rattle.bc6_palette.proofs.Calls as laws
use Rattle.bc6_palette.proofs.fields_pixels.Goals as goal

pub picture_of-requires : goal.picture_of-requires
picture_of-requires c = is_known _ c.is_valid.ensures (c.if-not-is_valid.false)

pub returns : goal.returns
returns c =
    laws.all_shown _ _ (search rules) c.is_valid.ensures (c.if-not-is_valid.false) (search rules)
    c.picture_of.ensures c.write_values.ensures
