use borrow.Author.Rules.{rules}
use Rattle.store_clean.proofs.Linking.{bucket_is}
use Rattle.store_clean.proofs.bucket_of.Goals as goal

pub returns : goal.returns
returns c = (bucket_is _ _ c.mixed.ensures, search rules)
