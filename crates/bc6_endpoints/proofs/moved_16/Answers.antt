-- `bc6_endpoints::moved_16` meets its contract. Assumes nothing.
use Rattle.bc6_endpoints.proofs.Sixteens.{transform_asks}
use Rattle.bc6_endpoints.proofs.moved_16.Goals as goal

pub transform_one-requires : goal.transform_one-requires
transform_one-requires c = transform_asks c.args.n c.requires.0 c.requires.1 _ c.sign_extend.type_inv c.sign_extend.ensures
