use Rattle.store_faulty.proofs.Forms.{refused_when}
use Rattle.store_faulty.proofs.is_refused.Goals as goal

pub returns : goal.returns
returns g c = refused_when _ _ _ c.refusal.ensures
