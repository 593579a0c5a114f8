-- `bc6_endpoints::whole` meets its contract: four ends. Assumes nothing.
use Rattle.laws.proofs.Num.{read}
use Rattle.bc6_endpoints.proofs.Channels.{whole_done}
use Rattle.bc6_endpoints.proofs.whole.Goals as goal

pub returns : goal.returns
returns g c =
    whole_done c.requires _ (read c.end.type_inv c.end.ensures) (read c.end-2.type_inv c.end-2.ensures) (read c.end-3.type_inv c.end-3.ensures)
    (read c.end-4.type_inv c.end-4.ensures)
