use Rattle.std.proofs.Common.{arith}
use Rattle.run_pfm.proofs.Order.{length_fits}
use Rattle.run_pfm.proofs.main.Goals as goal

pub tell-requires : goal.tell-requires
tell-requires c = omega (arith, length_fits c.export-written.ensures, c.export-written.auto.out)
