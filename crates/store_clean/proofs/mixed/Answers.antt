use Rattle.std.proofs.Common.{◌≡◌, arith}
use Rattle.store_clean.proofs.Linking.{mixed_none, mixed_more}
use Rattle.store_clean.proofs.mixed.Goals as goal

pub loop-byte-init : goal.loop-byte-init
loop-byte-init c = mixed_none _ _ _ c.from-mix.ensures

pub loop-byte-preserved : goal.loop-byte-preserved
loop-byte-preserved c = mixed_more _ _ _ _ _ _ c.loop-byte.invariant c.mixed_on.ensures.0 c.from.ensures

pub returns : goal.returns
returns c = let e : c.loop-byte.byte-index ≡ 16 = omega arith in rw e at c.loop-byte.invariant
