use Rattle.std.proofs.Common.{◌≡◌}
use Rattle.store_clean.specs.Links.{block_mixed}
use Rattle.store_clean.proofs.mixed.Given as goal

abbrev pub invariant-loop-byte : goal.invariant-loop-byte
invariant-loop-byte l = l.mix ≡ block_mixed l.format l.block l.byte-index
