use Rattle.std.proofs.Common.{◌≡◌, ◌*◌, length, drop}
use Rattle.std.specs.Slice.Iter.{chunks_exact_rest, chunks_exact_size}
use Rattle.store_spec.specs.Scratch.{picture_mixed}
use Rattle.store_scratch.proofs.mixed.Given as goal

abbrev pub invariant-loop-pixel : goal.invariant-loop-pixel
invariant-loop-pixel l =
    (l.mix ≡ picture_mixed l.kind l.picture (length l.yielded))
    × (chunks_exact_size l.pixel-iterator ≡ 3)
    × (chunks_exact_rest l.pixel-iterator ≡ drop (length l.yielded * 3) l.picture)
