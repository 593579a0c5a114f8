-- `dds::level_bytes` meets its contract. Assumes nothing.
use mathlib.Core.Path.{ap₂, ◌∙◌}
use Rattle.dds.specs.Dds.{block_bytes, level_bytes}
use Rattle.dds.proofs.Levels.{level_ours}
use Rattle.dds.proofs.level_bytes.Goals as goal

pub block_bytes-requires : goal.block_bytes-requires
block_bytes-requires c =
    let a = c.args in
    rw (c.level_side.ensures, c.level_side-2.ensures) (level_ours a.level a.width a.height c.requires.size_ours)

pub returns : goal.returns
unfolding level_bytes
returns c = c.block_bytes.ensures ∙ ap₂ block_bytes c.level_side.ensures c.level_side-2.ensures
