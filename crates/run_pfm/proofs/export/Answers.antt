-- `run_pfm::export` meets its contract. Assumes nothing.
use mathlib.Core.Path.{sym, ◌∙◌}
use Rattle.run_pfm.proofs.Order.{told_head, told_large, told_blocks, told-written}
use Rattle.run_pfm.proofs.export.Goals as goal

pub returns-then-head-ne-DONE : goal.returns-then-head-ne-DONE
returns-then-head-ne-DONE c = told_head _ _ c.dds_head-head.ensures c.if-head-ne-DONE.true c.refused.ensures

pub returns-then-not-size_small : goal.returns-then-not-size_small
returns-then-not-size_small c =
    told_large _ _ c.dds_head-head.ensures c.if-head-ne-DONE.false
    (sym c.size_small.ensures ∙ c.if-not-size_small.true) c.refused-then-not-size_small.ensures

pub returns-then-read-ne-DONE : goal.returns-then-read-ne-DONE
returns-then-read-ne-DONE c =
    told_blocks _ _ c.dds_head-head.ensures c.if-head-ne-DONE.false
    (sym c.size_small.ensures ∙ c.if-not-size_small.false) c.dds_read-read.ensures c.if-read-ne-DONE.true c.refused-then-read-ne-DONE.ensures

pub returns : goal.returns
returns c =
    told-written _ _ c.dds_head-head.ensures c.if-head-ne-DONE.false
    (sym c.size_small.ensures ∙ c.if-not-size_small.false) c.dds_read-read.ensures c.if-read-ne-DONE.false
    c.dds_blocks.ensures c.pfm_write.ensures
