-- `store_trust::region_of` meets its contract. Assumes nothing.
use borrow.Author.Tests.{lt-leb, le-leb}
use mathlib.Core.Path.{refl, ap, ◌∙◌}
use Rattle.laws.specs.Bit.{bit}
use Rattle.bc6h_spec.specs.Regions.{region_of}
use Rattle.bcn_data.specs.declared.Subset2Map.{Subset2Map}
use Rattle.store_trust.proofs.region_of.Goals as goal

pub returns-then-fields-gt10 : goal.returns-then-fields-gt10
unfolding region_of
returns-then-fields-gt10 c = rw (lt-leb _ 10 c.if-fields-gt10.true) refl

pub returns : goal.returns
unfolding region_of
returns c =
    c.get_subset_index.ensures ∙ ap (λ (m : Subset2Map). bit m.subset_indexes c.args.k) c.of-map.ensures
    ∙ rw (le-leb _ 10 c.if-fields-gt10.false) refl
