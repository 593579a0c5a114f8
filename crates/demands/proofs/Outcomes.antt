-- The calls that answer a definition's value have one outcome. Assumes nothing.
use mathlib.Core.Path.{sym, ◌∙◌}
use Rattle.demands.specs.Outcomes.{OneAnswer, OneOutcome}

same : {A : Type 0} (value : A) → OneAnswer value
same value r s d e = d ∙ sym e

pub one_outcome : OneOutcome
one_outcome = record {
  tile_at = λ store n. same _;
  first_damaged = λ store. same _;
  first_twin = λ store n. same _;
  first_of = λ store n. same _;
  is_covered = λ store n earlier. same _;
  is_by_demand_3 = λ store n earlier. same _;
  is_trusted = λ block format. same _;
  probe_check = λ store edge. same _;
  probe_edge = λ store. same _;
  write_refusal = λ size format width height room. same _;
  pfm_length = λ width height. same _;
  exr_length = λ width height. same _;
}
