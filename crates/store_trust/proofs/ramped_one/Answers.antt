use Rattle.std.proofs.Common.{rules, ◌≡◌, ◌∙◌, ap₂, length, ◌++◌}
use Rattle.laws.proofs.Pasting.{end_put}
use Rattle.store_trust.specs.Ramp.{ramped_one}
use Rattle.store_trust.proofs.ramped_one.Goals as goal

pub returns : goal.returns
unfolding ramped_one
returns c =
    let l : length c.copy_from_slice.new.self ≡ 8 = c.copy_from_slice.ensures.len in
    end_put c.copy_from_slice.new.self _ c.copy_from_slice-2.new.self 8 8 l (search rules)
    ∙ ap₂ (λ a b. a ++ b) c.copy_from_slice.ensures.after c.copy_from_slice-2.ensures.after
