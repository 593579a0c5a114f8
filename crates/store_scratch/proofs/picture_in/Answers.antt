use native.Mathlib.Nat.{add-sub_cancel_left}
use Rattle.store_spec.specs.Scratch.{picture_in}
use Rattle.store_scratch.proofs.picture_in.Goals as goal

pub returns : goal.returns
unfolding picture_in
returns c = rw add-sub_cancel_left
