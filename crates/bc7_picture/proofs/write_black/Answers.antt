-- `bc7_picture::write_black` meets its contract. Assumes nothing.
use mathlib.Core.Path.{◌∙◌, ap}
use mathlib.Core.List.{List, ◌++◌}
use Prim.Native.Nat.{ℕ}
use lib.ListN.{drop, replicate}
use lib.Seq.{length-take-le}
use Rattle.bc7_picture.proofs.write_black.Goals as goal

pub returns : goal.returns
returns c =
    let out = c.args.out.now in
    ap (λ (front : List ℕ). front ++ drop 64 out) (c.fill.ensures.after (λ y e. e) ∙ ap (λ (n : ℕ). replicate n 0) (length-take-le 64 out c.requires))
