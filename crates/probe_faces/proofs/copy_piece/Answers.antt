-- `probe_faces::copy_piece` meets its contract. Assumes nothing.
use mathlib.Core.Path.{ap}
use mathlib.Core.List.{List, ◌++◌}
use Prim.Native.Nat.{ℕ}
use lib.ListN.{drop}
use Rattle.probe_faces.proofs.Strips.{piece_copied}
use Rattle.probe_faces.proofs.copy_piece.Goals as goal

pub returns : goal.returns
returns c =
    ap (λ (t : List ℕ). t ++ drop 12 c.args.out.now) (piece_copied c.args.strip.now _ c.args.from c.requires.0 c.copy_from_slice.ensures.after)
