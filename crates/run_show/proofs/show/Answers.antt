-- `run_show::show` meets its contract. Assumes nothing.
use mathlib.Core.Path.{ap, ◌∙◌}
use mathlib.Core.List.{List, ◌++◌}
use Prim.Native.Nat.{ℕ}
use lib.ListN.{drop}
use Rattle.laws.specs.Made.{made}
use Rattle.run_show.specs.Picture.{picture_byte}
use Rattle.run_show.proofs.Bytes.{all_bytes}
use Rattle.run_show.proofs.show.Goals as goal

pub returns : goal.returns
returns c =
    c.put_answer.ensures
    ∙ ap (λ (a : ℕ). made (picture_byte a c.fields_pixels-told.new.out) 97 ++ drop 97 c.args.out.now) c.answer_number.ensures
    ∙ ap (λ (l : List ℕ). l ++ drop 97 c.args.out.now) (all_bytes _ c.fields_in-fields.ensures c.fields_pixels-told.ensures)
