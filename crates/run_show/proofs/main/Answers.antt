use Rattle.std.proofs.Common.{rules, ap, ◌∙◌}
use Rattle.run_show.specs.Picture.{picture_bytes}
use Rattle.run_show.proofs.Bytes.{picture_first}
use Rattle.run_show.proofs.main.Goals as goal

-- what goes out is the definition of what was read

pub write_picture-requires : goal.write_picture-requires
write_picture-requires c =
    record {
      room = search rules;
      fits = search rules;
      says = picture_first _ _ c.show.ensures ∙ ap picture_bytes c.first_bytes.ensures;
    }
