use Rattle.probe_places.proofs.Readings.{unrefused, refused}
use Rattle.store_faulty.specs.Faulty.{placed_form}
use Rattle.text_places.proofs.Lines.{readable}
use Rattle.text_places_audit.proofs.Lines as lines
use Rattle.text_places_audit.proofs.Copies as copies
use Rattle.text_places_audit.proofs.is_repeat.Goals as goal

pub returns-in_default : goal.returns-in_default
returns-in_default c = copies.refused placed_form c.args.store.now c.args.n c.args.earlier (refused c.placed_record_at.ensures c.in_default.is)

pub returns-in_default-placed_record_at : goal.returns-in_default-placed_record_at
returns-in_default-placed_record_at c = copies.other_refused placed_form c.args.store.now c.args.n c.args.earlier (unrefused c.placed_record_at.ensures c.in-Record.is) (refused c.placed_record_at-2.ensures c.in_default-placed_record_at.is)

pub returns-then-again-first : goal.returns-then-again-first
returns-then-again-first c = copies.two_formats placed_form c.args.store.now c.args.n c.args.earlier (unrefused c.placed_record_at.ensures c.in-Record.is) (unrefused c.placed_record_at-2.ensures c.in-Record-placed_record_at.is) (lines.format_is c.placed_record_at.ensures c.in-Record.is) (lines.format_is c.placed_record_at-2.ensures c.in-Record-placed_record_at.is) c.if-again-first.true

pub mode_in-requires : goal.mode_in-requires
mode_in-requires c = readable _ _ (unrefused c.placed_record_at.ensures c.in-Record.is)

pub returns-then-mode_in-eq0 : goal.returns-then-mode_in-eq0
returns-then-mode_in-eq0 c = copies.reserved placed_form c.args.store.now c.args.n c.args.earlier (unrefused c.placed_record_at.ensures c.in-Record.is) (unrefused c.placed_record_at-2.ensures c.in-Record-placed_record_at.is) (lines.format_is c.placed_record_at.ensures c.in-Record.is) (lines.format_is c.placed_record_at-2.ensures c.in-Record-placed_record_at.is) c.if-again-first.false (lines.mode-is _ _ c.mode_in.ensures) c.if-mode_in-eq0.true

pub same_block-requires : goal.same_block-requires
same_block-requires c = (lines.part_length _ _ (unrefused c.placed_record_at.ensures c.in-Record.is) c.placed_record_block.ensures, lines.part_length _ _ (unrefused c.placed_record_at-2.ensures c.in-Record-placed_record_at.is) c.placed_record_block-2.ensures)

pub returns : goal.returns
returns c = copies.same_blocks placed_form c.args.store.now c.args.n c.args.earlier (unrefused c.placed_record_at.ensures c.in-Record.is) (unrefused c.placed_record_at-2.ensures c.in-Record-placed_record_at.is) (lines.format_is c.placed_record_at.ensures c.in-Record.is) (lines.format_is c.placed_record_at-2.ensures c.in-Record-placed_record_at.is) c.if-again-first.false (lines.mode-is _ _ c.mode_in.ensures) c.if-mode_in-eq0.false (lines.part_is _ _ (unrefused c.placed_record_at.ensures c.in-Record.is) c.placed_record_block.ensures) (lines.part_is _ _ (unrefused c.placed_record_at-2.ensures c.in-Record-placed_record_at.is) c.placed_record_block-2.ensures) c.same_block.ensures
