use Rattle.text_probe.proofs.Answers.{none_written, tell_asked, map_asked, fit_asked, exr_asked, none_asked}
use Rattle.text_moves.proofs.Heads.{fitting}
use Rattle.text.proofs.Texts.{said}
use borrow.Author.Rules.{rules}
use Rattle.text_probe.proofs.put_probe.Goals as goal

pub returns-then-input-lt-HEAD : goal.returns-then-input-lt-HEAD
returns-then-input-lt-HEAD c =
    let both = none_written _ _ c.if-input-lt-HEAD.true in
    record { upper_bound = both.0; written = both.1 }

pub returns-then-kind-eq-TELL : goal.returns-then-kind-eq-TELL
returns-then-kind-eq-TELL c =
    let both = fitting (search rules) (said c.put_check.ensures.written (tell_asked _ c.if-input-lt-HEAD.false c.word_at-edge.ensures c.word_at-face.ensures c.if-kind-eq-TELL.true)) in
    record { upper_bound = both.0; written = both.1 }

pub returns-then-kind-eq-MAP : goal.returns-then-kind-eq-MAP
returns-then-kind-eq-MAP c =
    let both = fitting (search rules) (said c.put_face.ensures.written (map_asked _ c.if-input-lt-HEAD.false c.word_at-edge.ensures c.word_at-face.ensures c.if-kind-eq-MAP.true)) in
    record { upper_bound = both.0; written = both.1 }

pub returns-then-kind-eq-FIT : goal.returns-then-kind-eq-FIT
returns-then-kind-eq-FIT c =
    let both = fitting (search rules) (said c.put_check-then-kind-eq-FIT.ensures.written (fit_asked _ c.if-input-lt-HEAD.false c.word_at-edge.ensures c.word_at-face.ensures c.if-kind-eq-FIT.true c.probe_edge.ensures c.u32_to_usize.ensures)) in
    record { upper_bound = both.0; written = both.1 }

pub returns-then-kind-eq-EXR : goal.returns-then-kind-eq-EXR
returns-then-kind-eq-EXR c =
    let both = fitting (search rules) (said c.put_face-then-kind-eq-EXR.ensures.written (exr_asked _ c.if-input-lt-HEAD.false c.word_at-edge.ensures c.word_at-face.ensures c.if-kind-eq-EXR.true)) in
    record { upper_bound = both.0; written = both.1 }

pub returns : goal.returns
returns c =
    let both = none_asked _ c.if-input-lt-HEAD.false _ c.if-kind-eq-TELL.false c.if-kind-eq-MAP.false c.if-kind-eq-FIT.false c.if-kind-eq-EXR.false in
    record { upper_bound = both.0; written = both.1 }
