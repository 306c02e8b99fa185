-- A refusal shows nothing; past the checks the part is there, and is shown.
use Rattle.show.proofs.Shown.{design-empty, frame-empty, passed-part, passed_shown}
use Rattle.show.proofs.show_col.Goals as goal

pub returns-in_default : goal.returns-in_default
returns-in_default c = design-empty _ _ _ _ _ _ _ _ c.new_col.ensures.0 c.in_default.is

pub returns-in_default-check_frame : goal.returns-in_default-check_frame
returns-in_default-check_frame c =
    let n = c.new_col.ensures in frame-empty _ _ _ _ _ _ _ _ n.0 n.1 c.in-Ok.is _ c.check_frame.ensures c.in_default-check_frame.is

pub shown_part-requires : goal.shown_part-requires
shown_part-requires c =
    let n = c.new_col.ensures in passed-part _ _ _ _ _ _ _ _ n.0 n.1 c.in-Ok.is _ c.check_frame.ensures c.in-Ok-check_frame.is

pub returns : goal.returns
returns c =
    let n = c.new_col.ensures in
    passed_shown _ _ _ _ _ _ _ _ n.0 n.1 c.in-Ok.is _ c.check_frame.ensures c.in-Ok-check_frame.is c.shown_part.ensures
