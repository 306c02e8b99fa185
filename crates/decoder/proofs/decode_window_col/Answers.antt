-- The call with a window, whose numbers are judged before the rules on the frame.
use mathlib.Core.Path.{sym, ◌∙◌}
use lib.ListN.{length}
use Rattle.decoder.proofs.DecodeCall.{answered-window, numbers-some}
use Rattle.decoder.proofs.decode_window_col.Goals as goal

pub answer_call-requires : goal.answer_call-requires
answer_call-requires c =
    let a = c.args in
    λ e some. numbers-some a.blocks a.rounds a.window (sym c.check_numbers-numbers.ensures ∙ e)

pub returns : goal.returns
returns c =
    let a = c.args in
    let n = c.check_numbers-numbers in
    c.answer_call.ensures ∙ answered-window a.m a.t a.size a.col a.blocks a.rounds a.own.now a.parity.now a.info.now a.red.now (length a.work.now) a.window n.result n.ensures
