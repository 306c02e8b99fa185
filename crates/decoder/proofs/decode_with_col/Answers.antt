-- The call with a window that has all groups, and one more check behind the rules.
use mathlib.Core.Path.{◌∙◌}
use lib.ListN.{length}
use Rattle.decoder.proofs.DecodeCall.{answered_with}
use Rattle.decoder.proofs.decode_with_col.Goals as goal

pub returns : goal.returns
returns c =
    let a = c.args in
    c.answer_call.ensures ∙ answered_with a.m a.t a.size a.col a.blocks a.rounds a.own.now a.parity.now a.info.now a.red.now (length a.work.now) a.last
