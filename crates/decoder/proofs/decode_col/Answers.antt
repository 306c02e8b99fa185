-- The call with one more check, which refuses nothing.
use mathlib.Core.Path.{◌≡◌, ◌∙◌}
use Rattle.staircase.specs.Tally.{decode_with, call_of, further_call}
use Rattle.staircase.specs.Rules.Verdict.{accepted}
use lib.ListN.{length}
use Rattle.answers.specs.Answers.{verdict_of}
use Rattle.staircase.proofs.Tally.{further_none}
use Rattle.decoder.proofs.decode_col.Goals as goal

pub returns : goal.returns
unfolding verdict_of
returns c =
    let a = c.args in
    let x = decode_with a.m a.t a.size a.col a.blocks a.rounds a.own.now a.parity.now a.info.now a.red.now (length a.work.now) in
    let n : further_call accepted x ≡ call_of x = further_none x in
    c.decode_with_col.ensures ∙ n
