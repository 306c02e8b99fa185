-- Rule 13, then the two lines, and behind them the lists.
use Rattle.program.proofs.Printing.{printed_as}
use Rattle.text.proofs.MakeKitLaws.{long-input}
use Rattle.program_makekit.proofs.Making.{front_starts, front_error}
use Rattle.program_makekit.proofs.makekit_input.Goals as goal

pub returns-then-text-gt-MOST_INPUT : goal.returns-then-text-gt-MOST_INPUT
returns-then-text-gt-MOST_INPUT c = printed_as _ _ _ _ _ (long-input _ c.if-text-gt-MOST_INPUT.true) c.put_refusal.ensures

pub judged_lists-requires-clause-fronted : goal.judged_lists-requires-clause-fronted
judged_lists-requires-clause-fronted c =
    let e = c.read_front.ensures in
    front_starts _ c.if-text-gt-MOST_INPUT.false _ e.result_value _ _ c.in-Ok.is e.front_is

pub returns-in-Err : goal.returns-in-Err
returns-in-Err c =
    let prints = front_error _ c.if-text-gt-MOST_INPUT.false _ c.read_front.ensures.result_value _ _ c.in-Err.is c.judge_error-judged.ensures in
    printed_as _ _ _ _ _ prints c.put_refusal-in-Err.ensures
