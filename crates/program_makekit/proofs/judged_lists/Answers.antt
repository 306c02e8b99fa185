-- Where the lists' lines go wrong, the place is printed; behind them the lists are filled.
use Rattle.program.proofs.Printing.{printed_as}
use Rattle.program_makekit.proofs.Making.{lists_broken, lists-read}
use Rattle.program_makekit.proofs.judged_lists.Goals as goal

pub list_arrays-requires-clause-listed : goal.list_arrays-requires-clause-listed
list_arrays-requires-clause-listed c = lists-read _ _ _ c.requires.fronted _ c.order.ensures.0 _ c.judge_lists.ensures _ c.in-Ok.is

pub returns-in-Err : goal.returns-in-Err
returns-in-Err c =
    let broken = lists_broken _ _ _ c.requires.fronted _ c.order.ensures.0 _ c.judge_lists.ensures _ c.in-Err.is in
    printed_as _ _ _ _ _ broken c.put_refusal.ensures
