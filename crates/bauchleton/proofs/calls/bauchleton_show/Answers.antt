-- The answers of the two calls that show, as the host is told them.
use Rattle.staircase.specs.Rules.{Part}
use Rattle.staircase.specs.Calls.{show_call}
use Rattle.bauchleton.proofs.Answers.{show_told}
use Rattle.bauchleton.proofs.calls.bauchleton_show.Goals as goal

pub returns : goal.returns
returns c =
    let a = c.args in
    show_told (λ (p : Part). show_call a.m a.t a.size 0 a.blocks p a.info.now a.red.now) a.out.now a.answer.now c.part_of-part.ensures
    c.check_show-c.ensures c.show-stretch.ensures c.paste.ensures c.from.ensures c.tell.ensures
