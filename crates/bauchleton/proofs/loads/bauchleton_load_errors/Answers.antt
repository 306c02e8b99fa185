-- The answer as the host is told it, and the frame that is left.
use Rattle.bauchleton.proofs.LoadTold.{load_told}
use Rattle.bauchleton.proofs.loads.bauchleton_load_errors.Goals as goal

pub returns : goal.returns
returns c =
    let e = c.errors-a.ensures in
    let t = load_told c.args.answer.now e.0 e.2 c.tell_load.ensures in
    (t.0, e.1, t.1)
