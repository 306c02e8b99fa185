-- The answer as the host is told it, and the lists that the call leaves.
use Rattle.bauchleton.proofs.LoadTold.{load_told}
use Rattle.bauchleton.proofs.kits.bauchleton_mixed_lists.Goals as goal

pub returns : goal.returns
returns c =
    let e = c.mixed_lists-a.ensures in
    let t = load_told c.args.answer.now e.0 e.3 c.tell_load.ensures in
    (t.0, e.1, e.2, t.1)
