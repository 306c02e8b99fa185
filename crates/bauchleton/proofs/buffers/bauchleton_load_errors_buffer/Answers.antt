-- The answer as the host is told it, and the buffer that is left.
use Rattle.bauchleton.proofs.LoadTold.{load_told}
use Rattle.bauchleton.proofs.buffers.bauchleton_load_errors_buffer.Goals as goal

pub returns : goal.returns
returns c =
    let e = c.errors_buffer-a.ensures in
    let t = load_told c.args.answer.now e.0 e.2 c.tell_load.ensures in
    (t.0, e.1, t.1)
