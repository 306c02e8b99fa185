-- A design that is refused, and the reader behind one that is made.
use Rattle.bauchleton_text.proofs.Answers.{refused-design, made-fits, read-blocks-refused, read-blocks-made}
use Rattle.bauchleton_text.proofs.readings.bauchleton_read_blocks.Goals as goal

pub returns-in-Err : goal.returns-in-Err
returns-in-Err c =
    let a = c.args in
    let e = refused-design c.in-Err.r _ a.m a.t a.size c.in-Err.is c.new.ensures.0 c.from.ensures in
    read-blocks-refused a.answer.now a.text.now a.info.now a.m a.t a.size e c.tell.ensures

pub returns-in-Ok : goal.returns-in-Ok
returns-in-Ok c =
    let a = c.args in
    let f = made-fits c.in-Ok.d a.m a.t a.size c.in-Ok.is c.new.ensures.0 c.new.ensures.1 in
    let w = c.read_blocks-a in
    read-blocks-made a.answer.now a.text.now a.info.now w.result f w.ensures.result_value w.ensures.count_is w.ensures.info_after c.tell_blocks.ensures
