-- A design that is refused, and the reader behind one that is made.
use Rattle.bauchleton_text.proofs.Answers.{refused-design, made-fits, scan-frame-refused, scan-frame-made}
use Rattle.bauchleton_text.proofs.readings.bauchleton_scan_frame.Goals as goal

pub returns-in-Err : goal.returns-in-Err
returns-in-Err c =
    let a = c.args in
    let e = refused-design c.in-Err.r _ a.m a.t a.size c.in-Err.is c.new.ensures.0 c.from.ensures in
    scan-frame-refused a.answer.now a.text.now a.m a.t a.size e c.tell.ensures

pub returns-in-Ok : goal.returns-in-Ok
returns-in-Ok c =
    let a = c.args in
    let f = made-fits c.in-Ok.d a.m a.t a.size c.in-Ok.is c.new.ensures.0 c.new.ensures.1 in
    let w = c.scan_frame-a in
    scan-frame-made a.answer.now a.text.now w.result f w.ensures.result_value w.ensures.count_is c.tell_blocks.ensures
