-- The encoder's verdict, reported, and the buffer that it leaves; where the report has another length the encoder is lent nothing of it.
use Rattle.bauchleton.proofs.OriginalReport.{original_told}
use Rattle.bauchleton.proofs.originals.bauchleton_original_encode.Goals as goal

pub returns : goal.returns
returns c =
    let a = c.args in
    let lent = c.lent_length-n in
    let made = c.encode-c in
    original_told a.m a.t a.size a.blocks a.buffer.now a.report.now made.result lent.ensures.0 made.ensures c.report_check.ensures
