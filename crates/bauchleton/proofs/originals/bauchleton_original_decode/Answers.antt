-- The decoder's answer, reported, and the buffer that it leaves; where the report has another length the decoder is lent no working bytes.
use lib.ListN.{length}
use Rattle.bauchleton.proofs.Report.{part_lent}
use Rattle.bauchleton.proofs.OriginalReport.{original_decode-told, buffer-told}
use Rattle.bauchleton.proofs.originals.bauchleton_original_decode.Goals as goal

pub returns : goal.returns
returns c =
    let a = c.args in
    let lent = c.lent_length-n in
    let n = part_lent a.work.now a.report.now lent.result lent.ensures.0 lent.ensures.1 in
    let made = c.decode-a in
    original_decode-told a.m a.t a.size a.blocks a.rounds a.buffer.now (length a.work.now) a.report.now n
    (buffer-told a.report.now made.result made.ensures (c.report_decoding.ensures _))
