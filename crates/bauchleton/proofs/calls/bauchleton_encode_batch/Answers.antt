-- The encoder's verdict, reported, and the redundancy that it leaves; where the report has another length the encoder is lent no working bytes.
use Prim.Native.Nat.{ℕ}
use lib.ListN.{length}
use Rattle.staircase.specs.Batch.{batch_call}
use Rattle.bauchleton.specs.Report.{batch_reported}
use Rattle.bauchleton.proofs.Report.{batch_forty, batch_other, part_lent, encoded-told}
use Rattle.bauchleton.proofs.calls.bauchleton_encode_batch.Goals as goal

pub returns : goal.returns
returns c =
    let a = c.args in
    let lent = c.lent_length-n in
    let n = part_lent a.work.now a.report.now lent.result lent.ensures.0 lent.ensures.1 in
    let made = c.encode_batch-c.ensures in
    let report = a.report.now in
    let work = length a.work.now in
    encoded-told report
    (λ (n : ℕ). batch_call a.m a.t a.size 0 a.blocks a.frames a.own.now a.parity.now a.inverse.now a.info.now a.red.now n) work
    (batch_reported report a.m a.t a.size a.blocks a.frames a.own.now a.parity.now a.inverse.now a.info.now a.red.now work)
    (batch_forty a.m a.t a.size a.own.now a.parity.now a.inverse.now work a.blocks a.info.now a.red.now a.frames report)
    (λ h. batch_other report h a.m a.t a.size a.own.now a.parity.now a.inverse.now work a.blocks a.info.now a.red.now a.frames) n made
    c.report_check.ensures
