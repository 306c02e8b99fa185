-- The encoder's verdict, reported, and the redundancy that it leaves; where the report has another length the encoder is lent no working bytes.
use Prim.Native.Nat.{ℕ}
use lib.ListN.{length}
use Rattle.staircase.specs.Calls.{encode_call}
use Rattle.bauchleton.specs.Report.{encode_reported}
use Rattle.bauchleton.proofs.Report.{encode_forty, encode_other, part_lent, encoded-told}
use Rattle.bauchleton.proofs.calls.bauchleton_encode.Goals as goal

pub returns : goal.returns
returns c =
    let a = c.args in
    let lent = c.lent_length-n in
    let n = part_lent a.work.now a.report.now lent.result lent.ensures.0 lent.ensures.1 in
    let made = c.encode-c.ensures in
    let report = a.report.now in
    let work = length a.work.now in
    encoded-told report
    (λ (n : ℕ). encode_call a.m a.t a.size 0 a.blocks a.own.now a.parity.now a.inverse.now a.info.now a.red.now n) work
    (encode_reported report a.m a.t a.size a.blocks a.own.now a.parity.now a.inverse.now a.info.now a.red.now work)
    (encode_forty a.m a.t a.size a.own.now a.parity.now a.inverse.now work a.blocks a.info.now a.red.now report)
    (λ h. encode_other report h a.m a.t a.size a.own.now a.parity.now a.inverse.now work a.blocks a.info.now a.red.now) n made
    c.report_check.ensures
