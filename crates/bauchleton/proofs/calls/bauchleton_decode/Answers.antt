-- The decoder's answer, reported; where the report has another length the decoder is lent no working bytes.
use Prim.Native.Nat.{ℕ}
use lib.ListN.{length}
use Rattle.staircase.specs.Calls.{Corrected}
use Rattle.staircase.specs.Tally.{decode_with, call_of}
use Rattle.bauchleton.specs.Answers.{corrected_answer}
use Rattle.bauchleton.specs.Report.{decode_reported, report_bytes}
use Rattle.bauchleton.proofs.Answers.{corrected-told}
use Rattle.bauchleton.proofs.Report.{decode_forty, lending, decode_other, part_lent, decoded-told}
use Rattle.bauchleton.proofs.calls.bauchleton_decode.Goals as goal

pub returns : goal.returns
returns c =
    let a = c.args in
    let lent = c.lent_length-n in
    let n = part_lent a.work.now a.report.now lent.result lent.ensures.0 lent.ensures.1 in
    let made = c.decode-a in
    let report = a.report.now in
    let x = decode_with a.m a.t a.size 0 a.blocks a.rounds a.own.now a.parity.now a.info.now a.red.now (length a.work.now) in
    decoded-told report (λ (n : ℕ). call_of (lending n x)) x.work (decode_reported report x) (decode_forty x report) (λ h. decode_other report h x) n
    (corrected-told (λ (z : Corrected). report_bytes (corrected_answer z)) report made.result made.ensures (c.report_decoding.ensures _))
