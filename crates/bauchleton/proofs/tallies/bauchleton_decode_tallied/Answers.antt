-- A slice that is no tally is refused by rule 6, behind the rules before it; else the decoder's answer, reported, and the tally stored. Where the report has another
-- length the decoder is lent no working bytes.
use lib.ListN.{length}
use Rattle.staircase.specs.Tally.{decode_with}
use Rattle.answers.specs.Answers.{refusal_verdict, verdict_of}
use Rattle.tally.specs.Answers.{totals_of}
use Rattle.bauchleton.specs.LentTally.{lent_tally_call}
use Rattle.bauchleton.proofs.Report.{part_lent}
use Rattle.bauchleton.proofs.LentTally.{tallied, tallied_forty, tallied_other, tallied_is, untallied, untallied_forty, untallied_other, untallied_is, lent_told}
use Rattle.bauchleton.proofs.tallies.bauchleton_decode_tallied.Goals as goal

pub returns-then-tally-ne-TOTALS : goal.returns-then-tally-ne-TOTALS
unfolding verdict_of refusal_verdict
returns-then-tally-ne-TOTALS c =
    let a = c.args in
    let lent = c.lent_length-n in
    let n = part_lent a.work.now a.report.now lent.result lent.ensures.0 lent.ensures.1 in
    let x = decode_with a.m a.t a.size 0 a.blocks a.rounds a.own.now a.parity.now a.info.now a.red.now (length a.work.now) in
    let l = a.tally.now in
    let report = a.report.now in
    let h = c.if-tally-ne-TOTALS.true in
    let made = c.decode_with_col-a in
    let first = c.length_first in
    lent_told report (untallied report l x) x.work (lent_tally_call report l x) (untallied_forty report l x h) (untallied_other report l x h) n first.result
    (untallied_is report l x _ made.result first.result _ made.ensures first.ensures) (c.report_decoding.ensures _)

pub returns : goal.returns
returns c =
    let a = c.args in
    let lent = c.lent_length-n in
    let n = part_lent a.work.now a.report.now lent.result lent.ensures.0 lent.ensures.1 in
    let x = decode_with a.m a.t a.size 0 a.blocks a.rounds a.own.now a.parity.now a.info.now a.red.now (length a.work.now) in
    let l = a.tally.now in
    let report = a.report.now in
    let h = c.if-tally-ne-TOTALS.false in
    let made = c.decode_counted-x in
    let old = c.tally_in in
    let put = c.put_totals.ensures in
    lent_told report (tallied report l x) x.work (lent_tally_call report l x) (tallied_forty report l x h) (tallied_other report l x h) n made.result.decoding
    (tallied_is report l x _ (totals_of old.result) old.ensures _ _ made.ensures _ put) (c.report_decoding-2.ensures _)
