-- The checker's verdict, reported; where the report has another length the checker is lent no working bytes.
use lib.ListN.{length}
use Rattle.bauchleton.proofs.Report.{part_lent, kit-told}
use Rattle.bauchleton.proofs.kits.bauchleton_check_kit.Goals as goal

pub returns : goal.returns
returns c =
    let a = c.args in
    let lent = c.lent_length-n in
    let n = part_lent a.work.now a.report.now lent.result lent.ensures.0 lent.ensures.1 in
    let made = c.check_kit-c.ensures in
    kit-told a.report.now a.m a.t a.size a.own.now a.parity.now a.inverse.now (length a.work.now) n made c.report_check.ensures
