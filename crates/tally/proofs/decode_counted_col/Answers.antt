-- The decoder judges rule 16 with its own, and its answer says what is added.
use lib.ListN.{length}
use Rattle.staircase.specs.Tally.{decode_with}
use Rattle.answers.specs.Answers.{verdict_of}
use Rattle.tally.specs.Answers.{totals_of}
use Rattle.tally.proofs.Totals.{sums-fit, tallied_is}
use Rattle.tally.proofs.decode_counted_col.Goals as goal

pub brought_up-requires : goal.brought_up-requires
brought_up-requires c =
    let a = c.args in
    let x = decode_with a.m a.t a.size a.col a.blocks a.rounds a.own.now a.parity.now a.info.now a.red.now (length a.work.now) in
    sums-fit (totals_of a.tally) x _ c.decode_with_col-decoding.result (verdict_of c.check_totals-full.result) c.check_totals-full.ensures
    c.decode_with_col-decoding.ensures

pub returns : goal.returns
returns c =
    let a = c.args in
    let x = decode_with a.m a.t a.size a.col a.blocks a.rounds a.own.now a.parity.now a.info.now a.red.now (length a.work.now) in
    tallied_is (totals_of a.tally) x _ c.decode_with_col-decoding.result (verdict_of c.check_totals-full.result) c.check_totals-full.ensures
    c.decode_with_col-decoding.ensures _ c.brought_up.ensures
