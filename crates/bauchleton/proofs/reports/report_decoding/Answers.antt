-- Each case by its definition.
use Rattle.answers.specs.declared.Counts.{Counts}
use Rattle.answers.specs.declared.Refusal.{Refusal}
use Rattle.std.specs.Prelude.{Result}
use mathlib.Core.Path.{refl, sym}
use Rattle.staircase.specs.Frame.{Frame}
use Rattle.answers.specs.Answers.{refused_frame, corrected_of}
use Rattle.rules_verdict.specs.Number.{number, place_of}
use Rattle.rules_verdict.proofs.Stores.{told_alike}
use Rattle.bauchleton.specs.Answers.{corrected_answer}
use Rattle.bauchleton.specs.Report.{report_bytes}
use Rattle.bauchleton.proofs.Report.{judged-reported}
use Rattle.bauchleton.proofs.reports.report_decoding.Goals as goal

pub returns-in-Ok : goal.returns-in-Ok
unfolding number place_of corrected_of
returns-in-Ok c =
    let l = c.args.report.now in
    λ (f : Frame). told_alike (λ (x : Result Counts Refusal). number (corrected_of x f).verdict) (λ (x : Result Counts Refusal). report_bytes (corrected_answer (corrected_of x f))) l
    (sym c.in-Ok.is) (refl, c.put_report.ensures)

pub returns-in-Err : goal.returns-in-Err
unfolding corrected_of refused_frame
returns-in-Err c =
    let l = c.args.report.now in
    λ (f : Frame). told_alike (λ (x : Result Counts Refusal). number (corrected_of x f).verdict) (λ (x : Result Counts Refusal). report_bytes (corrected_answer (corrected_of x f))) l
    (sym c.in-Err.is) (judged-reported l _ c.from-judged.ensures c.put_place.ensures)
