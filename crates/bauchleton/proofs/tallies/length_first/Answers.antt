-- By the number of the rule that refuses.
use Rattle.answers.specs.declared.Counts.{Counts}
use Rattle.answers.specs.declared.Refusal.{Refusal}
use Rattle.std.specs.Prelude.{Result}
use mathlib.Core.Path.{sym, ap, ◌∙◌}
use native.Mathlib.Omega.{arith}
use Rattle.staircase.specs.Frame.{Frame}
use Rattle.staircase.specs.Rules.{Verdict}
use Rattle.answers.specs.Answers.{refusal_verdict, verdict_of, refused_frame, corrected_of}
use Rattle.answers.proofs.Checks.{refusal_refuses}
use Rattle.rules_verdict.specs.declared.Judged.{Judged}
use Rattle.bauchleton.specs.LentTally.{length_first}
use Rattle.bauchleton.proofs.LentTally.{late_verdict, early-verdict}
use Rattle.bauchleton.proofs.tallies.length_first.Goals as goal

pub returns-in_default : goal.returns-in_default
unfolding corrected_of refused_frame refusal_verdict length_first
returns-in_default c = λ (f : Frame). ap (λ (a : Result Counts Refusal). refused_frame (length_first (corrected_of a f).verdict) f) (sym c.in_default.is)

pub returns-then-from-gt-LENGTH : goal.returns-then-from-gt-LENGTH
unfolding corrected_of refused_frame refusal_verdict
returns-then-from-gt-LENGTH c =
    let r = c.in-Err.r in
    let rule = ap (λ (j : Judged). j.rule) c.from.ensures in
    λ (f : Frame). ap (λ (v : Verdict). refused_frame v f) (late_verdict (refusal_verdict r) (omega (arith, rule, c.if-from-gt-LENGTH.true)))
    ∙ ap (λ (a : Result Counts Refusal). refused_frame (length_first (corrected_of a f).verdict) f) (sym c.in-Err.is)

pub returns : goal.returns
unfolding corrected_of refused_frame verdict_of
returns c =
    let r = c.in-Err.r in
    let rule = ap (λ (j : Judged). j.rule) c.from.ensures in
    let early = early-verdict (refusal_verdict r) (refusal_refuses r) (omega (arith, rule, c.if-from-gt-LENGTH.false)) in
    λ (f : Frame). ap (λ (v : Verdict). refused_frame v f) early
    ∙ ap (λ (a : Result Counts Refusal). refused_frame (length_first (corrected_of a f).verdict) f) (sym c.in-Err.is)
