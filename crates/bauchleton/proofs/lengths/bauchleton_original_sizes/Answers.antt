-- The design and the number of blocks are refused, or the lengths are told.
use mathlib.Core.Path.{sym, ◌∙◌}
use mathlib.Core.List.{[], ◌∷◌}
use Rattle.staircase.specs.Design.{Params, params}
use Rattle.answers.specs.Answers.{refusal_verdict}
use Rattle.answers.proofs.Checks.{refusal_refuses, check_passed}
use Rattle.rules.specs.Lengths.{original_decoder_due}
use Rattle.rules_verdict.proofs.Stores.{judged-told}
use Rattle.bauchleton.specs.Answers.{zeros}
use Rattle.bauchleton.specs.OriginalSizes.{original_lengths}
use Rattle.bauchleton.proofs.Answers.{refused-told, refusal_of}
use Rattle.bauchleton.proofs.MadeTold.{made_told}
use Rattle.bauchleton.proofs.lengths.bauchleton_original_sizes.Goals as goal

pub returns-in-Ok : goal.returns-in-Ok
unfolding original_decoder_due
returns-in-Ok c =
    let a = c.args in
    let made = c.original_design in
    let is = c.in-Ok.is in
    let due = c.original_decoder_due-due.ensures (rw is at made.ensures.count) in
    let r = c.r.ensures.0 in
    let n = c.row_bits.ensures.0 in
    made_told (λ (s : Params). original_lengths s a.blocks) a.m a.t a.size a.answer.now is made.ensures.numbers
    (sym (check_passed is) ∙ made.ensures.verdict)
    (λ i. r i ∷ n i ∷ (due i).info ∷ (due i).work ∷ []) c.tell.ensures

pub returns-in-Err : goal.returns-in-Err
unfolding zeros
returns-in-Err c =
    let a = c.args in
    let r = c.in-Err.r in
    refused-told (original_lengths (params a.m a.t a.size 0) a.blocks) a.answer.now (refusal_verdict r) (refusal_refuses r)
    (refusal_of c.in-Err.is ∙ c.original_design.ensures.verdict)
    (judged-told (0 ∷ 0 ∷ 0 ∷ 0 ∷ []) a.answer.now (refusal_verdict r) c.from.ensures c.tell-in-Err.ensures)
