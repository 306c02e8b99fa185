-- The writer's verdict as the host is told it, and the text that it leaves.
use mathlib.Core.List.{[], ◌∷◌}
use Rattle.staircase.specs.Rules.{Verdict}
use Rattle.rules_verdict.specs.Number.{number, place_of}
use Rattle.rules_verdict.proofs.Stores.{told_alike, judged-told}
use Rattle.bauchleton_text.proofs.writing.bauchleton_write_kit.Goals as goal

pub returns : goal.returns
returns c =
    let l = c.args.answer.now in
    let t = told_alike number (λ (v : Verdict). place_of v ∷ []) l c.write_kit-c.ensures.0 (judged-told [] l _ c.from.ensures c.tell.ensures) in
    (t.0, c.write_kit-c.ensures.1, t.1)
