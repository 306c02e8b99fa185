-- The verdict as the host is told it, and the frame that is left.
use mathlib.Core.List.{[], ◌∷◌}
use Rattle.staircase.specs.Rules.{Verdict}
use Rattle.rules_verdict.specs.Number.{number, place_of}
use Rattle.rules_verdict.proofs.Stores.{told_alike}
use Rattle.bauchleton.proofs.loads.bauchleton_load_run.Goals as goal

pub returns : goal.returns
returns c =
    let e = c.run-c.ensures in
    let t = told_alike number (λ (v : Verdict). place_of v ∷ []) c.args.answer.now e.0 c.tell_check.ensures in
    (t.0, e.1, t.1)
