-- The verdict as the host is told it, and the lists that the call leaves.
use mathlib.Core.List.{[], ◌∷◌}
use Rattle.staircase.specs.Rules.{Verdict}
use Rattle.rules_verdict.specs.Number.{number, place_of}
use Rattle.rules_verdict.proofs.Stores.{told_alike}
use Rattle.bauchleton.proofs.kits.bauchleton_spread_lists.Goals as goal

pub returns : goal.returns
returns c =
    let a = c.args in
    let t = told_alike number (λ (v : Verdict). place_of v ∷ []) a.answer.now c.spread_lists-c.ensures.0 c.tell_check.ensures in
    (t.0, c.spread_lists-c.ensures.1, c.spread_lists-c.ensures.2, t.1)
