-- The maker's verdict as the host is told it, and the inverse that it leaves.
use mathlib.Core.List.{[], ◌∷◌}
use Rattle.staircase.specs.Rules.{Verdict}
use Rattle.rules_verdict.specs.Number.{number, place_of}
use Rattle.rules_verdict.proofs.Stores.{told_alike}
use Rattle.bauchleton.proofs.kits.bauchleton_make_inverse.Goals as goal

pub returns : goal.returns
returns c =
    let t = told_alike number (λ (v : Verdict). place_of v ∷ []) c.args.answer.now c.make_inverse-c.ensures.0 c.tell_check.ensures in
    (t.0, c.make_inverse-c.ensures.1, t.1)
