-- The two cases are laws of a design's answer.
use mathlib.Core.Path.{ap, ◌∙◌}
use mathlib.Core.List.{List, [], ◌∷◌}
use Prim.Native.Nat.{ℕ}
use Rattle.rules_verdict.specs.Number.{told}
use Rattle.rules_verdict.proofs.Stores.{judged-told}
use Rattle.bauchleton.proofs.Answers.{design-made, design-refused}
use Rattle.bauchleton.proofs.kits.bauchleton_design.Goals as goal

pub returns-in-Ok : goal.returns-in-Ok
returns-in-Ok c =
    let a = c.args in
    let q = design-made _ c.in-Ok.d a.m a.t a.size _ _ _ c.in-Ok.is c.new.ensures.0 c.new.ensures.1 c.r.ensures.0 c.n.ensures.0 c.k.ensures.0 in (
      c.tell.ensures.0 ∙ q.0,
      c.tell.ensures.1 ∙ ap (λ (l : List ℕ). told l a.answer.now) q.1,
    )

pub returns-in-Err : goal.returns-in-Err
returns-in-Err c =
    let a = c.args in
    let t = judged-told (0 ∷ 0 ∷ 0 ∷ []) a.answer.now _ c.from.ensures c.tell-in-Err.ensures in
    let q = design-refused _ c.in-Err.r a.m a.t a.size c.in-Err.is c.new.ensures.0 in
    (t.0 ∙ q.0, t.1 ∙ ap (λ (l : List ℕ). told l a.answer.now) q.1)
