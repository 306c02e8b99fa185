-- Laws of what a host is told of a design that was made.
--   made_told   some numbers of it
-- Assumes nothing.
use Rattle.answers.specs.declared.Refusal.{Refusal}
use Rattle.std.specs.Prelude.{Ok, Result}
use mathlib.Core.Path.{◌≡◌, ap, ◌∙◌}
use mathlib.Core.List.{List, ◌∷◌}
use Prim.Native.Nat.{ℕ}
use Rattle.staircase.specs.Design.{Params, params}
use Rattle.staircase.specs.Rules.{Verdict}
use Rattle.staircase.specs.Rules.Verdict.{accepted}
use Rattle.design.specs.declared.Design.{Design}
use Rattle.design.specs.Answers.{DesignIs}
use Rattle.design.specs.Sizes.{params_of}
use Rattle.design.proofs.Answers.{made-params}
use Rattle.rules_verdict.specs.Number.{number, told}
use Rattle.bauchleton.specs.Answers.{answer_by}
use Rattle.bauchleton.proofs.Answers.{accepted-told}

pub made_told : (f : Params → List ℕ) (m t M : ℕ) (old : List ℕ) {x : Result Design Refusal} {d : Design} {v : Verdict} {l k : List ℕ} {a : ℕ}
    → x ≡ Ok d → DesignIs x m t M 0 → accepted ≡ v → l ≡ f (params_of d) → (a ≡ 0) × (k ≡ told (0 ∷ l) old)
    → (a ≡ number v) × (k ≡ told (answer_by v (f (params m t M 0))) old)
made_told f m t M old g is e q h =
    accepted-told (f (params m t M 0)) old e (h.0, h.1 ∙ ap (λ (z : List ℕ). told (0 ∷ z) old) (q ∙ ap f (made-params g m t M 0 is)))
