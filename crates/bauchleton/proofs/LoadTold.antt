-- Laws of what the calls that start from a seed tell.
--   load_told   a call that starts from a seed
-- Assumes nothing.
use mathlib.Core.Path.{◌≡◌, ap, ap₂, ◌∙◌}
use mathlib.Core.List.{List, [], ◌∷◌}
use Prim.Native.Nat.{ℕ}
use Rattle.staircase.specs.Rules.{Verdict}
use Rattle.rules_verdict.specs.Number.{number, place_of, told}

-- v and s are what the call answers, w and z what its definition says
pub load_told : (l : List ℕ) {v w : Verdict} {s z a : ℕ} {k : List ℕ} → v ≡ w → s ≡ z → (a ≡ number v) × (k ≡ told (place_of v ∷ s ∷ []) l)
    → (a ≡ number w) × (k ≡ told (place_of w ∷ z ∷ []) l)
load_told l e f h = (h.0 ∙ ap number e, h.1 ∙ ap₂ (λ (x : Verdict) (n : ℕ). told (place_of x ∷ n ∷ []) l) e f)
