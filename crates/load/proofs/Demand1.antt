-- Demand 1 of the call that turns bits of a plain buffer.
--   errors-buffer_demand1   the call
-- Assumes nothing.
use mathlib.Core.Path.{◌≡◌, refl, subst⁻¹}
use mathlib.Core.Logic.{◌≢◌}
use mathlib.Core.List.{List, [], ◌∷◌}
use Prim.Native.Nat.{ℕ}
use Rattle.staircase.specs.Rules.{Verdict, bit_rule}
use Rattle.staircase.specs.Rules.Verdict.{accepted, refused}
use Rattle.staircase.specs.Demand1.{ByTable, Demand1}
use Rattle.staircase.specs.Load.{filled_by}
use Rattle.staircase.proofs.Demand1.{bits-by_table}
use Rattle.load.specs.Buffer.{errors_buffer}

filled_by-verdict : (v : Verdict) (old new : List ℕ) (s : ℕ) → (filled_by v old new s).verdict ≡ v
filled_by-verdict accepted old new s = refl
filled_by-verdict (refused n p) old new s = refl

filled_by-untouched : (v : Verdict) (old new : List ℕ) (s : ℕ) → (filled_by v old new s).verdict ≢ accepted → (filled_by v old new s).info ∷ [] ≡ old ∷ []
filled_by-untouched accepted old new s h = absurd (h refl)
filled_by-untouched (refused n p) old new s h = refl

pub errors-buffer_demand1 : (seed limit : ℕ) (l : List ℕ)
    → Demand1 (10 ∷ []) (errors_buffer seed limit l).verdict (l ∷ []) ((errors_buffer seed limit l).info ∷ [])
unfolding errors_buffer
errors-buffer_demand1 seed limit l =
    record {
      by_table = subst⁻¹ (ByTable (10 ∷ [])) (filled_by-verdict (bit_rule 0 l) _ _ _) (bits-by_table (10 ∷ []) refl 0 l);
      untouched = filled_by-untouched (bit_rule 0 l) _ _ _;
    }
