-- Demand 1 of the calls on an order, on the sizes of an original frame and on plain buffers: `number` and `place_of` of a call's verdict are what it answers
-- and tells (contracts in src/lengths.rt and src/buffers.rt).
--   bauchleton_order_demand1, bauchleton_original_sizes_demand1, bauchleton_differences_demand1, bauchleton_load-errors-buffer_demand1   the calls
-- Assumes nothing.
use mathlib.Core.Path.{refl}
use mathlib.Core.List.{List, [], ◌∷◌}
use Prim.Native.Nat.{ℕ}
use native.Mathlib.Omega.{arith}
use lib.ListN.{length}
use Rattle.staircase.specs.Rules.{design_rules, count_rule}
use Rattle.staircase.proofs.Demand1.{by_table_then, count-by_table, length-by_table, design_demand1}
use Rattle.original.specs.Rules.{original_rules}
use Rattle.original.proofs.Demand1.{original_by_table}
use Rattle.load.specs.Buffer.{errors_buffer}
use Rattle.load.proofs.Demand1.{errors-buffer_demand1}
use Rattle.rules_verdict.specs.Number.{number, place_of}
use Rattle.rules_verdict.specs.Demand1.{Demand1C}
use Rattle.rules_verdict.proofs.Demand1.{demand1_number}
use Rattle.bauchleton.specs.OriginalSizes.{original_sizes_verdict}
use Rattle.bauchleton.specs.Buffers.{differences_verdict}

pub bauchleton_order_demand1 : (m t M : ℕ) → Demand1C (1 ∷ 2 ∷ 3 ∷ []) (number (design_rules m t M 0)) (place_of (design_rules m t M 0)) [] []
bauchleton_order_demand1 m t M = demand1_number _ _ _ _ (design_demand1 m t M 0)

pub bauchleton_original_sizes_demand1 : (m t M L : ℕ)
    → Demand1C (1 ∷ 2 ∷ 4 ∷ 19 ∷ []) (number (original_sizes_verdict m t M L)) (place_of (original_sizes_verdict m t M L)) [] []
bauchleton_original_sizes_demand1 m t M L =
    demand1_number _ _ _ _
    (record {
      by_table =
          by_table_then (1 ∷ 2 ∷ 4 ∷ 19 ∷ []) (original_rules m t M 0) (count_rule L) (original_by_table (1 ∷ 2 ∷ 4 ∷ 19 ∷ []) refl refl refl m t M 0)
          (λ e. count-by_table (1 ∷ 2 ∷ 4 ∷ 19 ∷ []) refl L);
      untouched = λ h. refl;
    })

pub bauchleton_differences_demand1 : (a b : List ℕ) → Demand1C (6 ∷ []) (number (differences_verdict a b)) (place_of (differences_verdict a b)) [] []
bauchleton_differences_demand1 a b =
    demand1_number _ _ _ _
    (record {
      by_table = length-by_table (6 ∷ []) refl 4 (length b) (length a) (omega arith) (omega arith);
      untouched = λ h. refl;
    })

pub bauchleton_load-errors-buffer_demand1 : (seed limit : ℕ) (l : List ℕ)
    → Demand1C (10 ∷ []) (number (errors_buffer seed limit l).verdict) (place_of (errors_buffer seed limit l).verdict) (l ∷ [])
    ((errors_buffer seed limit l).info ∷ [])
bauchleton_load-errors-buffer_demand1 seed limit l = demand1_number _ _ _ _ (errors-buffer_demand1 seed limit l)
