-- Demand 1 of the test load's calls from C: `number` and `place_of` of a call's verdict are what it answers and tells (contracts in src/loads.rt).
--   bauchleton_load_fill_demand1, bauchleton_load-errors_demand1, bauchleton_load_run_demand1   the calls
-- Assumes nothing.
use mathlib.Core.List.{List, [], ◌∷◌}
use Prim.Native.Nat.{ℕ}
use Rattle.staircase.specs.Load.{fill_call, errors_call, run_call}
use Rattle.staircase.proofs.Load.{fill_demand1, errors_demand1, run_demand1}
use Rattle.rules_verdict.specs.Number.{number, place_of}
use Rattle.rules_verdict.specs.Demand1.{Demand1C}
use Rattle.rules_verdict.proofs.Demand1.{demand1_number}

pub bauchleton_load_fill_demand1 : (m t M L seed : ℕ) (info : List ℕ)
    → Demand1C (1 ∷ 2 ∷ 3 ∷ 4 ∷ 6 ∷ []) (number (fill_call m t M 0 L seed info).verdict) (place_of (fill_call m t M 0 L seed info).verdict)
    (info ∷ []) ((fill_call m t M 0 L seed info).info ∷ [])
bauchleton_load_fill_demand1 m t M L seed info = demand1_number _ _ _ _ (fill_demand1 m t M 0 L seed info)

module _ (m t M L : ℕ) (info red : List ℕ) where
  pub bauchleton_load-errors_demand1 : (seed limit : ℕ)
      → Demand1C (1 ∷ 2 ∷ 3 ∷ 4 ∷ 6 ∷ 10 ∷ []) (number (errors_call m t M 0 L seed limit info red).verdict) (place_of (errors_call m t M 0 L seed limit info red).verdict)
      (info ∷ red ∷ []) ((errors_call m t M 0 L seed limit info red).frame.info ∷ (errors_call m t M 0 L seed limit info red).frame.red ∷ [])
  bauchleton_load-errors_demand1 seed limit = demand1_number _ _ _ _ (errors_demand1 m t M 0 L seed limit info red)

  pub bauchleton_load_run_demand1 : (place long : ℕ)
      → Demand1C (1 ∷ 2 ∷ 3 ∷ 4 ∷ 6 ∷ 10 ∷ []) (number (run_call m t M 0 L place long info red).verdict) (place_of (run_call m t M 0 L place long info red).verdict)
      (info ∷ red ∷ []) ((run_call m t M 0 L place long info red).frame.info ∷ (run_call m t M 0 L place long info red).frame.red ∷ [])
  bauchleton_load_run_demand1 place long = demand1_number _ _ _ _ (run_demand1 m t M 0 L place long info red)
