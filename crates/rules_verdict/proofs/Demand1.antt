-- Demand 1 of a call from C, by that of the call that it makes.
--   demand1_number     the number and the place of a verdict
-- Assumes nothing.
use mathlib.Core.Path.{◌≡◌, sym, ap, subst}
use mathlib.Core.Bool.{true}
use mathlib.Core.Logic.{◌⊎◌, inl, inr}
use mathlib.Core.List.{List}
use Prim.Native.Nat.{ℕ}
use Rattle.staircase.specs.Rules.{Verdict}
use Rattle.staircase.specs.Demand1.{Table, among, ByTable, worked, refused_by, Demand1}
use Rattle.rules_verdict.specs.Number.{number, place_of}
use Rattle.rules_verdict.specs.Demand1.{Demand1C}

pub demand1_number : (rules : List ℕ) (v : Verdict) (lent left : List (List ℕ)) → Demand1 rules v lent left
    → Demand1C rules (number v) (place_of v) lent left
unfolding number place_of
demand1_number rules v lent left D =
    record {
      by_table = told v D.by_table;
      untouched = λ h. D.untouched (λ e. h (ap number e));
    }
  where
    told : (u : Verdict) → ByTable rules u → ((number u ≡ 0) × (place_of u ≡ 0)) ⊎ ((among (number u) rules ≡ true) × Table (number u) (place_of u))
    told u (worked e) = inl (ap number e, ap place_of e)
    told u (refused_by n p e a t) =
        inr (subst (λ (w : Verdict). (among (number w) rules ≡ true) × Table (number w) (place_of w)) (sym e) (a, t))
