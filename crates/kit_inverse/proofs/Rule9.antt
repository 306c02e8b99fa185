-- Rule 9 by the first wrong entry of A W.
--   inverse-refused   it refuses at that entry
--   inverse-passed    it accepts
-- Assumes nothing.
use mathlib.Core.Path.{◌≡◌, sym, ap, ◌∙◌, subst}
use mathlib.Core.List.{List}
use Prim.Native.Nat.{ℕ, ◌*◌, ◌≤◌, ◌<◌}
use native.Mathlib.Nat.{zero-add}
use Rattle.staircase.specs.Lists.{first_where}
use Rattle.staircase.specs.Design.{Params, Interleavers, order}
use Rattle.staircase.specs.System.{system_entry, inverse_entry}
use Rattle.staircase.specs.Rules.{wrong_entry, inverse_rule}
use Rattle.staircase.specs.Rules.Verdict.{accepted, refused}
use Rattle.staircase.proofs.Rules.{refuse_first-at, refuse_first-past}

-- `all` is the number of entries, x the first wrong one
module _ (s : Params) (l : Interleavers) (w : List ℕ) (all : ℕ) (square : all ≡ order s * order s)
    (x : ℕ) (e : x ≡ first_where (order s * order s) (wrong_entry (order s) (system_entry s l) (inverse_entry w (order s)))) where
  abbrev n : ℕ
  n = order s

  pub inverse-refused : x < all → refused 9 x ≡ inverse_rule s l w
  unfolding inverse_rule
  inverse-refused h =
      ap (refused 9) (sym (zero-add x))
      ∙ refuse_first-at 9 0 (n * n) (wrong_entry n (system_entry s l) (inverse_entry w n)) x e (subst (λ (z : ℕ). x < z) square h)

  pub inverse-passed : all ≤ x → accepted ≡ inverse_rule s l w
  unfolding inverse_rule
  inverse-passed h = refuse_first-past 9 0 (n * n) (wrong_entry n (system_entry s l) (inverse_entry w n)) x e (subst (λ (z : ℕ). z ≤ x) square h)
