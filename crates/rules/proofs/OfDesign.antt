-- Rules 7 and 8 for a design, by the order that code has.
--   lists-rule     rule 7
--   spare-rule     rule 8
-- Assumes nothing.
use mathlib.Core.Path.{◌≡◌, ap, ◌∙◌}
use mathlib.Core.List.{List}
use Prim.Native.Nat.{ℕ}
use Rattle.staircase.specs.Rules.{Verdict, ◌then◌, refuse_first, entries, bad_entry, list_rule, spare_row, spare_rule}
use Rattle.design.specs.declared.Design.{Design}
use Rattle.design.specs.Sizes.{params_of, order_of, lists_of}

module _ (d : Design) (n : ℕ) (e : n ≡ order_of d) where
  pub lists-rule : (own parity : List ℕ) {v : Verdict} → v ≡ (refuse_first 7 0 n (bad_entry n (entries n own)) then refuse_first 7 n n (bad_entry n (entries n parity)))
      → v ≡ list_rule (params_of d) (lists_of d own parity)
  unfolding list_rule
  lists-rule own parity h = h ∙ ap (λ (k : ℕ). refuse_first 7 0 k (bad_entry k (entries k own)) then refuse_first 7 k k (bad_entry k (entries k parity))) e

  pub spare-rule : (w : List ℕ) {v : Verdict} → v ≡ refuse_first 8 0 n (spare_row w n) → v ≡ spare_rule (params_of d) w
  unfolding spare_rule
  spare-rule w h = h ∙ ap (λ (k : ℕ). refuse_first 8 0 k (spare_row w k)) e
