-- A refusal of rule 4 is the answer; else that of rule 6, for the information's due length.
use mathlib.Core.Path.{refl, sym, ap, ◌∙◌}
use Prim.Native.Nat.{ℕ}
use lib.ListN.{length}
use Rattle.staircase.specs.Rules.{length_rule}
use Rattle.staircase.proofs.Rules.{count_limits}
use Rattle.answers.proofs.Checks.{refused_on, passed_then, check_passed}
use Rattle.rules.specs.declared.lengths.Lengths.{Lengths}
use Rattle.rules.specs.Lengths.{frame_due}
use Rattle.load.specs.Checks.{fill_rules}
use Rattle.load.proofs.check_info.Goals as goal

pub returns-in_err-check_count : goal.returns-in_err-check_count
unfolding fill_rules
returns-in_err-check_count c = refused_on _ c.in_err-check_count.ensures _ refl c.from_residual.ensures

pub returns : goal.returns
unfolding fill_rules frame_due
returns c =
    let a = c.args in
    let count = c.in_ok-check_count.ensures in
    let few = (count_limits a.blocks (sym count ∙ check_passed refl)).1 in
    c.check_length.ensures
    ∙ ap (λ (n : ℕ). length_rule 4 (length a.info.now) n) (ap (λ (y : Lengths). y.info) (c.frame_due-due.ensures few))
    ∙ passed_then _ count refl
