-- The call ends at a refused design, at a refused length, or with the rules on what the kit holds.
use mathlib.Core.Path.{refl, sym, ap, ◌∙◌}
use lib.ListN.{length}
use Rattle.design.proofs.Answers.{made-allowed}
use Rattle.rules.specs.Lengths.{lengths_rule}
use Rattle.kit.proofs.KitCall.{kit-sized, kit_call, kit-judged}
use Rattle.answers.proofs.Checks.{refused_on, passed_then, check_passed}
use Rattle.kit.proofs.check_kit_col.Goals as goal

pub returns-in_err-d : goal.returns-in_err-d
returns-in_err-d c =
    let a = c.args in
    refused_on _ c.in_err-d.ensures.0 _ refl c.from_residual.ensures
    ∙ kit_call a.own.now a.parity.now a.inverse.now (length a.work.now) a.m a.t a.size a.col

pub returns-in_err-check_lengths : goal.returns-in_err-check_lengths
returns-in_err-check_lengths c =
    let a = c.args in
    let d = c.in_ok-d.ensures in
    let lengths = c.in_err-check_lengths.ensures ∙ ap (lengths_rule _) c.kit_due.ensures in
    kit-judged a.own.now a.parity.now a.inverse.now (length a.work.now) a.m a.t a.size a.col _ d.0 d.1 _
    (refused_on _ lengths _ refl c.from_residual-in_err-check_lengths.ensures)

pub check_content-requires : goal.check_content-requires
check_content-requires c =
    let a = c.args in
    let lengths = c.in_ok-check_lengths.ensures ∙ ap (lengths_rule _) c.kit_due.ensures in
    kit-sized _ a.own.now a.parity.now a.inverse.now a.work.now (made-allowed refl c.in_ok-d.ensures.2) (sym lengths ∙ check_passed refl)

pub returns : goal.returns
returns c =
    let a = c.args in
    let d = c.in_ok-d.ensures in
    let lengths = c.in_ok-check_lengths.ensures ∙ ap (lengths_rule _) c.kit_due.ensures in
    kit-judged a.own.now a.parity.now a.inverse.now (length a.work.now) a.m a.t a.size a.col _ d.0 d.1 _
    (c.check_content.ensures ∙ passed_then _ lengths refl)
