-- A refusal of rule 7, 8 or 10 is the answer; lists that pass are permutations, which rule 9 asks for.
use mathlib.Core.Path.{refl, sym, ◌∙◌}
use Rattle.staircase.specs.Rules.{list_rule}
use Rattle.staircase.proofs.Rules.{then_first, lists_permute}
use Rattle.design.specs.Sizes.{params_of, lists_of}
use Rattle.answers.proofs.Checks.{refused_on, passed_then, check_passed}
use Rattle.rules.specs.Bytes.{byte_rules}
use Rattle.rules.proofs.Chain.{content-rules}
use Rattle.kit.proofs.check_content.Goals as goal

pub returns-in_err-check_bytes : goal.returns-in_err-check_bytes
returns-in_err-check_bytes c =
    let a = c.args in
    refused_on _ c.in_err-check_bytes.ensures _ refl c.from_residual.ensures
    ∙ content-rules (params_of a.d) (lists_of a.d a.own.now a.parity.now) a.inverse.now a.info.now

pub check_inverse-requires : goal.check_inverse-requires
unfolding byte_rules
check_inverse-requires c =
    let a = c.args in
    let h = c.requires in
    let l = lists_of a.d a.own.now a.parity.now in
    let p = lists_permute (params_of a.d) l (then_first (list_rule (params_of a.d) l) _ (sym c.in_ok-check_bytes.ensures ∙ check_passed refl)) in
    record { sized = h; own_permutes = p.0; parity_permutes = p.1 }

pub returns : goal.returns
returns c =
    let a = c.args in
    c.check_inverse.ensures ∙ passed_then _ c.in_ok-check_bytes.ensures refl
    ∙ content-rules (params_of a.d) (lists_of a.d a.own.now a.parity.now) a.inverse.now a.info.now
