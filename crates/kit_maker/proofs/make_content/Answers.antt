-- A refusal of rule 7 is the answer; lists that pass are permutations, which the system asks for.
use mathlib.Core.Path.{refl, sym, ◌∙◌}
use Rattle.staircase.proofs.Rules.{lists_permute}
use Rattle.design.specs.Sizes.{params_of, lists_of}
use Rattle.answers.proofs.Checks.{refused_on, passed_then, check_passed}
use Rattle.rules.proofs.OfDesign.{lists-rule}
use Rattle.kit_maker.specs.Making.{SystemFits}
use Rattle.kit_maker.proofs.MakeCall.{made-refused}
use Rattle.kit_maker.proofs.make_content.Goals as goal

pub returns-in_err-check_lists : goal.returns-in_err-check_lists
returns-in_err-check_lists c =
    let a = c.args in
    let o = c.order-n in
    let h = c.from_residual.ensures in
    let lists = lists-rule a.d o.result o.ensures.0 a.own.now a.parity.now c.in_err-check_lists.ensures in
    (refused_on _ lists _ refl h, made-refused _ _ h _ _)

pub invert_system-requires : goal.invert_system-requires
invert_system-requires c =
    let a = c.args in
    let h = c.requires in
    let o = c.order-n in
    let lists = lists-rule a.d o.result o.ensures.0 a.own.now a.parity.now c.in_ok-check_lists.ensures in
    let l = lists_of a.d a.own.now a.parity.now in
    let p = lists_permute (params_of a.d) l (sym lists ∙ check_passed refl) in
    let fits : SystemFits a.d a.own.now a.parity.now a.work.now = record {
      allowed = h.allowed;
      own_length = h.own_length;
      parity_length = h.parity_length;
      work_length = h.work_length;
      own_permutes = p.0;
      parity_permutes = p.1;
    } in
    (fits, h.inverse_length)

pub returns : goal.returns
returns c =
    let a = c.args in
    let o = c.order-n in
    let i = c.invert_system in
    let lists = lists-rule a.d o.result o.ensures.0 a.own.now a.parity.now c.in_ok-check_lists.ensures in
    (i.ensures.0 ∙ passed_then _ lists refl, i.ensures.1)
