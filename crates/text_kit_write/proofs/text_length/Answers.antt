-- The call ends at a refused design, at refused lists, or with the length.
use mathlib.Core.Path.{sym, ◌∙◌}
use Rattle.staircase.proofs.Rules.{list-lengths}
use Rattle.answers.proofs.Checks.{handed_on, check_passed}
use Rattle.design.proofs.Answers.{made-allowed}
use Rattle.text_kit_write.proofs.WriteCall.{measure_design, measure_lists, measure_made}
use Rattle.text_kit_write.proofs.text_length.Goals as goal

pub returns-in_err-d : goal.returns-in_err-d
returns-in_err-d c =
    let a = c.args in
    measure_design a.m a.t a.size a.own.now a.parity.now c.new.result c.new.ensures.0 _ c.in_err-d.was (handed_on _ c.from_residual.ensures.1)

pub returns-in_err-check_list_lengths : goal.returns-in_err-check_list_lengths
returns-in_err-check_list_lengths c =
    let a = c.args in
    let new = c.new in
    measure_lists a.m a.t a.size a.own.now a.parity.now new.result new.ensures.0 new.ensures.1 _ c.in_ok-d.was
    c.check_list_lengths.result
    c.check_list_lengths.ensures _
    c.in_err-check_list_lengths.was
    (handed_on _ c.from_residual-in_err-check_list_lengths.ensures.1)

pub kit_length-requires : goal.kit_length-requires
kit_length-requires c =
    let a = c.args in
    let passed = sym c.check_list_lengths.ensures ∙ check_passed c.in_ok-check_list_lengths.was in
    let l = list-lengths _ a.own.now a.parity.now passed in
    (made-allowed c.in_ok-d.was c.new.ensures.2, l.0, l.1)

pub returns : goal.returns
returns c =
    let a = c.args in
    let new = c.new in
    measure_made a.m a.t a.size a.own.now a.parity.now new.result new.ensures.0 new.ensures.1 _ c.in_ok-d.was
    c.check_list_lengths.result
    c.check_list_lengths.ensures
    c.kit_length.result
    c.in_ok-check_list_lengths.was
    c.kit_length.ensures
