-- The call ends at a refused design, at a refused frame, or with the count.
use mathlib.Core.Path.{refl, sym, ◌∙◌}
use native.Mathlib.Nat.{le_refl}
use lib.ListN.{length}
use Rattle.staircase.specs.Rules.{word_work}
use Rattle.design.proofs.Answers.{made-allowed}
use Rattle.rules.specs.Lengths.{lists_due}
use Rattle.rules.proofs.Accepted.{received}
use Rattle.words.specs.Checks.{received_rules}
use Rattle.words.proofs.WordsCall.{lists_asked, received_due, words-design, words-frame, words-counted}
use Rattle.answers.proofs.Checks.{check_passed}
use Rattle.words.proofs.check_words_col.Goals as goal

pub returns-in_err-d : goal.returns-in_err-d
returns-in_err-d c =
    let a = c.args in
    words-design a.m a.t a.size a.col a.blocks a.own.now a.parity.now a.info.now a.red.now (length a.work.now)
    _ c.in_err-d.ensures.0 c.from_residual.result refl c.from_residual.ensures

pub check_received-requires : goal.check_received-requires
unfolding lists_due word_work
check_received-requires c = (made-allowed refl c.in_ok-d.ensures.2, λ h. lists_asked c.in_ok-d.d _ c.lists_due.ensures (le_refl _))

pub returns-in_err-check_received : goal.returns-in_err-check_received
returns-in_err-check_received c =
    let a = c.args in
    words-frame a.m a.t a.size a.col a.blocks a.own.now a.parity.now a.info.now a.red.now (length a.work.now)
    _ c.in_ok-d.ensures.0 c.in_ok-d.ensures.1 _ refl _
    (received_due _ a.blocks 0 a.own.now a.parity.now a.info.now a.red.now (length a.work.now) _ (λ h. c.lists_due.ensures) c.in_err-check_received.ensures)
    c.from_residual-in_err-check_received.result refl c.from_residual-in_err-check_received.ensures.1

pub count_received-requires : goal.count_received-requires
unfolding received_rules
count_received-requires c =
    let a = c.args in
    let e = sym (received_due _ a.blocks 0 a.own.now a.parity.now a.info.now a.red.now (length a.work.now) _ (λ h. c.lists_due.ensures) c.in_ok-check_received.ensures) ∙ check_passed refl in
    let allowed = made-allowed refl c.in_ok-d.ensures.2 in
    received _ a.blocks 0 a.own.now a.parity.now a.info.now a.red.now (length a.work.now) allowed e

pub returns : goal.returns
returns c =
    let a = c.args in
    words-counted a.m a.t a.size a.col a.blocks a.own.now a.parity.now a.info.now a.red.now (length a.work.now)
    _ c.in_ok-d.ensures.0 c.in_ok-d.ensures.1 _ refl _
    (received_due _ a.blocks 0 a.own.now a.parity.now a.info.now a.red.now (length a.work.now) _ (λ h. c.lists_due.ensures) c.in_ok-check_received.ensures)
    c.count_received.result refl c.count_received.ensures
