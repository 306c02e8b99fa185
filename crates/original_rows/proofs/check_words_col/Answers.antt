-- The call ends at a refused design, at a refused buffer, or with the count.
use mathlib.Core.Path.{refl, sym, ◌∙◌}
use Rattle.answers.proofs.Checks.{check_passed}
use Rattle.design.proofs.Answers.{made_original}
use Rattle.original_rows.proofs.Checked.{received_fits, words-design, words_received, words-counted}
use Rattle.original_rows.proofs.check_words_col.Goals as goal

pub returns-in_err-d : goal.returns-in_err-d
returns-in_err-d c =
    let a = c.args in
    words-design a.m a.t a.size a.col a.blocks a.buffer.now _ c.in_err-d.ensures.0 c.from_residual.result refl c.from_residual.ensures

pub returns-in_err-check_received : goal.returns-in_err-check_received
returns-in_err-check_received c =
    let a = c.args in
    let x = c.from_residual-in_err-check_received in
    words_received a.m a.t a.size a.col a.blocks a.buffer.now _ c.in_ok-d.ensures.0 c.in_ok-d.ensures.1 _ refl _ c.in_err-check_received.ensures
    x.result refl x.ensures.1

pub count_outside-requires : goal.count_outside-requires
count_outside-requires c =
    let a = c.args in
    received_fits _ (made_original refl c.in_ok-d.ensures.2) a.blocks a.buffer.now (sym c.in_ok-check_received.ensures ∙ check_passed refl)

pub returns : goal.returns
returns c =
    let a = c.args in
    words-counted a.m a.t a.size a.col a.blocks a.buffer.now _ c.in_ok-d.ensures.0 c.in_ok-d.ensures.1 _ refl _ c.in_ok-check_received.ensures
    c.count_outside.result refl c.count_outside.ensures
