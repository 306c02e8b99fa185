-- The call ends at a refused design, at one of its checks, or after the rounds of its window.
use mathlib.Core.Path.{refl, sym, ◌∙◌}
use native.Mathlib.Omega.{arith}
use lib.ListN.{length}
use Rattle.answers.proofs.Checks.{refused_on, passed_then, check_passed}
use Rattle.design.proofs.Answers.{made-allowed}
use Rattle.rules.proofs.Accepted.{decoder_received, decoder-work, decoder_rounds}
use Rattle.words.specs.Checks.{received_rules}
use Rattle.decoder.specs.Answers.{copy_rules}
use Rattle.decoder.proofs.DecodeCall.{answer_design, answer_frame, answer_done, last_refused, call_accepted, window-fits}
use Rattle.decoder.proofs.answer_call.Goals as goal

pub returns-in_err-d : goal.returns-in_err-d
returns-in_err-d c =
    let a = c.args in
    answer_design a.call a.own.now a.parity.now a.info.now a.red.now (length a.work.now) _ c.in_err-d.ensures.0 _ refl c.from_residual.ensures

pub returns-in_err-call : goal.returns-in_err-call
returns-in_err-call c =
    let a = c.args in
    let x = c.from_residual-in_err-call in
    answer_frame a.call a.own.now a.parity.now a.info.now a.red.now (length a.work.now) _ c.in_ok-d.ensures.0 c.in_ok-d.ensures.1 _ refl
    _ _ x.ensures.1 (refused_on _ refl _ c.in_err-call.was x.ensures)

pub check_copy-requires : goal.check_copy-requires
check_copy-requires c = made-allowed refl c.in_ok-d.ensures.2

pub returns-in_err-check_copy : goal.returns-in_err-check_copy
returns-in_err-check_copy c =
    let a = c.args in
    let x = c.from_residual-in_err-check_copy in
    answer_frame a.call a.own.now a.parity.now a.info.now a.red.now (length a.work.now) _ c.in_ok-d.ensures.0 c.in_ok-d.ensures.1 _ refl
    _ _ x.ensures.1 (refused_on _ c.in_err-check_copy.ensures _ refl x.ensures ∙ passed_then _ refl c.in_ok-call.was)

pub returns-in_err-call-2 : goal.returns-in_err-call-2
returns-in_err-call-2 c =
    let a = c.args in
    let x = c.from_residual-in_err-call-2 in
    answer_frame a.call a.own.now a.parity.now a.info.now a.red.now (length a.work.now) _ c.in_ok-d.ensures.0 c.in_ok-d.ensures.1 _ refl
    _ _ x.ensures.1 (last_refused _ c.in_err-call-2.was x.ensures.1 ∙ passed_then _ c.in_ok-check_copy.ensures refl ∙ passed_then _ refl c.in_ok-call.was)

pub window_of-window-requires : goal.window_of-window-requires
unfolding copy_rules received_rules
window_of-window-requires c =
    let a = c.args in
    let allowed = made-allowed refl c.in_ok-d.ensures.2 in
    let e = sym c.in_ok-check_copy.ensures ∙ check_passed refl in (
      (decoder_received _ a.call.blocks a.call.rounds a.own.now a.parity.now a.info.now a.red.now (length a.work.now) allowed e).few-blocks,
      decoder_rounds _ a.call.blocks a.call.rounds a.own.now a.parity.now a.info.now a.red.now (length a.work.now) allowed e,
    )

pub correct_frame-requires : goal.correct_frame-requires
unfolding copy_rules received_rules
correct_frame-requires c =
    let a = c.args in
    let allowed = made-allowed refl c.in_ok-d.ensures.2 in
    let e = sym c.in_ok-check_copy.ensures ∙ check_passed refl in
    let received = decoder_received _ a.call.blocks a.call.rounds a.own.now a.parity.now a.info.now a.red.now (length a.work.now) allowed e in
    let w = c.window_of-window in (
      received,
      omega (arith, decoder-work _ a.call.blocks a.call.rounds a.own.now a.parity.now a.info.now a.red.now (length a.work.now) allowed e),
      window-fits a.call.blocks a.call.rounds a.call.window w.result w.ensures.0 received.some-blocks
          (c.requires (check_passed c.in_ok-call.was) received.some-blocks) w.ensures.1 w.ensures.2,
    )

pub returns : goal.returns
returns c =
    let a = c.args in
    let w = c.window_of-window in
    answer_done a.call a.own.now a.parity.now a.info.now a.red.now (length a.work.now) _ c.in_ok-d.ensures.0 c.in_ok-d.ensures.1 _ refl
    _ w.result (call_accepted a.call _ a.own.now a.parity.now a.info.now a.red.now (length a.work.now) _ c.in_ok-check_copy.ensures c.in_ok-call.was refl c.in_ok-call-2.was)
    w.ensures.0 c.correct_frame.ensures
