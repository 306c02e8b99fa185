-- The call ends at a refused design, at a refused buffer, or after the rounds.
use mathlib.Core.Path.{refl, sym, ◌∙◌}
use lib.ListN.{length}
use Rattle.answers.proofs.Checks.{check_passed}
use Rattle.design.proofs.Answers.{made_original}
use Rattle.original_decoder.proofs.DecodeCall.{decode-fits, decode-design, decode-refused, decode-done}
use Rattle.original_decoder.proofs.decode_col.Goals as goal

pub returns-in_err-d : goal.returns-in_err-d
returns-in_err-d c =
    let a = c.args in
    decode-design a.m a.t a.size a.col a.blocks a.rounds a.buffer.now (length a.work.now) _ c.in_err-d.ensures.0 c.from_residual.result refl c.from_residual.ensures

pub returns-in_err-check_received : goal.returns-in_err-check_received
returns-in_err-check_received c =
    let a = c.args in
    let x = c.from_residual-in_err-check_received in
    decode-refused a.m a.t a.size a.col a.blocks a.rounds a.buffer.now (length a.work.now) _ c.in_ok-d.ensures.0 c.in_ok-d.ensures.1 _ refl
    _ c.in_err-check_received.ensures x.result refl x.ensures.1

pub rounds_allowed-limit-requires : goal.rounds_allowed-limit-requires
rounds_allowed-limit-requires c =
    let a = c.args in
    (decode-fits _ (made_original refl c.in_ok-d.ensures.2) a.blocks a.rounds a.buffer.now (length a.work.now)
    (sym c.in_ok-check_received.ensures ∙ check_passed refl)).few-rounds

pub correct_buffer-requires : goal.correct_buffer-requires
correct_buffer-requires c =
    let a = c.args in
    let D = decode-fits _ (made_original refl c.in_ok-d.ensures.2) a.blocks a.rounds a.buffer.now (length a.work.now)
    (sym c.in_ok-check_received.ensures ∙ check_passed refl) in
    let limit = c.rounds_allowed-limit.ensures in
    (D.fits, D.room, limit.2, limit.1)

pub returns : goal.returns
returns c =
    let a = c.args in
    let limit = c.rounds_allowed-limit in
    decode-done a.m a.t a.size a.col a.blocks a.rounds a.buffer.now (length a.work.now) _ c.in_ok-d.ensures.0 c.in_ok-d.ensures.1 _ refl
    _ c.in_ok-check_received.ensures _ limit.result refl limit.ensures.0 limit.ensures.2 c.correct_buffer.ensures
