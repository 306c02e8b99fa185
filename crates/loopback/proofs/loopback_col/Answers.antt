-- A refusal of rules 1 to 5 is the answer, then one of the encoder; else the decoder's answer is the answer.
use mathlib.Core.Path.{refl, sym, ap, ◌∙◌}
use mathlib.Core.List.{◌++◌}
use Prim.Native.Nat.{◌+◌, ◌-◌, ◌/◌, ◌≤◌}
use native.Mathlib.Omega.{arith}
use lib.ListN.{length, drop}
use Rattle.staircase.specs.Rules.{word_work, decoder_work}
use Rattle.staircase.specs.Calls.{Encoded}
use Rattle.answers.proofs.Checks.{check_passed}
use Rattle.loopback.proofs.TwoCalls.{decode-same, part_length, front_call, loopback_numbers, loopback_encoder, small-frame, own-length, working_fits, decoder_lent, loopback_decoded}
use Rattle.loopback.proofs.loopback_col.Goals as goal

pub returns-in_err-check_numbers : goal.returns-in_err-check_numbers
returns-in_err-check_numbers c =
    let a = c.args in
    loopback_numbers a.m a.t a.size a.col a.blocks a.rounds a.own.now a.parity.now a.inverse.now a.info_errors.now a.red_errors.now
    a.info.now a.red.now (length a.work.now) c.from_residual.result _ c.in_err-check_numbers.ensures refl c.from_residual.ensures

pub kept_bytes-kept-requires : goal.kept_bytes-kept-requires
kept_bytes-kept-requires c =
    let a = c.args in
    let ok = sym c.in_ok-check_numbers.ensures ∙ check_passed refl in
    let h = small-frame a.m a.t a.size a.col a.blocks a.rounds a.own.now a.parity.now a.inverse.now a.info_errors.now a.red_errors.now
    a.info.now a.red.now (length a.work.now) ok in
    (h.0, h.1)

pub returns-in_err-encode_col : goal.returns-in_err-encode_col
returns-in_err-encode_col c =
    let a = c.args in
    let ok = sym c.in_ok-check_numbers.ensures ∙ check_passed refl in
    let call = front_call a.m a.t a.size a.col a.blocks a.own.now a.parity.now a.inverse.now a.info.now a.red.now a.work.now c.saturating_sub-front.ensures c.kept_bytes-kept.ensures.0 in
    let e = c.in_err-encode_col.ensures in
    let y = c.from_residual-in_err-encode_col in
    loopback_encoder a.m a.t a.size a.col a.blocks a.rounds a.own.now a.parity.now a.inverse.now a.info_errors.now a.red_errors.now
    a.info.now a.red.now (length a.work.now) ok y.result _ _
    (e.0 ∙ ap (λ (x : Encoded). x.verdict) call) (e.1 ∙ ap (λ (x : Encoded). x.red) call) refl y.ensures.1

pub overflow_add-n : goal.overflow_add-n
overflow_add-n c =
    let a = c.args in
    let ok = sym c.in_ok-check_numbers.ensures ∙ check_passed refl in
    let call = front_call a.m a.t a.size a.col a.blocks a.own.now a.parity.now a.inverse.now a.info.now a.red.now a.work.now c.saturating_sub-front.ensures c.kept_bytes-kept.ensures.0 in
    let v = sym (c.in_ok-encode_col.ensures.0 ∙ ap (λ (x : Encoded). x.verdict) call) ∙ check_passed refl in
    let own = own-length a.m a.t a.size a.col a.blocks a.rounds a.own.now a.parity.now a.inverse.now a.info_errors.now a.red_errors.now
    a.info.now a.red.now (length a.work.now) ok v in
    let small = small-frame a.m a.t a.size a.col a.blocks a.rounds a.own.now a.parity.now a.inverse.now a.info_errors.now a.red_errors.now
    a.info.now a.red.now (length a.work.now) ok in
    omega (arith, c.kept_bytes-kept.ensures.1, own, small.2)

pub slice_bounds-decode_col-end : goal.slice_bounds-decode_col-end
slice_bounds-decode_col-end c =
    let a = c.args in
    let ok = sym c.in_ok-check_numbers.ensures ∙ check_passed refl in
    let call = front_call a.m a.t a.size a.col a.blocks a.own.now a.parity.now a.inverse.now a.info.now a.red.now a.work.now c.saturating_sub-front.ensures c.kept_bytes-kept.ensures.0 in
    let v = sym (c.in_ok-encode_col.ensures.0 ∙ ap (λ (x : Encoded). x.verdict) call) ∙ check_passed refl in
    let W = c.encode_col.new.work in
    let n = length a.own.now / 2 + c.kept_bytes-kept.result in
    let q = decoder_lent a.m a.t a.size a.col a.blocks a.rounds a.own.now a.parity.now a.inverse.now a.info_errors.now a.red_errors.now a.info.now a.red.now (length a.work.now) ok v refl c.kept_bytes-kept.ensures.0 in
    let fits : n ≤ length (W ++ drop (c.saturating_sub-front.result - 0) a.work.now) = omega (arith, q, working_fits a.m a.t a.size a.col a.blocks a.rounds a.own.now a.parity.now a.inverse.now a.info_errors.now a.red_errors.now a.info.now a.red.now (length a.work.now) ok v) in
    fits

pub returns : goal.returns
unfolding decoder_work word_work
returns c =
    let a = c.args in
    let ok = sym c.in_ok-check_numbers.ensures ∙ check_passed refl in
    let call = front_call a.m a.t a.size a.col a.blocks a.own.now a.parity.now a.inverse.now a.info.now a.red.now a.work.now c.saturating_sub-front.ensures c.kept_bytes-kept.ensures.0 in
    let v = sym (c.in_ok-encode_col.ensures.0 ∙ ap (λ (x : Encoded). x.verdict) call) ∙ check_passed refl in
    let W = c.encode_col.new.work in
    let n = length a.own.now / 2 + c.kept_bytes-kept.result in
    let q = decoder_lent a.m a.t a.size a.col a.blocks a.rounds a.own.now a.parity.now a.inverse.now a.info_errors.now a.red_errors.now a.info.now a.red.now (length a.work.now) ok v refl c.kept_bytes-kept.ensures.0 in
    let fits : n ≤ length (W ++ drop (c.saturating_sub-front.result - 0) a.work.now) = omega (arith, q, working_fits a.m a.t a.size a.col a.blocks a.rounds a.own.now a.parity.now a.inverse.now a.info_errors.now a.red_errors.now a.info.now a.red.now (length a.work.now) ok v) in
    let same = decode-same a.m a.t a.size a.col a.blocks a.rounds a.own.now a.parity.now c.turn_bits.ensures c.turn_bits-2.ensures
    (part_length (W ++ drop (c.saturating_sub-front.result - 0) a.work.now) n fits) in
    loopback_decoded a.m a.t a.size a.col a.blocks a.rounds a.own.now a.parity.now a.inverse.now a.info_errors.now a.red_errors.now
    a.info.now a.red.now (length a.work.now) ok v _ _ n
    (c.in_ok-encode_col.ensures.1 ∙ ap (λ (x : Encoded). x.red) call) q (c.decode_col.ensures ∙ same)
