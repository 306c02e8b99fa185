-- The call ends at a refused design, at a refused buffer, or with the encoding.
use mathlib.Core.Path.{refl, sym, ◌∙◌}
use Rattle.answers.proofs.Checks.{check_passed}
use Rattle.design.proofs.Answers.{made_original}
use Rattle.original_encoder.proofs.EncodeCall.{information_fits, encode-design, encode-refused, encode-made}
use Rattle.original_encoder.proofs.encode_col.Goals as goal

pub returns-in_err-d : goal.returns-in_err-d
returns-in_err-d c =
    let a = c.args in
    encode-design a.m a.t a.size a.col a.blocks a.buffer.now _ c.in_err-d.ensures.0 c.from_residual.result refl c.from_residual.ensures

pub check_information-requires : goal.check_information-requires
check_information-requires c = made_original refl c.in_ok-d.ensures.2

pub returns-in_err-check_information : goal.returns-in_err-check_information
returns-in_err-check_information c =
    let a = c.args in
    let x = c.from_residual-in_err-check_information in
    encode-refused a.m a.t a.size a.col a.blocks a.buffer.now _ c.in_ok-d.ensures.0 c.in_ok-d.ensures.1 _ refl _ c.in_err-check_information.ensures
    x.result refl x.ensures.1

pub encode_buffer-requires : goal.encode_buffer-requires
encode_buffer-requires c =
    let a = c.args in
    information_fits _ (made_original refl c.in_ok-d.ensures.2) a.blocks a.buffer.now (sym c.in_ok-check_information.ensures ∙ check_passed refl)

pub returns : goal.returns
returns c =
    let a = c.args in
    encode-made a.m a.t a.size a.col a.blocks a.buffer.now _ c.in_ok-d.ensures.0 c.in_ok-d.ensures.1 _ refl _ c.in_ok-check_information.ensures
    _ refl c.encode_buffer.ensures
