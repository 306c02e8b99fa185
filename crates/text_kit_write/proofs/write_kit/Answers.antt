-- The call ends at a refused design, at a refused kit or buffer, or with the text written.
use mathlib.Core.Path.{sym, ◌∙◌}
use lib.ListN.{length}
use Rattle.answers.proofs.Checks.{handed_on, check_passed}
use Rattle.design.proofs.Answers.{made-allowed}
use Rattle.text_kit_write.proofs.WriteCall.{text-fits, write_design, write_refused, write_made}
use Rattle.text_kit_write.proofs.write_kit.Goals as goal

pub returns-in_err-d : goal.returns-in_err-d
returns-in_err-d c =
    let a = c.args in
    write_design a.m a.t a.size a.own.now a.parity.now a.inverse.now a.text.now c.new.result c.new.ensures.0 _ c.in_err-d.was
    (handed_on _ c.from_residual.ensures.1)

pub check_text-requires : goal.check_text-requires
check_text-requires c = made-allowed c.in_ok-d.was c.new.ensures.2

pub returns-in_err-check_text : goal.returns-in_err-check_text
returns-in_err-check_text c =
    let a = c.args in
    let new = c.new in
    write_refused a.m a.t a.size a.own.now a.parity.now a.inverse.now a.text.now new.result new.ensures.0 new.ensures.1 _ c.in_ok-d.was
    c.check_text.result
    c.check_text.ensures _
    c.in_err-check_text.was
    (handed_on _ c.from_residual-in_err-check_text.ensures.1)

pub put_kit-requires : goal.put_kit-requires
put_kit-requires c =
    let a = c.args in
    let passed = sym c.check_text.ensures ∙ check_passed c.in_ok-check_text.was in
    let fits = text-fits _ _ _ _ a.own.now a.parity.now a.inverse.now (length a.text.now) passed in
    record { allowed = (made-allowed c.in_ok-d.was c.new.ensures.2, fits.0); text_len = fits.1 }

pub returns : goal.returns
returns c =
    let new = c.new in
    let a = c.args in
    write_made a.m a.t a.size a.own.now a.parity.now a.inverse.now a.text.now new.result new.ensures.0 new.ensures.1 _ c.in_ok-d.was
    c.check_text.result
    c.check_text.ensures _
    c.in_ok-check_text.was
    c.put_kit.ensures
