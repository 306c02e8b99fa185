-- The call ends at a refused design, at a refused length, or with the rules on what the lists hold and the inverse.
use mathlib.Core.Path.{refl, sym, ap, ◌∙◌}
use lib.ListN.{length}
use Rattle.design.proofs.Answers.{made-allowed}
use Rattle.rules.specs.Lengths.{lengths_rule}
use Rattle.kit_maker.proofs.MakeCall.{make_sized, call_refused, call_lengths, call_made}
use Rattle.answers.proofs.Checks.{passed_then, check_passed}
use Rattle.kit_maker.proofs.make_inverse_col.Goals as goal

pub returns-in_err-d : goal.returns-in_err-d
returns-in_err-d c =
    let a = c.args in
    call_refused a.own.now a.parity.now a.inverse.now (length a.work.now) a.m a.t a.size a.col _ _ c.in_err-d.ensures.0 c.from_residual.ensures

pub returns-in_err-check_lengths : goal.returns-in_err-check_lengths
returns-in_err-check_lengths c =
    let a = c.args in
    let n = c.in_ok-d.ensures in
    let lengths = c.in_err-check_lengths.ensures ∙ ap (lengths_rule _) c.make_due.ensures in
    call_lengths a.own.now a.parity.now a.inverse.now (length a.work.now) a.m a.t a.size a.col _ _ n.0 n.1 _ lengths
    c.from_residual-in_err-check_lengths.ensures

pub make_content-requires : goal.make_content-requires
make_content-requires c =
    let a = c.args in
    let lengths = c.in_ok-check_lengths.ensures ∙ ap (lengths_rule _) c.make_due.ensures in
    make_sized _ a.own.now a.parity.now a.inverse.now a.work.now (made-allowed refl c.in_ok-d.ensures.2) (sym lengths ∙ check_passed refl)

pub returns : goal.returns
returns c =
    let a = c.args in
    let n = c.in_ok-d.ensures in
    let x = c.make_content in
    let lengths = c.in_ok-check_lengths.ensures ∙ ap (lengths_rule _) c.make_due.ensures in
    call_made a.own.now a.parity.now a.inverse.now (length a.work.now) a.m a.t a.size a.col _ _ n.0 n.1 _
    (x.ensures.0 ∙ passed_then _ lengths refl) x.ensures.1
