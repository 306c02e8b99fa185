-- The call ends at a refused design, at refused frames, or with the redundancy made.
use mathlib.Core.Path.{refl, sym, ◌∙◌}
use lib.ListN.{length}
use Rattle.design.proofs.Answers.{made-allowed}
use Rattle.encoder_batch.proofs.BatchCall.{encodable, batch-design, batch-frames, batch-made}
use Rattle.answers.specs.Answers.{verdict_of}
use Rattle.answers.proofs.Checks.{check_passed}
use Rattle.encoder_batch.proofs.encode_batch_col.Goals as goal

pub returns-in_err-d : goal.returns-in_err-d
returns-in_err-d c =
    let a = c.args in
    batch-design a.m a.t a.size a.col a.blocks a.frames a.own.now a.parity.now a.inverse.now a.info.now a.red.now (length a.work.now) _ _
    c.in_err-d.ensures.0 c.from_residual.ensures

pub check_frames-checked-requires : goal.check_frames-checked-requires
check_frames-checked-requires c = made-allowed refl c.in_ok-d.ensures.2

pub returns-in_default : goal.returns-in_default
returns-in_default c =
    let a = c.args in
    let w = c.in_ok-d.ensures in
    batch-frames a.m a.t a.size a.col a.blocks a.frames a.own.now a.parity.now a.inverse.now a.info.now a.red.now (length a.work.now) _ w.0 w.1
    _ _ c.check_frames-checked.ensures c.in_default.is

pub make_redundancy-requires : goal.make_redundancy-requires
make_redundancy-requires c =
    let a = c.args in
    encodable _ a.blocks a.frames a.own.now a.parity.now a.inverse.now a.info.now a.red.now (length a.work.now) (made-allowed refl c.in_ok-d.ensures.2)
    (sym c.check_frames-checked.ensures ∙ check_passed c.in-Ok.is)

pub returns : goal.returns
unfolding verdict_of
returns c =
    let a = c.args in
    let w = c.in_ok-d.ensures in
    batch-made a.m a.t a.size a.col a.blocks a.frames a.own.now a.parity.now a.inverse.now a.info.now a.red.now (length a.work.now) _ w.0 w.1
    _ (sym (check_passed c.in-Ok.is) ∙ c.check_frames-checked.ensures) (c.make_redundancy.ensures a.own.now)
