-- A frame is a batch of one.
use mathlib.Core.Path.{ap, ◌∙◌}
use lib.ListN.{length}
use Rattle.staircase.specs.Calls.{Encoded}
use Rattle.staircase.proofs.Batch.{batch_single}
use Rattle.encoder.proofs.encode_col.Goals as goal

pub returns : goal.returns
returns c =
    let a = c.args in
    let made = c.encode_batch_col.ensures in
    let one = batch_single a.m a.t a.size a.col a.blocks a.own.now a.parity.now a.inverse.now a.info.now a.red.now (length a.work.now) in
    (made.0 ∙ ap (λ (x : Encoded). x.verdict) one, made.1 ∙ ap (λ (x : Encoded). x.red) one)
