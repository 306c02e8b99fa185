-- The arrays are long enough for the parts that are lent.
use mathlib.Core.Path.{◌≡◌, sym, ap, ◌∙◌}
use native.Mathlib.Omega.{arith}
use Rattle.staircase.specs.Rules.{decoder_work}
use Rattle.design.specs.Sizes.{params_of}
use Rattle.rules.specs.Lengths.{decoder_due}
use Rattle.rules.specs.declared.lengths.Lengths.{Lengths}
use Rattle.program.proofs.ProgramReady.{few-blocks, list_room, inverse-room, info-room, ready}
use Rattle.program_mend.proofs.Mending.{red-room, work-room}
use Rattle.program_mend.proofs.mend_arrays.Goals as goal

pub sizes_of-s-requires : goal.sizes_of-s-requires
sizes_of-s-requires c = few-blocks _ _ _ _ _ c.requires.scanned

pub list_bytes-own-requires : goal.list_bytes-own-requires
list_bytes-own-requires c = list_room _ _ _ _ _ c.requires.scanned _ c.sizes_of-s.ensures

pub matrix_bytes-inverse-requires : goal.matrix_bytes-inverse-requires
matrix_bytes-inverse-requires c = inverse-room _ _ _ _ _ c.requires.scanned _ c.sizes_of-s.ensures

pub working_bytes-work-requires : goal.working_bytes-work-requires
unfolding decoder_due
working_bytes-work-requires c =
    let a = c.args in
    let e : c.decoder_due-due.result.work ≡ decoder_work (params_of a.d) a.blocks = ap (λ (x : Lengths). x.work) (c.decoder_due-due.ensures (few-blocks _ _ _ _ _ c.requires.scanned)) in
    omega (arith, e, work-room _ _ _ _ c.requires.scanned)

pub text_bits-info-requires : goal.text_bits-info-requires
text_bits-info-requires c = info-room _ _ _ _ _ c.requires.scanned _ c.sizes_of-s.ensures

pub text_bits-red-requires : goal.text_bits-red-requires
text_bits-red-requires c = red-room _ _ _ _ c.requires.scanned _ c.sizes_of-s.ensures

pub mend_call-requires-clause-mend_ready : goal.mend_call-requires-clause-mend_ready
unfolding decoder_due
mend_call-requires-clause-mend_ready c =
    let a = c.args in
    let e : c.decoder_due-due.result.work ≡ decoder_work (params_of a.d) a.blocks =
    ap (λ (x : Lengths). x.work) (c.decoder_due-due.ensures (few-blocks _ _ _ _ _ c.requires.scanned)) in
    ready _ _ _ _ _ c.requires.scanned _ c.sizes_of-s.ensures _ _ _ _ _ _ _ c.list_bytes-own.ensures.1 c.list_bytes-parity.ensures.1
    c.matrix_bytes-inverse.ensures.1 c.text_bits-info.ensures.1 c.text_bits-red.ensures.1 (sym c.working_bytes-work.ensures.1 ∙ e)
