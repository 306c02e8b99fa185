-- The space is there, and the bits follow it.
use Rattle.text_frame_fill.proofs.Filling.{byte_there}
use Rattle.text_formats.specs.Items.{bits, Passes}
use native.Mathlib.Omega.{arith}
use mathlib.Core.Path.{sym, subst, ◌∙◌}
use lib.ListN.{length}
use Rattle.text_frame_fill.proofs.fill_part.Goals as goal

pub overflow_add-at : goal.overflow_add-at
overflow_add-at c =
    let a = c.args in
    omega (arith, (byte_there 32 (bits (length a.out.now)) a.s.now a.at (omega arith) c.requires).0)

pub fill_bits-requires : goal.fill_bits-requires
fill_bits-requires c =
    let a = c.args in
    subst Passes (byte_there 32 (bits (length a.out.now)) a.s.now a.at (omega arith) c.requires).1 c.requires

pub returns : goal.returns
returns c =
    let a = c.args in
    c.fill_bits.ensures ∙ sym (byte_there 32 (bits (length a.out.now)) a.s.now a.at (omega arith) c.requires).1
