-- The numbers stand first in what is kept.
use native.Mathlib.Omega.{arith}
use mathlib.Core.Path.{◌∙◌, subst⁻¹, subst₂}
use mathlib.Core.Bool.{false}
use Prim.Native.Nat.{ℕ, ◌*◌}
use Rattle.bch.specs.Code.{generator}
use Rattle.bch.specs.Powers.{PositionPowers}
use Rattle.design.specs.Sizes.{params_of}
use Rattle.layout.proofs.Layouts.{bits_highest, code_in, size_highest}
use Rattle.words_positions.proofs.Parts.{part-is}
use Rattle.words_blocks.proofs.Sums.{part_length}
use Rattle.words_lines.specs.Words.{ReadTable}
use Rattle.words_lines.proofs.Tables.{ahead_table}
use Rattle.decoder_frame.proofs.Filling.{filled-front}
use Rattle.decoder_frame.proofs.fill_kept.Goals as goal

pub number_bytes-n-requires : goal.number_bytes-n-requires
number_bytes-n-requires c =
    let g = c.args.frames in
    (c.requires.0.tail.few-blocks, size_highest g.shape g.d c.requires.0.tail.allowed)

pub slice_bounds-positions-end : goal.slice_bounds-positions-end
slice_bounds-positions-end c =
    let g = c.args.frames in
    omega (arith, c.word_bits-bits.ensures.0, bits_highest g.shape g.d c.requires.0.tail.allowed)

pub fill_code-requires : goal.fill_code-requires
fill_code-requires c =
    let g = c.args.frames in
    rw (c.m-m.ensures, c.t-t.ensures) (code_in g.shape g.d c.requires.0.tail.allowed)

pub fill_numbers-requires : goal.fill_numbers-requires
fill_numbers-requires c =
    let g = c.args.frames in
    let d = g.d in
    let x = c.fill_code in
    let n = c.word_bits-bits in
    let N = c.number_bytes-n in
    let small = bits_highest g.shape d c.requires.0.tail.allowed in
    let all = x.ensures.1 ∙ part_length _ 0 n.result n.result (omega arith) (omega (arith, n.ensures.0, small)) in
    let made = subst₂ (λ (m t : ℕ). PositionPowers (generator m t) (m * t) x.new.positions) c.m-m.ensures c.t-t.ensures x.ensures.0 in (
      c.requires.0,
      subst⁻¹ (ReadTable g.shape (params_of d) false) (part-is x.new.positions _ _ all) (ahead_table g.shape (params_of d) _ made (all ∙ n.ensures.0)),
      part_length c.args.kept.now 0 N.result N.result (omega arith) (omega (arith, N.ensures.0, c.requires.1)) ∙ N.ensures.0,
    )

pub returns : goal.returns
returns c =
    let a = c.args in
    let N = c.number_bytes-n in
    let made = c.fill_numbers in
    filled-front a.frames a.own.now a.parity.now _ a.kept.now made.new.numbers N.result N.ensures.0
    (omega (arith, N.ensures.0, c.requires.1)) made.ensures.0 made.ensures.1
