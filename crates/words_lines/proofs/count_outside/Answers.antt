-- The table of powers is made in a part of a local array.
use native.Mathlib.Omega.{arith}
use mathlib.Core.Path.{◌≡◌, ◌∙◌, subst⁻¹, subst₂}
use mathlib.Core.Bool.{false}
use Prim.Native.Nat.{ℕ, ◌*◌}
use lib.ListN.{length}
use Rattle.bch.specs.Code.{generator}
use Rattle.bch.specs.Powers.{PositionPowers}
use Rattle.design.specs.Sizes.{params_of}
use Rattle.layout.proofs.Layouts.{bits_highest, code_in}
use Rattle.words_positions.proofs.Parts.{part-is}
use Rattle.words_lines.specs.Words.{ReadTable}
use Rattle.words_lines.proofs.Tables.{ahead_table}
use Rattle.words_lines.proofs.count_outside.Goals as goal

pub slice_bounds-positions-end : goal.slice_bounds-positions-end
slice_bounds-positions-end c =
    let g = c.args.frames in
    omega (arith, c.word_bits-bits.ensures.0, bits_highest g.shape g.d c.requires.tail.allowed)

pub fill_code-requires : goal.fill_code-requires
fill_code-requires c =
    let g = c.args.frames in
    rw (c.m-m.ensures, c.t-t.ensures) (code_in g.shape g.d c.requires.tail.allowed)

pub count_filled-requires : goal.count_filled-requires
count_filled-requires c =
    let g = c.args.frames in
    let d = g.d in
    let x = c.fill_code in
    let n = c.word_bits-bits in
    let all : length x.new.positions ≡ n.result = omega arith in
    let made = subst₂ (λ (m t : ℕ). PositionPowers (generator m t) (m * t) x.new.positions) c.m-m.ensures c.t-t.ensures x.ensures.0 in
    (c.requires, subst⁻¹ (ReadTable g.shape (params_of d) false) (part-is x.new.positions _ _ all) (ahead_table g.shape (params_of d) _ made (all ∙ n.ensures.0)))
