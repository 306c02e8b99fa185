-- The table is made in a part of a local array.
use native.Mathlib.Omega.{arith}
use mathlib.Core.Path.{◌≡◌, ◌∙◌, subst⁻¹}
use mathlib.Core.Bool.{true}
use mathlib.Core.List.{List}
use Prim.Native.Nat.{ℕ}
use lib.ListN.{length}
use Rattle.design.specs.Sizes.{params_of}
use Rattle.layout.specs.Layouts.{tail_in}
use Rattle.layout.proofs.Layouts.{bits_highest}
use Rattle.words_blocks.proofs.Sums.{part_length}
use Rattle.words_tables.specs.Tables.{MayParts}
use Rattle.words_positions.proofs.Parts.{part-is}
use Rattle.words_lines.specs.Words.{ReadTable}
use Rattle.decoder_frame.proofs.fill_back.Goals as goal

pub slice_bounds-back-end : goal.slice_bounds-back-end
slice_bounds-back-end c =
    let g = c.args.frames in
    omega (arith, c.requires.1.long, bits_highest g.shape g.d c.requires.0.tail.allowed)

pub turn_tables-requires : goal.turn_tables-requires
turn_tables-requires c =
    let a = c.args in
    let p = c.requires in
    let n = length a.positions.now in
    let small = bits_highest a.frames.shape a.frames.d p.0.tail.allowed in
    (p.0.tail.allowed, p.1, part_length _ 0 n n (omega arith) (omega (arith, p.1.long, small)), p.3.long)

pub fill_pass-requires : goal.fill_pass-requires
fill_pass-requires c =
    let a = c.args in
    let p = c.requires in
    let g = a.frames in
    let x = c.turn_tables in
    let n = length a.positions.now in
    let small = bits_highest g.shape g.d p.0.tail.allowed in
    let all : length x.new.back ≡ n = x.ensures.2 ∙ part_length _ 0 n n (omega arith) (omega (arith, p.1.long, small)) in
    let same = part-is x.new.back _ n all in (
      p.0,
      subst⁻¹ (ReadTable g.shape (params_of g.d) true) same x.ensures.0,
      p.2,
      subst⁻¹ (λ (t : List ℕ). MayParts t g.d.size (tail_in g.shape (params_of g.d)) x.new.tables) same x.ensures.1,
    )
