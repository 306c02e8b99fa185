-- The remainders stand in a part of a local array.
use native.Mathlib.Omega.{arith}
use mathlib.Core.Path.{◌≡◌, sym, ap, ◌∙◌, subst}
use mathlib.Core.Bool.{Bool}
use Prim.Native.Nat.{◌-◌}
use lib.ListN.{length, take, drop}
use lib.Seq.{length-take-le}
use Rattle.staircase.specs.Frame.{frame_of}
use Rattle.staircase.proofs.Tabulate.{tabulate-length}
use Rattle.design.specs.Sizes.{params_of}
use Rattle.layout.specs.declared.Line.{Line}
use Rattle.layout.proofs.Layouts.{size_highest, taken_turned}
use Rattle.words_positions.proofs.Parts.{part-is}
use Rattle.words_lines.specs.Words.{nonzeros, layout_with, line_remainders, ReadTable}
use Rattle.words_lines.proofs.Lines.{LineLent}
use Rattle.words_lines.proofs.Count.{remainders_outside, not_taken, line_taken}
use Rattle.words_lines.proofs.count_line.Goals as goal

pub returns-then-not-taken : goal.returns-then-not-taken
returns-then-not-taken c =
    let a = c.args in
    let g = a.at.pass.frames in (
      not_taken g.shape (layout_with g a.own.now a.parity.now) (frame_of a.info.now a.red.now) a.at.pass.back a.at.k
          (sym c.taken.ensures ∙ c.if-not-taken.true),
      omega arith,
    )

pub slice_bounds-sums-end : goal.slice_bounds-sums-end
slice_bounds-sums-end c =
    let g = c.args.at.pass.frames in
    omega (arith, c.size-size.ensures, c.sum_entries-sums.ensures, size_highest g.shape g.d c.requires.0.tail.allowed)

pub line_remainders-requires : goal.line_remainders-requires
line_remainders-requires c =
    let a = c.args in
    let p = c.requires in
    let g = a.at.pass.frames in
    let size = c.size-size in
    let entries = c.sum_entries-sums in
    let high = size_highest g.shape g.d p.0.tail.allowed in
    let long = length-take-le (size.result - 0) entries.result (omega (arith, size.ensures, entries.ensures, high)) in
    let is = taken_turned g.shape (params_of g.d) a.at.pass.back a.at.k (sym c.taken.ensures ∙ c.if-not-taken.false) in
    subst (λ (z : Line). LineLent z a.own.now a.parity.now a.info.now a.red.now a.positions.now a.tables.now (length (take (size.result - 0) entries.result))) (sym c.line_at-line.ensures)
    (p.0, p.1, subst (λ (b : Bool). ReadTable g.shape (params_of g.d) b a.positions.now) is p.2, omega (arith, long, size.ensures), p.3)

pub returns : goal.returns
returns c =
    let a = c.args in
    let p = c.requires in
    let g = a.at.pass.frames in
    let f = frame_of a.info.now a.red.now in
    let G = layout_with g a.own.now a.parity.now in
    let made = c.line_remainders in
    let S = made.new.sums in
    let n = c.size-size.result in
    let E = drop (n - 0) c.sum_entries-sums.result in
    let is : S ≡ line_remainders G f a.at.k =
    subst (λ (z : Line). S ≡ line_remainders (layout_with z.frames a.own.now a.parity.now) f z.k) c.line_at-line.ensures made.ensures.0 in
    let long : length S ≡ n = ap length is ∙ tabulate-length g.d.size _ ∙ sym c.size-size.ensures in
    let same = part-is S E n long in
    let count = c.count_nonzero in
    let high = size_highest g.shape g.d p.0.tail.allowed in (
      count.ensures.0 ∙ ap nonzeros (same ∙ is) ∙ remainders_outside (params_of g.d) f g.d.size (G.sites a.at.k)
          ∙ line_taken g.shape G f a.at.pass.back a.at.k (sym c.taken.ensures ∙ c.if-not-taken.false),
      omega (arith, count.ensures.1, ap length same, long, c.size-size.ensures, high),
    )
