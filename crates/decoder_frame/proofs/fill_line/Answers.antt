-- The remainders stand in a part of a local array, and become the numbers of the line.
use native.Mathlib.Omega.{arith}
use mathlib.Core.Path.{◌≡◌, refl, sym, ap, ◌∙◌, subst}
use mathlib.Core.Bool.{Bool}
use Prim.Native.Nat.{ℕ, ◌-◌, ◌*◌}
use lib.ListN.{length, take, drop}
use lib.Seq.{length-take-le}
use Rattle.staircase.specs.Frame.{frame_of}
use Rattle.staircase.proofs.Bounds.{small_product, stretch-end}
use Rattle.staircase.proofs.Tabulate.{tabulate-length}
use Rattle.design.specs.Sizes.{params_of}
use Rattle.layout.specs.declared.Line.{Line}
use Rattle.layout.specs.Layouts.{lines_in}
use Rattle.layout.proofs.Layouts.{size_highest, lines-most, taken_turned}
use Rattle.words_positions.proofs.Parts.{part-fits, part-is}
use Rattle.words_lines.specs.Words.{layout_with, line_remainders, ReadTable}
use Rattle.words_lines.proofs.Lines.{LineLent}
use Rattle.decoder_frame.proofs.Filling.{line-passed, line_stored}
use Rattle.decoder_frame.proofs.fill_line.Goals as goal

pub returns-then-not-taken : goal.returns-then-not-taken
returns-then-not-taken c =
    let a = c.args in (
      refl,
      line-passed a.at a.own.now a.parity.now (frame_of a.info.now a.red.now) a.numbers.now
          (sym c.taken.ensures ∙ c.if-not-taken.true),
    )

pub overflow_mul-from : goal.overflow_mul-from
overflow_mul-from c =
    let g = c.args.at.pass.frames in
    let k = c.args.at.k in
    let p = c.requires in
    omega (
      arith,
      small_product k c.size-size.result 4097 500 (omega (arith, p.1, p.0.tail.few-blocks, lines-most g.shape g.blocks))
          (omega (arith, c.size-size.ensures, size_highest g.shape g.d p.0.tail.allowed)),
    )

pub slice_bounds-sums-end : goal.slice_bounds-sums-end
slice_bounds-sums-end c =
    let g = c.args.at.pass.frames in
    omega (arith, c.size-size.ensures, c.sum_entries-sums.ensures, size_highest g.shape g.d c.requires.0.tail.allowed)

pub line_remainders-requires : goal.line_remainders-requires
line_remainders-requires c =
    let a = c.args in
    let p = c.requires in
    let g = a.at.pass.frames in
    let size = c.size-size in
    let entries = c.sum_entries-sums in
    let high = size_highest g.shape g.d p.0.tail.allowed in
    let long = length-take-le (size.result - 0) entries.result (omega (arith, size.ensures, entries.ensures, high)) in
    let is = taken_turned g.shape (params_of g.d) a.at.pass.back a.at.k (sym c.taken.ensures ∙ c.if-not-taken.false) in
    subst (λ (z : Line). LineLent z a.own.now a.parity.now a.info.now a.red.now a.positions.now a.tables.now
    (length (take (size.result - 0) entries.result))) (sym c.line_at-line.ensures)
    (p.0, p.1, subst (λ (b : Bool). ReadTable g.shape (params_of g.d) b a.positions.now) is p.2, omega (arith, long, size.ensures), p.4)

pub slice_bounds-put_numbers-end : goal.slice_bounds-put_numbers-end
slice_bounds-put_numbers-end c =
    let made = c.line_remainders in
    let S = made.new.sums in
    let long : length S ≡ c.size-size.result =
    ap length made.ensures.0 ∙ tabulate-length _ _ ∙ ap (λ (z : Line). z.frames.d.size) c.line_at-line.ensures ∙ sym c.size-size.ensures in
    part-fits S _ _ long

pub put_numbers-requires : goal.put_numbers-requires
put_numbers-requires c =
    let p = c.requires in
    let a = c.args in
    let g = a.at.pass.frames in
    let M = g.d.size in
    let made = c.line_remainders in
    let S = made.new.sums in
    let n = c.size-size.result in
    let E = drop (n - 0) c.sum_entries-sums.result in
    let long : length S ≡ n =
    ap length made.ensures.0 ∙ tabulate-length _ _ ∙ ap (λ (z : Line). z.frames.d.size) c.line_at-line.ensures ∙ sym c.size-size.ensures in
    let lent = ap length (part-is S E n long) ∙ long ∙ c.size-size.ensures in
    let e = stretch-end a.at.k (lines_in g.shape g.blocks) M p.1 in
    let high = size_highest g.shape g.d p.0.tail.allowed in
    let b = small_product (lines_in g.shape g.blocks) M 4097 500 (omega (arith, p.0.tail.few-blocks, lines-most g.shape g.blocks)) high in
    let from : a.at.k * n ≡ a.at.k * M = ap (λ (z : ℕ). a.at.k * z) c.size-size.ensures in
    (omega (arith, lent, e, from, p.3), omega (arith, b, p.3))

pub returns : goal.returns
returns c =
    let a = c.args in
    let g = a.at.pass.frames in
    let f = frame_of a.info.now a.red.now in
    let made = c.line_remainders in
    let S = made.new.sums in
    let size = c.size-size in
    let put = c.put_numbers in
    let is : S ≡ line_remainders (layout_with g a.own.now a.parity.now) f a.at.k =
    subst (λ (z : Line). S ≡ line_remainders (layout_with z.frames a.own.now a.parity.now) f z.k) c.line_at-line.ensures made.ensures.0 in (
      put.ensures.long,
      line_stored a.at a.own.now a.parity.now f S (drop (size.result - 0) c.sum_entries-sums.result) a.numbers.now put.new.numbers size.result
          (a.at.k * size.result) size.ensures (ap (λ (z : ℕ). a.at.k * z) size.ensures)
          (sym c.taken.ensures ∙ c.if-not-taken.false) is put.ensures,
    )
