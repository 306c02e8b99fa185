-- A line's words are among the frame's.
use mathlib.Core.Path.{◌≡◌, ap}
use Prim.Native.Nat.{ℕ, ◌+◌, ◌*◌}
use native.Mathlib.Omega.{arith}
use Rattle.staircase.proofs.Bounds.{small_product, stretch-end}
use Rattle.layout.specs.Layouts.{lines_in}
use Rattle.layout.proofs.Layouts.{lines-most}
use Rattle.layout.proofs.word_number.Goals as goal

pub overflow_mul-result : goal.overflow_mul-result
overflow_mul-result c =
    let line = c.args.line in
    let few = lines-most line.frames.shape line.frames.blocks in
    omega (arith, small_product line.k c.size.result 4097 500 (omega (arith, c.requires.0, c.requires.1, few)) (omega (arith, c.size.ensures, c.requires.2)))

pub overflow_add-result : goal.overflow_add-result
overflow_add-result c =
    let line = c.args.line in
    let few = lines-most line.frames.shape line.frames.blocks in
    omega (arith, small_product line.k c.size.result 4097 500 (omega (arith, c.requires.0, c.requires.1, few)) (omega (arith, c.size.ensures, c.requires.2)))

pub returns : goal.returns
returns c =
    let a = c.args in
    let p = c.requires in
    let M = a.line.frames.d.size in
    let few = lines-most a.line.frames.shape a.line.frames.blocks in
    let e = small_product a.line.k M 4097 500 (omega (arith, p.0, p.1, few)) p.2 in
    let g = stretch-end a.line.k (lines_in a.line.frames.shape a.line.frames.blocks) M p.0 in
    let s : a.line.k * c.size.result + a.a ≡ a.line.k * M + a.a = ap (λ (z : ℕ). a.line.k * z + a.a) c.size.ensures in
    (s, omega (arith, s, g, p.3), omega (arith, s, e, p.2, p.3))
