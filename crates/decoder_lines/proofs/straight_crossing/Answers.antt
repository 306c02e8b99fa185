-- The tests say which stretch a position is in.
use mathlib.Core.Path.{sym, ap, ◌∙◌}
use Prim.Native.Nat.{ℕ, ◌+◌, ◌-◌, ◌*◌}
use native.Mathlib.Omega.{arith}
use lib.ListN.{get_or}
use Rattle.staircase.specs.Lines.{incidence}
use Rattle.design.specs.Sizes.{params_of}
use Rattle.decoder_lines.specs.Links.{lists_in}
use Rattle.decoder_lines.proofs.Links.{links_long}
use Rattle.layout.proofs.Layouts.{crossing-first, crossing-second}
use Rattle.decoder_lines.proofs.Layouts.{size-high, bits-high, lines-few, lawful_of, tail-allowed, tail-bits, tail-crossing}
use Rattle.decoder_lines.proofs.CrossingWord.{red-place, at_row, at-column}
use Rattle.decoder_lines.proofs.straight_crossing.Goals as goal

pub returns-then-p-size : goal.returns-then-p-size
returns-then-p-size c =
    let a = c.args in
    let fr = a.line.frames in
    ap (λ (z : ℕ). incidence (a.line.k - 1) a.p (z + a.a)) c.size-size.ensures
    ∙ sym (crossing-first (params_of fr.d) (lists_in fr.d a.links.now) a.line.k a.a a.p fr.shape (omega (arith, c.if-p-size.true, c.size-size.ensures)))

pub overflow_add-result-then-p-size-2 : goal.overflow_add-result-then-p-size-2
overflow_add-result-then-p-size-2 c = omega (arith, c.requires.0.within, lines-few c.requires.0.frames)

pub returns-then-p-size-2 : goal.returns-then-p-size-2
returns-then-p-size-2 c =
    let a = c.args in
    let fr = a.line.frames in
    ap (λ (z : ℕ). incidence (a.line.k + 1) (a.p - z) a.a) c.size-size.ensures
    ∙ sym (crossing-second (params_of fr.d) (lists_in fr.d a.links.now) a.line.k a.a a.p fr.shape
    (omega (arith, c.if-p-size.false, c.size-size.ensures)) (omega (arith, c.if-p-size-2.true, c.size-size.ensures)))

pub place-q-requires : goal.place-q-requires
place-q-requires c =
    let F = c.requires.0.frames in
    (omega (arith, bits-high F, c.requires.2), omega (arith, size-high F, c.size-size.ensures), omega (arith, size-high F, c.requires.1))

pub link_at-f-requires : goal.link_at-f-requires
link_at-f-requires c =
    let a = c.args in
    let F = c.requires.0.frames in
    let M = c.size-size.ensures in
    let low = rw M at c.if-p-size-2.false in
    let T = (tail-allowed F a.p low c.requires.2).1 in
    let fit = red-place a.line.frames.d a.line.k T a.a a.p c.place-q.result c.requires.1 low (tail-bits F a.p low c.requires.2) (rw M at c.place-q.ensures.0) in
    omega (arith, fit, links_long T)

pub red_bit-requires : goal.red_bit-requires
red_bit-requires c =
    let F = c.requires.0.frames in
    (omega (arith, c.size-size.ensures, (lawful_of F).some), omega (arith, c.size-size.ensures, size-high F), c.link_at-f.ensures.1)

pub returns-then-k-eq0 : goal.returns-then-k-eq0
returns-then-k-eq0 c =
    let a = c.args in
    let F = c.requires.0.frames in
    let d = a.line.frames.d in
    let M = c.size-size.ensures in
    let low = rw M at c.if-p-size-2.false in
    let T = (tail-allowed F a.p low c.requires.2).1 in
    rw M at c.red_bit.ensures
    ∙ at_row d a.line.k T a.a a.p c.place-q.result c.requires.1 low (tail-bits F a.p low c.requires.2) (rw M at c.place-q.ensures.0) c.if-k-eq0.true c.link_at-f.ensures.0
    ∙ tail-crossing F a.p low c.requires.2 (lists_in d a.links.now) a.line.k a.a

pub link_at-f-requires-2 : goal.link_at-f-requires-2
link_at-f-requires-2 c =
    let a = c.args in
    let F = c.requires.0.frames in
    let M = c.size-size.ensures in
    let low = rw M at c.if-p-size-2.false in
    let T = (tail-allowed F a.p low c.requires.2).1 in
    let fit = red-place a.line.frames.d a.line.k T a.a a.p c.place-q.result c.requires.1 low (tail-bits F a.p low c.requires.2) (rw M at c.place-q.ensures.0) in
    omega (arith, fit, links_long T, c.order.ensures.0)

pub red_bit-requires-2 : goal.red_bit-requires-2
red_bit-requires-2 c =
    let F = c.requires.0.frames in
    (omega (arith, c.size-size.ensures, (lawful_of F).some), omega (arith, c.size-size.ensures, size-high F), c.link_at-f-2.ensures.1)

pub returns : goal.returns
returns c =
    let a = c.args in
    let F = c.requires.0.frames in
    let d = a.line.frames.d in
    let M = c.size-size.ensures in
    let low = rw M at c.if-p-size-2.false in
    let T = (tail-allowed F a.p low c.requires.2).1 in
    let f = c.link_at-f-2.ensures.0 ∙ ap (λ (n : ℕ). get_or a.links.now (2 * n + c.place-q.result) 0) c.order.ensures.0 in
    rw M at c.red_bit-2.ensures
    ∙ at-column d a.line.k T a.a a.p c.place-q.result c.requires.1 low (tail-bits F a.p low c.requires.2) (rw M at c.place-q.ensures.0) c.if-k-eq0.false f
    ∙ tail-crossing F a.p low c.requires.2 (lists_in d a.links.now) a.line.k a.a
