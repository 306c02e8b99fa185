-- The crossing word is found at the turned position, and its position is turned.
use mathlib.Core.Path.{sym, ap, ◌∙◌, subst}
use Prim.Native.Nat.{ℕ, ◌≤◌, ◌<◌}
use Rattle.design.specs.Sizes.{params_of}
use Rattle.decoder_lines.specs.Links.{lists_in}
use Rattle.layout.specs.Layouts.{bits_in, across_in}
use Rattle.decoder_lines.proofs.CrossingWord.{not_first, crossed_position, crossed_read}
use Rattle.decoder_lines.proofs.crossing_word.Goals as goal

pub straight_crossing-c-requires : goal.straight_crossing-c-requires
straight_crossing-c-requires c =
    let a = c.args in
    let h = c.requires in
    let q = c.turned_position-q.ensures in
    let first = not_first h.0 a.a a.p h.1 h.2 h.3 in
    (h.0, h.1, q.1, subst (λ (z : ℕ). z < a.line.frames.d.size → 1 ≤ a.line.k) (sym q.0) first)

pub turned_position-at-requires : goal.turned_position-at-requires
turned_position-at-requires c =
    let a = c.args in
    let h = c.requires in
    let f = a.line.frames in
    let q = c.turned_position-q.ensures in
    let e = c.straight_crossing-c.ensures ∙ ap (across_in f.shape (params_of f.d) (lists_in f.d a.links.now) a.line.k a.a) q.0 in
    crossed_position h.0 a.a a.p h.1 h.2 h.3 e (subst (λ (z : ℕ). z < bits_in f.shape (params_of f.d)) q.0 q.1)

pub returns : goal.returns
returns c =
    let a = c.args in
    let h = c.requires in
    let f = a.line.frames in
    let e = c.straight_crossing-c.ensures ∙ ap (across_in f.shape (params_of f.d) (lists_in f.d a.links.now) a.line.k a.a) c.turned_position-q.ensures.0 in
    crossed_read h.0 a.a a.p h.1 h.2 h.3 e c.turned_position-at.result c.turned_position-at.ensures.0
