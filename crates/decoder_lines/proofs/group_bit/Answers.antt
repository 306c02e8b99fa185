-- A link for an even line.
use mathlib.Core.Path.{sym, ap, ◌∙◌}
use mathlib.Core.Bool.{Bool, true, cond}
use Prim.Native.Nat.{◌%◌}
use native.Mathlib.Omega.{arith}
use borrow.Author.Tests.{eq-eqb}
use Rattle.staircase.specs.Lines.{partner}
use Rattle.design.specs.Sizes.{params_of}
use Rattle.decoder_lines.specs.Links.{lists_in}
use Rattle.decoder_lines.proofs.Links.{links_long, link_row, link_below}
use Rattle.decoder_lines.proofs.group_bit.Goals as goal

pub link_at-requires : goal.link_at-requires
link_at-requires c = omega (arith, links_long c.requires.0, c.requires.1)

pub returns-then-k-eq0 : goal.returns-then-k-eq0
returns-then-k-eq0 c =
    let a = c.args in
    let p = c.requires in
    let f = partner (params_of a.d) (lists_in a.d a.links.now) true a.q in
    let e = c.link_at.ensures.0 ∙ link_row p.0 a.q p.1 in
    (e ∙ sym (ap (λ (z : Bool). cond z f a.q) (eq-eqb (a.k % 2) 0 c.if-k-eq0.true)), omega (arith, e, link_below p.0 a.q p.1))
