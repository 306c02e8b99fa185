use mathlib.Core.Path.{◌≡◌, ◌∙◌}
use Prim.Native.Nat.{◌+◌, ◌*◌, ◌<◌}
use native.Mathlib.Omega.{arith}
use lib.ListN.{length, set, length-set}
use Rattle.design.specs.Sizes.{params_of, order_of, lists_of}
use Rattle.decoder_lines.proofs.Links.{half_next, half_all, lists-in, linked}
use Rattle.decoder_lines.proofs.fill_links.Goals as goal

pub loop-q-preserved : goal.loop-q-preserved
loop-q-preserved c =
    let a = c.args in
    let l = c.loop-q in
    let s = params_of a.d in
    let f = c.sent_to-f.result in
    let h : l.q < 2 * order_of a.d = omega (arith, c.loop-q-test.true, l.invariant.0) in
    let long : length (set (set l.links l.q f) (2 * c.order-half.result + f) l.q) ≡ 4 * order_of a.d =
    length-set (set l.links l.q f) (2 * c.order-half.result + f) l.q ∙ length-set l.links l.q f ∙ l.invariant.2 in (
      l.invariant.0,
      omega (arith, c.loop-q-test.true),
      long,
      rw l.invariant.0 (half_next s (lists_of a.d a.own.now a.parity.now) c.requires.1.own_permutes c.requires.1.parity_permutes l.links l.q f h l.invariant.2
          c.sent_to-f.ensures.0 l.invariant.3),
    )

pub returns : goal.returns
returns c =
    let a = c.args in
    let l = c.loop-q in
    let q : l.q ≡ 2 * order_of a.d = omega (arith, c.loop-q-test.false, l.invariant.0, l.invariant.1) in
    let e =
    half_all (params_of a.d) (lists_of a.d a.own.now a.parity.now) c.requires.1.own_permutes c.requires.1.parity_permutes l.links l.invariant.2 (rw q at l.invariant.3) in
    (linked a.d a.own.now a.parity.now e c.requires.1, lists-in a.d a.own.now a.parity.now e)
