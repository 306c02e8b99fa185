use mathlib.Core.Path.{◌∙◌}
use Prim.Native.Nat.{◌*◌, ◌/◌, ◌%◌, ◌^◌}
use native.Mathlib.Omega.{arith}
use Rattle.bch.specs.Polynomial.{◌⊕◌}
use Rattle.decoder_locator.proofs.Values.{degree_small}
use Rattle.decoder_locator.proofs.Fours.{values-none, values-more, values-all}
use Rattle.decoder_locator.proofs.Answers.{sums_of}
use Rattle.decoder_locator.proofs.Locator.values_of.Goals as goal

pub loop-k-init : goal.loop-k-init
loop-k-init c =
    let W = c.args.self.now.words in
    (omega arith, omega (arith, degree_small W), values-none _ W.m-low W.m-high c.args.x)

pub loop-k-preserved : goal.loop-k-preserved
unfolding ◌⊕◌
loop-k-preserved c =
    let a = c.args in
    let L = a.self.now in
    let sums = sums_of L.tables.m (L.tables.m * L.t) L.positions.now L.values.now L.as_long L.sums in
    let l = c.loop-k in (
      omega arith,
      omega arith,
      values-more L.tables.m L.words.m-low L.words.m-high a.x l.k l.acc _ l.invariant.2
          (sums.1 l.k (a.x / 2 ^ (4 * l.k) % 16) (omega arith) (omega arith)),
    )

pub returns : goal.returns
returns c =
    let L = c.args.self.now in
    let l = c.loop-k in
    l.invariant.2 ∙ values-all L.tables.m c.args.x (L.tables.m * L.t) l.k c.requires (omega arith)
