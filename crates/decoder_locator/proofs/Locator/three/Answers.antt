-- One of the three positions is that of a root of the cubic; where its middle coefficient is 0, each position is tried.
use mathlib.Core.Path.{subst, subst⁻¹}
use Prim.Native.Nat.{ℕ, ◌-◌, ◌/◌, ◌%◌, ◌^◌, ◌<◌}
use native.Mathlib.Omega.{arith}
use lib.ListN.{length}
use Rattle.bch.specs.Polynomial.{◌⊕◌}
use Rattle.bch.proofs.Sum.{⊕-below}
use Rattle.bch.proofs.Syndromes.{value-below}
use Rattle.decoder_locator.specs.Steps.{TripleIs, CubicRootOf}
use Rattle.decoder_locator.proofs.Values.{low_below, high-below}
use Rattle.decoder_locator.proofs.Triples.{with_one}
use Rattle.decoder_locator.proofs.Answers.{no_defect, one_of_three, beyond}
use Rattle.decoder_locator.proofs.Locator.three.Goals as goal

pub power_of-requires : goal.power_of-requires
power_of-requires c =
    let s = c.requires in (omega arith, low_below c.args.self.now.words c.args.x s.1)

pub returns-then-d-eq0 : goal.returns-then-d-eq0
unfolding ◌⊕◌ TripleIs
returns-then-d-eq0 c =
    let s = c.requires in
    let W = c.args.self.now.words in
    no_defect W s.0 c.args.x s.1 c.power_of.ensures.1 c.if-d-eq0.true

pub power_of-requires-2 : goal.power_of-requires-2
power_of-requires-2 c =
    let s = c.requires in (omega arith, low_below c.args.self.now.words c.args.x s.1)

pub cubic_root-k-requires : goal.cubic_root-k-requires
unfolding ◌⊕◌
cubic_root-k-requires c =
    let power-of = c.power_of in
    let if1 = c.if-d-eq0 in
    let power-of2 = c.power_of-2 in
    let s = c.requires in
    let W = c.args.self.now.words in
    let value = subst⁻¹ (λ (z : ℕ). z < 2 ^ c.args.self.now.tables.m) c.fifth_of.ensures (value-below c.args.self.now.tables.m W.m-low W.m-high 5 c.args.x) in (
      low_below W c.args.x s.1,
      ⊕-below c.args.self.now.tables.m power-of.result (c.args.s / 65536) power-of.ensures.0 (high-below W c.args.x s.1),
      if1.false,
      ⊕-below c.args.self.now.tables.m power-of2.result c.fifth_of.result power-of2.ensures.0 value,
      c.if-e-eq0.false,
    )

pub returns-then-n-k : goal.returns-then-n-k
unfolding ◌⊕◌ TripleIs
returns-then-n-k c =
    let power-of = c.power_of in
    let power-of2 = c.power_of-2 in
    let fifth-of = c.fifth_of in
    let s = c.requires in
    let W = c.args.self.now.words in
    let R =
    subst (λ (z : ℕ). CubicRootOf c.args.self.now.tables.m (c.args.s % 65536) (power-of.result ⊕ c.args.s / 65536) (power-of2.result ⊕ z) c.cubic_root-k.result) fifth-of.ensures
    c.cubic_root-k.ensures in
    beyond W s.0 c.args.x s.1 power-of.ensures.1 power-of2.ensures.1 R c.if-n-k.true

pub returns : goal.returns
unfolding ◌⊕◌
returns c =
    let power-of = c.power_of in
    let power-of2 = c.power_of-2 in
    let cubic-root = c.cubic_root-k in
    let fifth-of = c.fifth_of in
    let s = c.requires in
    let W = c.args.self.now.words in
    let R =
    subst (λ (z : ℕ). CubicRootOf c.args.self.now.tables.m (c.args.s % 65536) (power-of.result ⊕ c.args.s / 65536) (power-of2.result ⊕ z) cubic-root.result) fifth-of.ensures
    cubic-root.ensures in
    with_one c.args.self.now.positions.now c.args.x (length c.args.self.now.positions.now - 1 - cubic-root.result) c.three_with.result
    (one_of_three W s.0 c.args.x s.1 power-of.ensures.1 power-of2.ensures.1 R) c.three_with.ensures
