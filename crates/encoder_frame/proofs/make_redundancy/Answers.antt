-- The table and the places of the parity list are as the frames ask, and the frames are the redundancy.
use native.Mathlib.Omega.{arith}
use mathlib.Core.Path.{◌≡◌, ◌∙◌, subst⁻¹}
use mathlib.Core.List.{List}
use Prim.Native.Nat.{ℕ, ◌-◌}
use lib.ListN.{length, get_or, drop, replicate}
use Rattle.staircase.specs.Rules.{entries}
use Rattle.staircase.specs.Demand2.{Permutes}
use Rattle.words_positions.proofs.Parts.{part-is}
use Rattle.encoder_frame.proofs.WholeFrame.{red-long, frames_ready, tables_ready, frames-made}
use Rattle.encoder_frame.proofs.make_redundancy.Goals as goal

pub fill_preimages-requires : goal.fill_preimages-requires
fill_preimages-requires c =
    let order = c.order-n in (
      omega (arith, c.requires.parity_length, order.ensures.0),
      omega arith,
      omega (arith, c.requires.allowed.order-high, order.ensures.0),
      subst⁻¹ (λ (k : ℕ). Permutes k (λ p. get_or (entries k c.args.parity.now) p 0)) order.ensures.0 c.requires.parity_permutes,
    )

pub make_stretches-requires : goal.make_stretches-requires
make_stretches-requires c =
    let h = c.requires in
    let r = c.r.ensures.0 in
    let w = c.fill_columns in
    let x = c.fill_table in
    let f = c.fill_preimages in
    let bits = c.n-bits in
    let order = c.order-n in
    let every : length w.new.positions ≡ bits.result = omega arith in
    let all : length x.new.positions ≡ bits.result = omega arith in
    let rest : List ℕ = drop (order.result - 0) (replicate 4096 0) in
    let more : List ℕ = drop (bits.result - 0) (replicate 1024 0) in
    rw c.size.ensures (
      frames_ready h r order.ensures.0 (part-is w.new.positions more bits.result every) (part-is x.new.positions more bits.result all)
          (part-is f.new.out rest order.result f.ensures.0) (every ∙ bits.ensures.0) (all ∙ bits.ensures.0) f.ensures.0 f.ensures.1,
      tables_ready h r order.ensures.0 (part-is w.new.positions more bits.result every) (part-is x.new.positions more bits.result all)
          (part-is f.new.out rest order.result f.ensures.0) (every ∙ bits.ensures.0) (all ∙ bits.ensures.0) f.ensures.0 f.ensures.1,
      red-long h r,
    )

pub returns : goal.returns
returns c =
    let w = c.fill_columns in
    let x = c.fill_table in
    let f = c.fill_preimages in
    let bits = c.n-bits in
    let order = c.order-n in
    let every : length w.new.positions ≡ bits.result = omega arith in
    let all : length x.new.positions ≡ bits.result = omega arith in
    frames-made c.requires c.r.ensures.0 order.ensures.0 (part-is w.new.positions _ _ every) (part-is x.new.positions _ _ all)
    (part-is f.new.out _ _ f.ensures.0) (every ∙ bits.ensures.0) (all ∙ bits.ensures.0) f.ensures.0 f.ensures.1 w.ensures.0 x.ensures.0
    (rw c.size.ensures at c.make_stretches.ensures)
