use mathlib.Core.Path.{ap₂, ◌∙◌}
use mathlib.Core.Bool.{cond}
use mathlib.Core.List.{List}
use Prim.Native.Nat.{ℕ, ◌+◌, ◌-◌, ◌*◌, ◌/◌, ◌%◌, ◌^◌}
use native.Mathlib.Omega.{arith}
use lib.Dec.{eqb}
use lib.ListN.{length, get_or}
use Rattle.bch.proofs.Sum.{mod2_bit}
use Rattle.staircase.specs.Lists.{bit_sum}
use Rattle.staircase.specs.Batch.{frame_at}
use Rattle.staircase.proofs.Bounds.{stretch-end}
use Rattle.bch_remainders.proofs.Rows.{row-length, row-bits}
use Rattle.encoder_solution.specs.Bits.{place_constant}
use Rattle.encoder_solution.proofs.Gathered.{gathered_more}
use Rattle.encoder_frame.proofs.Lending.{part_of}
use Rattle.encoder_frame.proofs.stretch.add_constants.Goals as goal

pub add_constant-requires : goal.add_constant-requires
add_constant-requires c =
    let a = c.args in
    let p = c.requires in
    let l = c.loop-g in
    let w = 2 * length a.words.now in
    let few = row-length a.red.now (l.g * w) w (omega (arith, stretch-end l.g a.count w (omega arith))) in
    (omega arith, omega (arith, few), row-bits a.red.now (l.g * w) (l.g * w + w - l.g * w) p.3, omega arith, λ q h. omega (arith, p.4 q (omega arith)))

pub loop-g-preserved : goal.loop-g-preserved
loop-g-preserved c =
    let a = c.args in
    let l = c.loop-g in
    let n = length a.words.now in
    let w = 2 * n in
    let f : ℕ → ℕ → ℕ = λ j. place_constant (frame_at w a.red.now j) a.preimages.now n in
    let r = c.add_constant in (
      omega arith,
      omega arith,
      r.ensures.0 ∙ l.invariant.2,
      λ q h. gathered_more (λ j. f j q) (get_or l.words q 0) (get_or r.new.words q 0) l.g (mod2_bit _) (l.invariant.3 q h)
          (λ j. r.ensures.1 q j (omega arith)
          ∙ ap₂ (λ (x : List ℕ) (k : ℕ). bit_sum (get_or l.words q 0 / 2 ^ j % 2) (cond (eqb l.g j) (place_constant x a.preimages.now k q) 0))
          (part_of a.red.now l.g w) l.invariant.2),
    )
