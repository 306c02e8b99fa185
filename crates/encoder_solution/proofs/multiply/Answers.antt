-- Rows for few groups, tables for the others.
use mathlib.Core.Path.{◌≡◌, refl, sym, ap, ◌∙◌}
use Prim.Native.Nat.{ℕ, ◌+◌, ◌-◌, ◌*◌, ◌/◌, ◌≤◌}
use native.Mathlib.Omega.{arith}
use lib.ListN.{get_or}
use Rattle.bch.specs.Polynomial.{◌⊕◌}
use Rattle.words_blocks.proofs.Sums.{part_length}
use Rattle.matrix.proofs.Bits.{bit, bit-zero}
use Rattle.encoder_solution.proofs.Solution.{front_each, front-product}
use Rattle.encoder_solution.proofs.multiply.Goals as goal

pub multiply-requires : goal.multiply-requires
multiply-requires c =
    let a = c.args in
    let n = a.n in
    let w : ℕ = (n + 7) / 8 in
    let p : ℕ = (w + 31) / 32 * 32 in (
      c.requires.0 ∙ ap (λ (z : ℕ). z * w) (sym c.requires.1),
      part_length a.constants.now 0 (8 * p) (8 * p) (omega arith) (omega arith),
      omega arith,
      omega arith,
      omega arith,
      omega arith,
      λ k h. front_each (λ k x. n ≤ k → x ≡ 0) a.constants.now (8 * p - 0) (λ k h. refl) c.requires.5 k (omega arith),
      front_each (λ k x. (j : ℕ) → a.count ≤ j → bit x j ≡ 0) a.constants.now (8 * p - 0) (λ k j h. bit-zero j) c.requires.6,
    )

pub returns-then-count-w : goal.returns-then-count-w
returns-then-count-w c =
    let a = c.args in
    let n = a.n in
    let w : ℕ = (n + 7) / 8 in
    let p : ℕ = (w + 31) / 32 * 32 in
    let y = c.multiply.ensures in (
      y.0,
      λ e h. y.1 e (omega arith) ∙ ap (λ (z : ℕ). get_or a.products.now e 0 ⊕ z)
          (front-product a.inverse.now a.constants.now w e n (8 * p - 0) (omega arith) (omega arith) c.requires.5),
    )

pub multiply-requires-2 : goal.multiply-requires-2
multiply-requires-2 c =
    let a = c.args in
    let w : ℕ = (a.n + 7) / 8 in (
      c.requires.0 ∙ ap (λ (z : ℕ). z * w) (sym c.requires.1),
      part_length a.constants.now 0 (8 * w) (8 * w) (omega arith) (omega arith),
      omega arith,
    )

pub returns : goal.returns
returns c =
    let a = c.args in
    let n = a.n in
    let w : ℕ = (n + 7) / 8 in
    let y = c.multiply-2.ensures in (
      y.0,
      λ e h. y.1 e (omega arith) ∙ ap (λ (z : ℕ). get_or a.products.now e 0 ⊕ z)
          (front-product a.inverse.now a.constants.now w e n (8 * w - 0) (omega arith) (omega arith) c.requires.5),
    )
