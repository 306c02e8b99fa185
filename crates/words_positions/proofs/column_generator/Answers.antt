-- The generator is that of the code of an allowed design, or its reversed polynomial.
use mathlib.Core.Path.{◌≡◌, refl, sym, ap, ap₂, ◌∙◌}
use mathlib.Core.Bool.{Bool, true, false, not, cond}
use Prim.Native.Nat.{ℕ, ◌*◌}
use native.Mathlib.Omega.{arith}
use lib.Dec.{eqb}
use Rattle.bch.specs.Code.{generator}
use Rattle.bch.specs.Mirror.{mirror}
use Rattle.staircase.specs.Design.{column_generator}
use Rattle.design.specs.declared.Design.{Design}
use Rattle.design.specs.Sizes.{params_of}
use Rattle.design.proofs.Allowed.{code_of, r_small}
use Rattle.words_positions.proofs.column_generator.Goals as goal

not-true : (z : Bool) → not z ≡ true → z ≡ false
not-true true e = sym e
not-true false e = refl

not-false : (z : Bool) → not z ≡ false → z ≡ true
not-false true e = refl
not-false false e = sym e

module _ (d : Design) where
  pub columns-mirrored : (g : ℕ) → g ≡ generator d.m d.t → not (eqb d.col 0) ≡ true → mirror (d.m * d.t) g ≡ column_generator (params_of d)
  unfolding column_generator
  columns-mirrored g e z =
      ap (mirror (d.m * d.t)) e
      ∙ sym (ap (λ (b : Bool). cond b (generator d.m d.t) (mirror (d.m * d.t) (generator d.m d.t))) (not-true (eqb d.col 0) z))

  pub columns-same : (g : ℕ) → g ≡ generator d.m d.t → not (eqb d.col 0) ≡ false → g ≡ column_generator (params_of d)
  unfolding column_generator
  columns-same g e z =
      e ∙ sym (ap (λ (b : Bool). cond b (generator d.m d.t) (mirror (d.m * d.t) (generator d.m d.t))) (not-false (eqb d.col 0) z))

pub generator_of-g-requires : goal.generator_of-g-requires
generator_of-g-requires c =
    let k = code_of c.args.d c.requires in
    rw (c.m.ensures, c.t.ensures) (k.m-low, k.m-high, k.t-low, k.t-high, k.fits)

pub mirror_of-requires : goal.mirror_of-requires
mirror_of-requires c =
    omega (arith, r_small c.args.d c.requires, c.r.ensures.0)

pub returns-then-mirrored : goal.returns-then-mirrored
returns-then-mirrored c =
    let e = c.generator_of-g.ensures.0 ∙ ap₂ generator c.m.ensures c.t.ensures in
    c.mirror_of.ensures ∙ ap (λ (r : ℕ). mirror r c.generator_of-g.result) c.r.ensures.0
    ∙ columns-mirrored c.args.d c.generator_of-g.result e (sym c.mirrored.ensures ∙ c.if-mirrored.true)

pub returns : goal.returns
returns c =
    let e = c.generator_of-g.ensures.0 ∙ ap₂ generator c.m.ensures c.t.ensures in
    columns-same c.args.d c.generator_of-g.result e (sym c.mirrored.ensures ∙ c.if-mirrored.false)
