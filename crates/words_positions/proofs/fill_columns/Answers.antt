-- The generator has the degree of an allowed design.
use mathlib.Core.Path.{◌∙◌, subst₂}
use Prim.Native.Nat.{ℕ, ◌*◌, ◌^◌}
use native.Mathlib.Nat.{one-mul}
use native.Mathlib.Omega.{arith}
use lib.Pow.{shl_exact}
use Rattle.bch.specs.Powers.{PositionPowers}
use Rattle.design.proofs.Allowed.{proper_of, r_small}
use Rattle.words_positions.proofs.fill_columns.Goals as goal

pub overflow_shl-r : goal.overflow_shl-r
overflow_shl-r c = omega (arith, r_small c.args.d c.requires, c.r-r.ensures.0)

pub fill_positions-requires : goal.fill_positions-requires
fill_positions-requires c =
    let d = c.args.d in
    let e = c.r-r.ensures.0 in
    let u = r_small d c.requires in
    let p = proper_of d c.requires in
    rw (e, c.column_generator-g.ensures) (
      p.rpos,
      u,
      shl_exact {a = 1} 1 (d.m * d.t) 32 (omega (arith, u)) (omega arith) ∙ one-mul (2 ^ (d.m * d.t)),
      p.column_degree,
    )

pub returns : goal.returns
returns c =
    let f = c.fill_positions in (
      subst₂ (λ (g r : ℕ). PositionPowers g r f.new.table) c.column_generator-g.ensures c.r-r.ensures.0 f.ensures.0,
      f.ensures.1,
    )
