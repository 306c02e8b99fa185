use mathlib.Core.Path.{subst⁻¹}
use native.Mathlib.Omega.{arith}
use lib.ListN.{length}
use Rattle.bch.proofs.Powers.{powers-length}
use Rattle.bch_field.proofs.Solved.{sizes, Solved, solved_none, solved_more, solved_all}
use Rattle.bch_field.proofs.logarithms.fill_solutions.Goals as goal

pub loop-e-init : goal.loop-e-init
loop-e-init c =
    let a = c.args in
    let p = c.requires in
    let s = sizes a.m p.0 p.1 in
    let long = powers-length a.m a.powers.now p.4 in (
      omega arith,
      long,
      s.1,
      omega arith,
      omega (arith, s.0),
      subst⁻¹ (Solved a.m a.k 1) (c.fill.ensures.after (λ y h. h)) (solved_none a.m p.0 p.1 a.k (length a.table.now) p.6),
    )

pub loop-e-preserved : goal.loop-e-preserved
loop-e-preserved c =
    let a = c.args in
    let p = c.requires in
    let l = c.loop-e in
    let v = c.solved_by-v in (
      omega arith,
      omega arith,
      omega arith,
      omega arith,
      omega arith,
      solved_more a.m p.0 p.1 a.k l.e v.result l.table (omega arith) (omega arith) v.ensures.0 v.ensures.1 l.invariant.5,
    )

pub returns : goal.returns
returns c =
    let a = c.args in
    let p = c.requires in
    let l = c.loop-e in
    solved_all a.m p.0 p.1 a.k l.e l.table (omega arith) l.invariant.5
