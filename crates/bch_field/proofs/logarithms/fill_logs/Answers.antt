use mathlib.Core.Path.{subst⁻¹}
use native.Mathlib.Omega.{arith}
use lib.ListN.{length}
use Rattle.bch.proofs.Powers.{powers-length}
use Rattle.bch_field.proofs.Solved.{sizes, Logged, logged_none, logged_more}
use Rattle.bch_field.proofs.logarithms.fill_logs.Goals as goal

pub loop-j-init : goal.loop-j-init
loop-j-init c =
    let a = c.args in
    let p = c.requires in
    let s = sizes a.m p.0 p.1 in (
      omega arith,
      powers-length a.m a.powers.now p.2,
      s.1,
      omega arith,
      subst⁻¹ (Logged a.m 0) (c.fill.ensures.after (λ y h. h)) (logged_none a.m p.0 p.1 (length a.logs.now) p.3),
    )

pub loop-j-preserved : goal.loop-j-preserved
loop-j-preserved c =
    let a = c.args in
    let p = c.requires in
    let l = c.loop-j in (
      omega arith,
      omega arith,
      omega arith,
      omega arith,
      logged_more a.m p.0 p.1 l.j c.power_at.result l.logs (omega arith) c.power_at.ensures.0 l.invariant.4,
    )
