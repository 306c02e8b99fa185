-- The entry is the power, and powers are below 2^m.
use native.Mathlib.Omega.{arith}
use Rattle.bch.proofs.Locator.{power_below}
use Rattle.bch.proofs.Powers.{powers-length, powers-at}
use Rattle.bch_field.proofs.Solved.{sizes}
use Rattle.bch_field.proofs.logarithms.power_at.Goals as goal

pub bounds-powers-e : goal.bounds-powers-e
bounds-powers-e c =
    let a = c.args in omega (arith, powers-length a.m a.powers.now c.requires.2)

pub returns : goal.returns
returns c =
    let a = c.args in
    let p = c.requires in
    let e = powers-at a.m a.powers.now p.2 a.e p.3 in
    let h = power_below a.m p.0 p.1 a.e in
    (e, omega arith, omega (arith, sizes a.m p.0 p.1))
