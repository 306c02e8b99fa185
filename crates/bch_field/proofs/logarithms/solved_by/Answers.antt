-- The logarithm of z^k + 1 is f, and e + f reduced is the v.
use native.Mathlib.Nat.{mul-le-mul, le_refl}
use native.Mathlib.Omega.{arith}
use lib.Bits.{bit_xor, xor_lt}
use lib.ListN.{length}
use Rattle.bch.proofs.Powers.{powers-length}
use Rattle.bch_field.proofs.Solved.{sizes, solution_made}
use Rattle.bch_field.proofs.logarithms.solved_by.Goals as goal

pub reduced-d-requires : goal.reduced-d-requires
reduced-d-requires c =
    let a = c.args in
    let p = c.requires in
    omega (arith, mul-le-mul p.3 (le_refl a.e), powers-length a.m a.powers.now p.4)

pub power_at-requires : goal.power_at-requires
power_at-requires c =
    let a = c.args in
    let p = c.requires in
    (p.0, p.1, p.4, omega (arith, c.reduced-d.ensures.1, powers-length a.m a.powers.now p.4))

pub bounds-logs-power_at : goal.bounds-logs-power_at
bounds-logs-power_at c =
    let a = c.args in
    let p = c.requires in
    let x = c.power_at in
    let h = xor_lt a.m x.result 1 x.ensures.1 (omega (arith, sizes a.m p.0 p.1)) in
    omega (arith, h, p.5.long)

pub reduced-requires : goal.reduced-requires
reduced-requires c =
    let a = c.args in
    let p = c.requires in
    omega (arith, p.5.below (bit_xor c.power_at.result 1), powers-length a.m a.powers.now p.4)

pub returns : goal.returns
returns c =
    let a = c.args in
    let p = c.requires in
    let x = c.power_at in
    let d = c.reduced-d in
    let r = c.reduced in
    let long = powers-length a.m a.powers.now p.4 in (
      omega (arith, r.ensures.1, long),
      solution_made a.m p.0 p.1 a.k a.logs.now p.5 a.e d.result x.result (length a.powers.now) r.result p.2 p.3 p.6 p.7
          d.ensures.0 x.ensures.0 long r.ensures.0,
    )
