-- The reduced exponents are 2 e and 3 e, so the entries are the powers.
use mathlib.Core.Path.{ap₂, ◌∙◌}
use Prim.Native.Nat.{ℕ, ◌+◌, ◌*◌}
use native.Mathlib.Omega.{arith}
use lib.ListN.{length}
use Rattle.bch.proofs.Powers.{powers-length}
use Rattle.bch_field.proofs.Solved.{cube_exponent}
use Rattle.bch_field.proofs.logarithms.syndromes_of.Goals as goal

pub reduced-twice-requires : goal.reduced-twice-requires
reduced-twice-requires c = omega (arith, powers-length c.args.m c.args.powers.now c.requires.2)

pub reduced-thrice-requires : goal.reduced-thrice-requires
reduced-thrice-requires c =
    let a = c.args in
    omega (arith, c.reduced-twice.ensures, powers-length a.m a.powers.now c.requires.2)

pub power_at-requires-2 : goal.power_at-requires-2
power_at-requires-2 c =
    let a = c.args in
    let p = c.requires in
    (p.0, p.1, p.2, omega (arith, c.reduced-thrice.ensures, powers-length a.m a.powers.now p.2))

pub returns : goal.returns
returns c =
    let a = c.args in
    let p = c.requires in
    ap₂ (λ (x y : ℕ). x + 65536 * y) c.power_at.ensures.0
    (c.power_at-2.ensures.0
    ∙ cube_exponent a.m p.0 p.1 a.e (length a.powers.now) _ _ (powers-length a.m a.powers.now p.2)
    c.reduced-twice.ensures.0 c.reduced-thrice.ensures.0)
