-- A position whose entry is x has the logarithm of its value as exponent, so no other need be tried.
use mathlib.Core.Path.{◌≡◌, ap, ◌∙◌}
use Prim.Native.Nat.{ℕ, ◌-◌}
use native.Mathlib.Omega.{arith}
use lib.ListN.{length, get_or}
use Rattle.decoder_locator.specs.Steps.{SingleIs}
use Rattle.decoder_locator.proofs.Values.{low_below, single_value, single_exponent}
use Rattle.decoder_locator.proofs.Locator.one.Goals as goal

pub returns-then-low-eq0 : goal.returns-then-low-eq0
unfolding SingleIs
returns-then-low-eq0 c =
    λ p l e. single_value c.args.self.now.words c.args.x c.requires p l e c.if-low-eq0.true

pub log_of-e-requires : goal.log_of-e-requires
log_of-e-requires c =
    low_below c.args.self.now.words c.args.x c.requires

pub returns-then-n-e : goal.returns-then-n-e
unfolding SingleIs
returns-then-n-e c =
    λ p l e. omega (arith, single_exponent c.args.self.now.words c.args.x c.requires c.log_of-e.ensures p l e)

pub returns-then-self-p : goal.returns-then-self-p
unfolding SingleIs
returns-then-self-p c =
    let log-of = c.log_of-e in
    let t = c.args.self.now.positions.now in
    λ p l e.
    let k : length t - 1 - log-of.result ≡ p = omega (arith, single_exponent c.args.self.now.words c.args.x c.requires log-of.ensures p l e) in
    c.if-self-p.true (ap (λ (z : ℕ). get_or t z 0) k ∙ e)

pub returns : goal.returns
unfolding SingleIs
returns c = (omega arith, c.if-self-p.false)
