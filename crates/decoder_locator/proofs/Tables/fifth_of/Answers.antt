use mathlib.Core.Path.{◌≡◌, refl, sym, ap, ap₂, ◌∙◌}
use Prim.Native.Nat.{ℕ, ◌*◌, ◌/◌, ◌%◌, ◌^◌}
use native.Mathlib.Numerals.{add-one}
use native.Mathlib.Omega.{arith}
use Rattle.bch.specs.Polynomial.{◌⊕◌}
use Rattle.bch.specs.Field.{power}
use Rattle.bch.specs.Powers.{xor_sum}
use Rattle.bch.proofs.Syndromes.{value-bits}
use Rattle.decoder_locator.proofs.Fields.{field_is}
use Rattle.decoder_locator.proofs.Cubics.{fifth_next}
use Rattle.decoder_locator.proofs.Tables.fifth_of.Goals as goal

pub loop-k-init : goal.loop-k-init
unfolding xor_sum
loop-k-init c =
    (omega arith, omega (arith, c.count-n.ensures), refl, refl)

pub loop-k-preserved : goal.loop-k-preserved
unfolding xor_sum ◌⊕◌
loop-k-preserved c =
    let F = field_is c.args.self.now.filled in
    let a = c.args in
    let l = c.loop-k in (
      omega arith,
      omega (arith, c.wrap-e.ensures.0, c.count-n.ensures.0),
      fifth_next F c.count-n.ensures.0 l.e l.k c.wrap-e.result c.wrap-e.ensures.1 l.invariant.2,
      ap₂ ◌⊕◌ l.invariant.3 (ap (λ (z : ℕ). (a.x / 2 ^ l.k % 2) * z) (c.power_at.ensures.0 ∙ l.invariant.2))
          ∙ ap (λ (i : ℕ). xor_sum i (λ (i : ℕ). (a.x / 2 ^ i % 2) * power a.self.now.m (5 * i))) (sym (add-one l.k)),
    )

pub returns : goal.returns
returns c =
    let a = c.args in
    let l = c.loop-k in
    let e : l.k ≡ a.r = omega arith in
    l.invariant.3 ∙ ap (λ (i : ℕ). xor_sum i (λ (i : ℕ). (a.x / 2 ^ i % 2) * power a.self.now.m (5 * i))) e ∙ sym (value-bits a.self.now.m 5 a.r a.x c.requires.1)
