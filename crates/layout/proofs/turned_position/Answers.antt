-- Whether the line is read backwards says whether the position is turned.
use mathlib.Core.Path.{sym, ap, ◌∙◌}
use Prim.Native.Nat.{ℕ, ◌-◌}
use native.Mathlib.Omega.{arith}
use Rattle.design.specs.Sizes.{params_of}
use Rattle.layout.proofs.Layouts.{turn_at, turn-not}
use Rattle.layout.proofs.turned_position.Goals as goal

pub returns-then-turned : goal.returns-then-turned
returns-then-turned c =
    let a = c.args in
    let f = a.frames in
    let e = turn_at f.shape (params_of f.d) a.k a.p (sym c.turned.ensures ∙ c.if-turned.true) in
    (ap (λ (n : ℕ). n - 1 - a.p) c.word_bits.ensures.0 ∙ sym e, omega (arith, c.requires, c.word_bits.ensures.0))

pub returns : goal.returns
returns c =
    let a = c.args in
    let f = a.frames in
    (sym (turn-not f.shape (params_of f.d) a.k a.p (sym c.turned.ensures ∙ c.if-turned.false)), c.requires)
