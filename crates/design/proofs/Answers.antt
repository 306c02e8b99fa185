-- Laws of a new design's answer.
--   made_of                        what holds of four numbers holds of the design that they are in
--   made-params                    a design that was made has the sizes that it was made from
--   made-allowed, made_original    and is allowed
--   refused-design, made-design    a call's verdict, the rules of its kind on the design and then others: after a design that is refused, and after one that
--                                  was made
-- Assumes nothing.
use mathlib.Core.Path.{◌≡◌, sym, ap, ◌∙◌}
use mathlib.Core.Logic.{◌≢◌}
use Prim.Native.Nat.{ℕ}
use Rattle.std.specs.Prelude.{Result, Ok, Err}
use Rattle.staircase.specs.Design.{Params, params}
use Rattle.staircase.specs.Rules.{Verdict, ◌then◌}
use Rattle.staircase.specs.Rules.Verdict.{accepted}
use Rattle.answers.specs.declared.Refusal.{Refusal}
use Rattle.answers.specs.Answers.{verdict_of}
use Rattle.answers.proofs.Checks.{refused_then, passed_then, check_refused}
use Rattle.design.specs.declared.Design.{Design}
use Rattle.design.specs.Sizes.{params_of}
use Rattle.design.specs.Answers.{DesignIs, Allowed, DesignAllowed, AllowedOriginal, DesignOriginal}

pub made_of : (P : ℕ → ℕ → ℕ → ℕ → Type 0) (d : Design) {m t M col : ℕ} → (d.m ≡ m) × (d.t ≡ t) × (d.size ≡ M) × (d.col ≡ col) → P m t M col
    → P d.m d.t d.size d.col
made_of P d (a, b, e, f) h = rw (a, b, e, f) h

pub made-params : {a : Result Design Refusal} {d : Design} → a ≡ Ok d → (m t M col : ℕ) → DesignIs a m t M col → params d.m d.t d.size d.col ≡ params m t M col
unfolding DesignIs
made-params {d = d} e m t M col h = let i : DesignIs (Ok d) m t M col = rw e at h in rw (i.0, i.1, i.2, i.3)

pub made-allowed : {a : Result Design Refusal} {d : Design} → a ≡ Ok d → DesignAllowed a → Allowed d
unfolding DesignAllowed
made-allowed e h = rw e at h

pub made_original : {a : Result Design Refusal} {d : Design} → a ≡ Ok d → DesignOriginal a → AllowedOriginal d
unfolding DesignOriginal
made_original e h = rw e at h

-- x is what the call answers; u are the rules of its kind on the design
module _ {B : Type 0} (m t M col : ℕ) (rules : Params → Verdict) (a : Result Design Refusal) {u : Verdict} (n : verdict_of a ≡ u) (x : Result B Refusal) where
  pub refused-design : {r : Refusal} → a ≡ Err r → verdict_of x ≡ verdict_of a
      → (verdict_of x ≢ accepted) × (verdict_of x ≡ (u then rules (params m t M col)))
  refused-design {r} g e =
      ((λ z. check_refused {x = a} g (sym e ∙ z)), e ∙ refused_then (rules (params m t M col)) n g)

  pub made-design : DesignIs a m t M col → {d : Design} → a ≡ Ok d → verdict_of x ≡ rules (params_of d) → verdict_of x ≡ (u then rules (params m t M col))
  made-design i {d} g e =
      e ∙ ap rules (made-params g m t M col i) ∙ passed_then (rules (params m t M col)) n g
