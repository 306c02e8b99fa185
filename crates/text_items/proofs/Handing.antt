-- What `?` hands on, and the errors of texts.
--   handed_on                the answer of a call that hands an error on is that error
--   error_first, error_not   a text's error decides, and is not accepted
-- Assumes nothing.
use mathlib.Core.Path.{◌≡◌, refl, sym, ap}
use mathlib.Core.Logic.{◌≢◌}
use Prim.Native.Nat.{ℕ}
use native.Mathlib.Omega.{arith}
use Rattle.std.specs.Prelude.{Result, Ok, Err, IsErrAnd}
use Rattle.staircase.specs.Rules.{Verdict, ◌then◌}
use Rattle.staircase.specs.Rules.Verdict.{accepted}
use Rattle.answers.specs.Answers.{verdict_of}
use Rattle.answers.specs.declared.TextError.{TextError}
use Rattle.answers.specs.declared.TextError.TheVariants.{Refused, Broken}
use Rattle.answers.proofs.Checks.{refused_then, refusal_refuses}
use Rattle.text_items.specs.Answers.{error_verdict}

pub handed_on : {A E : Type 0} {x : Result A E} {r : E} → IsErrAnd x (λ (e : E). e ≡ r) → x ≡ Err r
handed_on {x = Ok y} h = elim h [ ]
handed_on {x = Err e} h = ap Err h

pub error_first : (n : ℕ) (e : TextError) (v : Verdict) → (error_verdict n e then v) ≡ error_verdict n e
unfolding verdict_of
error_first n (Refused r) v = sym (refused_then {A = Unit} {x = Err r} v refl refl)
error_first n (Broken p) v = refl

pub error_not : (n : ℕ) (e : TextError) → error_verdict n e ≢ accepted
error_not n (Refused r) = refusal_refuses r
error_not n (Broken p) = λ e. let z : ◌≡◌ {A = ℕ} 0 1 = cc in omega arith
