-- Laws of one check after another, as a function that returns at the first refusal meets them.
--   handed_on                      what `?` hands on is the refusal
--   refused_then, refused_on       after a refusal the rest does not count: for its check, and for a call that hands it on by `?`
--   passed_then                    after a check that passed the rest decides
--   check_refused, refusal_refuses a refusal is not accepted
--   check_passed                   a check that passed is
--   counted-refused                a refusal as a word checker's answer
-- Assumes nothing.
use mathlib.Core.Path.{◌≡◌, refl, sym, ap, ◌∙◌}
use mathlib.Core.Logic.{◌≢◌}
use Prim.Native.Nat.{ℕ}
use native.Mathlib.Omega.{arith}
use Rattle.staircase.specs.Rules.{Verdict, ◌then◌}
use Rattle.staircase.specs.Rules.Verdict.{accepted, refused}
use Rattle.staircase.specs.Calls.{counted_by}
use Rattle.answers.specs.declared.Refusal.{Refusal}
use Rattle.answers.specs.declared.Refusal.TheVariants.{Size, Long, Large, Count, Rounds, Length, List, Spare, Inverse, Bit, Singular, Narrow, Full, Batch, Window, Thin}
use Rattle.std.specs.Prelude.{Result, Ok, Err, IsErr, IsErrAnd}
use Rattle.answers.specs.Answers.{refusal_verdict, verdict_of}

refusal_stays : (r : Refusal) (v : Verdict) → refusal_verdict r ≡ (refusal_verdict r then v)
unfolding refusal_verdict
refusal_stays (Size p) v = refl
refusal_stays (Long p) v = refl
refusal_stays (Large p) v = refl
refusal_stays (Count p) v = refl
refusal_stays (Rounds p) v = refl
refusal_stays (Length p) v = refl
refusal_stays (List p) v = refl
refusal_stays (Spare p) v = refl
refusal_stays (Inverse p) v = refl
refusal_stays (Bit p) v = refl
refusal_stays (Singular p) v = refl
refusal_stays (Narrow p) v = refl
refusal_stays (Full p) v = refl
refusal_stays (Batch p) v = refl
refusal_stays (Window p) v = refl
refusal_stays (Thin p) v = refl

-- the answer of a call that hands a refusal on by `?`
pub handed_on : {A : Type 0} (x : Result A Refusal) {r : Refusal} → IsErrAnd x (λ (e : Refusal). e ≡ r) → x ≡ Err r
handed_on (Ok y) h = elim h [ ]
handed_on (Err e) h = ap Err h

module _ {A : Type 0} {x : Result A Refusal} {u : Verdict} (v : Verdict) (is : verdict_of x ≡ u) where
  pub refused_then : {r : Refusal} → x ≡ Err r → verdict_of x ≡ (u then v)
  unfolding verdict_of
  refused_then {r} e = ap verdict_of e ∙ refusal_stays r v ∙ ap (λ (z : Verdict). z then v) (sym (ap verdict_of e) ∙ is)

  pub passed_then : {y : A} → x ≡ Ok y → v ≡ (u then v)
  unfolding verdict_of
  passed_then e = ap (λ (z : Verdict). z then v) (sym (ap verdict_of e) ∙ is)

  -- for the answer y of a call that hands the refusal of x on by `?`
  pub refused_on : {B : Type 0} (y : Result B Refusal) {r : Refusal} → x ≡ Err r → IsErr y × IsErrAnd y (λ (e : Refusal). e ≡ r) → verdict_of y ≡ (u then v)
  unfolding verdict_of
  refused_on y e h = ap verdict_of (handed_on y h.1) ∙ sym (ap verdict_of e) ∙ refused_then e

pub check_refused : {A : Type 0} {x : Result A Refusal} {r : Refusal} → x ≡ Err r → verdict_of x ≢ accepted
check_refused {x = x} e h =
    let d : verdict_of x ≡ refused 0 0 = refused_then (refused 0 0) h e in
    let z : ◌≡◌ {A = ℕ} 0 1 = cc in omega arith

pub refusal_refuses : (r : Refusal) → refusal_verdict r ≢ accepted
unfolding verdict_of
refusal_refuses r = check_refused {A = Unit} {x = Err r} {r = r} refl

pub check_passed : {A : Type 0} {x : Result A Refusal} {y : A} → x ≡ Ok y → verdict_of x ≡ accepted
unfolding verdict_of
check_passed e = ap verdict_of e

pub counted-refused : (v : Verdict) → record { verdict = v; outside = 0 } ≡ counted_by v 0
counted-refused accepted = refl
counted-refused (refused n p) = refl
