-- A refusal's verdict is its number and its place.
--   refusal_whole    by the two definitions
--   refusal_judged   as the code has them
-- Assumes nothing.
use mathlib.Core.Path.{◌≡◌, refl}
use mathlib.Core.Logic.{◌≢◌}
use Rattle.staircase.specs.Rules.{Verdict}
use Rattle.staircase.specs.Rules.Verdict.{accepted, refused}
use Rattle.answers.specs.declared.Refusal.{Refusal}
use Rattle.answers.specs.Answers.{refusal_verdict}
use Rattle.answers.proofs.Checks.{refusal_refuses}
use Rattle.rules_verdict.specs.Number.{number, place_of, judged_of}
use Rattle.rules_verdict.specs.declared.Judged.{Judged}

verdict-whole : (v : Verdict) → v ≢ accepted → v ≡ refused (number v) (place_of v)
unfolding number place_of
verdict-whole accepted h = absurd (h refl)
verdict-whole (refused n p) h = refl

pub refusal_whole : (r : Refusal) → refusal_verdict r ≡ refused (number (refusal_verdict r)) (place_of (refusal_verdict r))
refusal_whole r = verdict-whole (refusal_verdict r) (refusal_refuses r)

pub refusal_judged : (r : Refusal) (j : Judged) → j ≡ judged_of (refusal_verdict r) → refusal_verdict r ≡ refused j.rule j.place
refusal_judged r j e = rw e (refusal_whole r)
