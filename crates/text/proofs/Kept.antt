-- What a reader leaves in a slice.
--   kept_new   an accepted text: its values
--   kept_old   a refused one: what stood there
-- Assumes nothing.
use mathlib.Core.Path.{◌≡◌, refl}
use mathlib.Core.Logic.{◌≢◌}
use mathlib.Core.List.{List}
use Prim.Native.Nat.{ℕ}
use Rattle.staircase.specs.Rules.{Verdict}
use Rattle.staircase.specs.Rules.Verdict.{accepted, refused}
use Rattle.text.specs.Rules.{kept}

pub kept_new : (v : Verdict) (new old : List ℕ) → v ≡ accepted → kept v new old ≡ new
unfolding kept
kept_new v new old e = rw e

pub kept_old : (v : Verdict) (new old : List ℕ) → v ≢ accepted → kept v new old ≡ old
unfolding kept
kept_old accepted new old h = absurd (h refl)
kept_old (refused n p) new old h = refl
