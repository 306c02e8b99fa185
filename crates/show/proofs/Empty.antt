-- Document 01, "it is empty exactly when refused": what is shown is empty exactly when the call is not accepted, for all arguments.
--   shown_empty   the theorem
-- Assumes nothing.
use mathlib.Core.Path.{◌≡◌, refl}
use mathlib.Core.Logic.{◌↔◌, ◌≢◌}
use mathlib.Core.List.{List, []}
use Prim.Native.Nat.{ℕ}
use native.Mathlib.Omega.{arith}
use Rattle.staircase.specs.Design.{params}
use Rattle.staircase.specs.Rules.{Verdict, Part}
use Rattle.staircase.specs.Rules.Verdict.{accepted, refused}
use Rattle.staircase.specs.Rules.Part.{block, group}
use Rattle.staircase.specs.Calls.{stretch, shown_by, show_verdict, show_call}
use Rattle.show.specs.Show.{HasPart}
use Rattle.show.proofs.Stretch.{stretch-some}
use Rattle.show.proofs.Accepted.{accepted-size, accepted-part}

empty-by : (v : Verdict) (l : List ℕ) → (v ≡ accepted → l ≢ []) → ((shown_by v l).bits ≡ []) ↔ ¬ ((shown_by v l).verdict ≡ accepted)
empty-by accepted l h = (λ e. absurd (h refl e), λ n. absurd (n refl))
empty-by (refused n p) l h = (λ e d. let z : ◌≡◌ {A = ℕ} 0 1 = cc in omega arith, λ d. refl)

accepted-some : (m t M col L : ℕ) (part : Part) (info red : List ℕ) → show_verdict m t M col L part info red ≡ accepted
    → stretch (params m t M col) part info red ≢ []
unfolding HasPart
accepted-some m t M col L (block b) info red a =
    stretch-some (accepted-part m t M col L (block b) info red a) (accepted-size m t M col L (block b) info red a).0
accepted-some m t M col L (group i) info red a =
    stretch-some (accepted-part m t M col L (group i) info red a) (accepted-size m t M col L (group i) info red a).1

pub shown_empty : (m t M col L : ℕ) (part : Part) (info red : List ℕ)
    → ((show_call m t M col L part info red).bits ≡ []) ↔ ¬ ((show_call m t M col L part info red).verdict ≡ accepted)
unfolding show_call
shown_empty m t M col L part info red =
    empty-by (show_verdict m t M col L part info red) (stretch (params m t M col) part info red) (accepted-some m t M col L part info red)
