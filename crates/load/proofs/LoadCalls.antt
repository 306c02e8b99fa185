-- What the calls answer and leave at each of their ends.
--   fill-rules, turn-rules                       their verdicts, the design's rules and then the others
--   fill_refused, errors-refused, run_refused, buffer-refused   each call where a rule refuses
--   fill_done, errors-done, run_done, buffer-done               and where all accept
--   accepted-small                               the lengths of a frame that no rule refuses
-- Assumes nothing.
use mathlib.Core.Path.{◌≡◌, refl, sym, ap, ap₂, ◌∙◌}
use mathlib.Core.Logic.{◌≢◌}
use mathlib.Core.List.{List}
use Prim.Native.Nat.{ℕ, ◌+◌, ◌*◌, ◌^◌, ◌<◌}
use native.Mathlib.Omega.{arith}
use lib.ListN.{length}
use Rattle.staircase.specs.Lists.{tabulate}
use Rattle.staircase.specs.Design.{params}
use Rattle.staircase.specs.Frame.{Frame, frame_of}
use Rattle.staircase.specs.Rules.{Verdict, ◌then◌, design_rules, count_rule, frame_lengths, frame_bits, bit_rule}
use Rattle.staircase.specs.Rules.Verdict.{accepted, refused}
use Rattle.staircase.specs.Load.{state_after, load_bit, random_turns, run_turns, turned_where, turned_frame, fill_verdict, turn_verdict, filled_by, fill_call, errors_by, errors_call, run_by, run_call}
use Rattle.staircase.proofs.Rules.{then_first, then_rest, design_limits, count_limits}
use Rattle.staircase.proofs.Load.{turn_lengths}
use Rattle.rules.proofs.Accepted.{frame_small}
use Rattle.load.specs.Buffer.{errors_buffer}
use Rattle.load.specs.Checks.{fill_rules, turn_rules}
use Rattle.generator.proofs.States.{after-add}
use Rattle.load.proofs.Turning.{drawn_on, run_front}

pub fill-rules : (m t M col L : ℕ) (info : List ℕ) → (design_rules m t M col then fill_rules (params m t M col) L info) ≡ fill_verdict m t M col L info
unfolding fill_rules fill_verdict
fill-rules m t M col L info = refl

pub turn-rules : (m t M col L : ℕ) (info red : List ℕ) → (design_rules m t M col then turn_rules (params m t M col) L info red) ≡ turn_verdict m t M col L info red
unfolding turn_rules turn_verdict
turn-rules m t M col L info red = refl

-- a frame that rules 1 to 4 and 6 accept is small
pub accepted-small : (m t M col L : ℕ) (info red : List ℕ) → turn_verdict m t M col L info red ≡ accepted → length info + length red < 2 ^ 63
unfolding turn_verdict
accepted-small m t M col L info red e =
    let v : Verdict = frame_lengths (params m t M col) L info red then frame_bits info red in
    let few = (count_limits L (then_first (count_rule L) v (then_rest (design_rules m t M col) (count_rule L then v) e))).1 in
    let long = turn_lengths m t M col L info red e in
    frame_small (record { m = m; t = t; size = M; col = col }) L (length info) (length red) (design_limits m t M col (then_first (design_rules m t M col) (count_rule L then v) e)) few
    long.0 long.1

-- ---- filling

fill_by : (v : Verdict) (old new : List ℕ) (s : ℕ) → v ≢ accepted → filled_by v old new s ≡ record { verdict = v; info = old; state = 0 }
fill_by accepted old new s h = absurd (h refl)
fill_by (refused n p) old new s h = refl

module _ (old new : List ℕ) (s : ℕ) {w : Verdict} where
  pub filled-refused : (v : Verdict) → v ≡ w → v ≢ accepted → record { verdict = v; info = old; state = 0 } ≡ filled_by w old new s
  filled-refused v e h = sym (fill_by v old new s h) ∙ ap (λ (z : Verdict). filled_by z old new s) e

  pub filled-done : accepted ≡ w → record { verdict = accepted; info = new; state = s } ≡ filled_by w old new s
  filled-done e = ap (λ (z : Verdict). filled_by z old new s) e

module _ (m t M col L seed : ℕ) (info : List ℕ) where
  pub fill_refused : (v : Verdict) → v ≡ fill_verdict m t M col L info → v ≢ accepted
      → record { verdict = v; info = info; state = 0 } ≡ fill_call m t M col L seed info
  unfolding fill_call
  fill_refused = filled-refused info (tabulate (length info) (load_bit seed)) (state_after seed (length info))

  pub fill_done : accepted ≡ fill_verdict m t M col L info
      → record { verdict = accepted; info = tabulate (length info) (load_bit seed); state = state_after seed (length info) } ≡ fill_call m t M col L seed info
  unfolding fill_call
  fill_done = filled-done info (tabulate (length info) (load_bit seed)) (state_after seed (length info))

module _ (seed limit : ℕ) (l : List ℕ) where
  pub buffer-refused : (v : Verdict) → v ≡ bit_rule 0 l → v ≢ accepted → record { verdict = v; info = l; state = 0 } ≡ errors_buffer seed limit l
  unfolding errors_buffer
  buffer-refused = filled-refused l (turned_where (random_turns seed limit) l) (state_after seed (16 * length l))

  pub buffer-done : accepted ≡ bit_rule 0 l
      → record { verdict = accepted; info = turned_where (random_turns seed limit) l; state = state_after seed (16 * length l) } ≡ errors_buffer seed limit l
  unfolding errors_buffer
  buffer-done = filled-done l (turned_where (random_turns seed limit) l) (state_after seed (16 * length l))

-- ---- turning

errors-by : (v : Verdict) (old new : Frame) (s : ℕ) → v ≢ accepted → errors_by v old new s ≡ record { verdict = v; frame = old; state = 0 }
errors-by accepted old new s h = absurd (h refl)
errors-by (refused n p) old new s h = refl

run-by : (v : Verdict) (old new : Frame) → v ≢ accepted → run_by v old new ≡ record { verdict = v; frame = old }
run-by accepted old new h = absurd (h refl)
run-by (refused n p) old new h = refl

module _ (m t M col L : ℕ) (info red : List ℕ) where
  abbrev f : Frame
  f = frame_of info red

  module _ (seed limit : ℕ) where
    abbrev last : ℕ
    last = state_after seed (16 * (length info + length red))

    pub errors-refused : (v : Verdict) → v ≡ turn_verdict m t M col L info red → v ≢ accepted
        → record { verdict = v; frame = frame_of info red; state = 0 } ≡ errors_call m t M col L seed limit info red
    unfolding errors_call
    errors-refused v e h =
        sym (errors-by v f (turned_frame (random_turns seed limit) f) last h) ∙ ap (λ (z : Verdict). errors_by z f (turned_frame (random_turns seed limit) f) last) e

    -- the redundancy's draws go on from the state after those of the information
    pub errors-done : accepted ≡ turn_verdict m t M col L info red → (between end : ℕ) (i r : List ℕ) → between ≡ state_after seed (16 * length info) → i ≡ turned_where (random_turns seed limit) info
        → r ≡ turned_where (random_turns between limit) red → end ≡ state_after between (16 * length red)
        → record { verdict = accepted; frame = frame_of i r; state = end } ≡ errors_call m t M col L seed limit info red
    unfolding errors_call
    errors-done e between end i r b ei er ee =
        let steps : 16 * length info + 16 * length red ≡ 16 * (length info + length red) = omega arith in
        let turned : frame_of i r ≡ turned_frame (random_turns seed limit) f =
        ap₂ frame_of ei (er ∙ ap (λ (s : ℕ). turned_where (random_turns s limit) red) b ∙ drawn_on seed limit (length info) red) in
        let state : end ≡ last = ee ∙ ap (λ (s : ℕ). state_after s (16 * length red)) b ∙ after-add seed (16 * length info) (16 * length red) ∙ ap (state_after seed) steps in
        ap₂ (λ (g : Frame) (s : ℕ). record { verdict = accepted; frame = g; state = s }) turned state
        ∙ ap (λ (z : Verdict). errors_by z f (turned_frame (random_turns seed limit) f) last) e

  module _ (place long : ℕ) where
    pub run_refused : (v : Verdict) → v ≡ turn_verdict m t M col L info red → v ≢ accepted
        → record { verdict = v; frame = frame_of info red } ≡ run_call m t M col L place long info red
    unfolding run_call
    run_refused v e h = sym (run-by v f (turned_frame (run_turns place long) f) h) ∙ ap (λ (z : Verdict). run_by z f (turned_frame (run_turns place long) f)) e

    pub run_done : accepted ≡ turn_verdict m t M col L info red → (i r : List ℕ) → i ≡ turned_where (λ k. run_turns place long (0 + k)) info
        → r ≡ turned_where (λ k. run_turns place long (length info + k)) red
        → record { verdict = accepted; frame = frame_of i r } ≡ run_call m t M col L place long info red
    unfolding run_call
    run_done e i r ei er =
        ap (λ (g : Frame). record { verdict = accepted; frame = g }) (ap₂ frame_of (ei ∙ run_front place long info) er)
        ∙ ap (λ (z : Verdict). run_by z f (turned_frame (run_turns place long) f)) e
