-- The totals after a decode's answer.
--   fit_of, up_done, up_refused   what is asked of the sums, and what they are, by the answer
--   sums-fit     their sums fit
--   tallied_is   the answer and these totals are the call's
-- Assumes nothing.
use Rattle.std.specs.Prelude.{Err, Ok, Result}
use mathlib.Core.Path.{◌≡◌, sym, ap, subst, ◌∙◌}
use Prim.Native.Nat.{ℕ, ◌+◌}
use lib.ListN.{length}
use Rattle.staircase.specs.Frame.{Frame}
use Rattle.staircase.specs.Rules.{Verdict, ◌then◌}
use Rattle.staircase.specs.Rules.Verdict.{accepted}
use Rattle.staircase.specs.Calls.{Counts, Corrected}
use Rattle.staircase.specs.Tally.{Tally, plus, counted, Decode, call_of, contribution, full_rule, verdict_for, further_call, tally_verdict, tally_call, Within, Few}
use Rattle.staircase.proofs.Rules.{then_first, then_rest}
use Rattle.staircase.proofs.Tally.{further_verdict, further_counts, full-within, decode-few, tally-refused, tally-accepted}
use Rattle.answers.specs.declared.Refusal.{Refusal}
use Rattle.answers.specs.Answers.{counts_told, corrected_of, refused_frame}
use Rattle.answers.proofs.Checks.{refusal_refuses}
use Rattle.answers.specs.declared.Counts as told
use Rattle.tally.specs.Answers.{brought_up, SumsFit}

module _ {d : Result told.Counts Refusal} (y : Tally) (n : ℕ) where
  pub fit_of : {c : told.Counts} → d ≡ Ok c → SumsFit y n d → Within y × Few (counts_told c) n
  unfolding SumsFit
  fit_of e h = subst (SumsFit y n) e h

  pub up_done : {c : told.Counts} → d ≡ Ok c → plus y (counted n (counts_told c)) ≡ brought_up y n d
  unfolding brought_up
  up_done e = sym (ap (brought_up y n) e)

  pub up_refused : {r : Refusal} → d ≡ Err r → y ≡ brought_up y n d
  unfolding brought_up
  up_refused e = sym (ap (brought_up y n) e)

-- a decode of x with the tally y, whose answer is d and which leaves the frame g
module _ (y : Tally) (x : Decode) (g : Frame) where
  abbrev sent : ℕ
  sent = length x.info + length x.red

  judged : (d : Result told.Counts Refusal) → corrected_of d g ≡ further_call (full_rule y) x → (corrected_of d g).verdict ≡ (verdict_for x then full_rule y)
  judged d e = ap (λ (c : Corrected). c.verdict) e ∙ further_verdict (full_rule y) x

  counts_are : (d : Result told.Counts Refusal) → corrected_of d g ≡ further_call (full_rule y) x → (verdict_for x then full_rule y) ≡ accepted → (corrected_of d g).counts ≡ (call_of x).counts
  counts_are d e a = ap (λ (c : Corrected). c.counts) e ∙ further_counts (full_rule y) x a

  fits : (d : Result told.Counts Refusal) → corrected_of d g ≡ further_call (full_rule y) x → SumsFit y (length x.info + length x.red) d
  unfolding SumsFit corrected_of
  fits (Ok c) e =
      let a : (verdict_for x then full_rule y) ≡ accepted = sym (judged (Ok c) e) in (
        full-within y (then_rest (verdict_for x) (full_rule y) a),
        subst (λ (k : Counts). Few k sent) (sym (counts_are (Ok c) e a)) (decode-few x (then_first (verdict_for x) (full_rule y) a)),
      )
  fits (Err r) e = tt

  sums_are : (d : Result told.Counts Refusal) → corrected_of d g ≡ further_call (full_rule y) x → brought_up y (length x.info + length x.red) d ≡ (tally_call y x).tally
  unfolding brought_up corrected_of refused_frame contribution tally_verdict
  sums_are (Ok c) e =
      let a : (verdict_for x then full_rule y) ≡ accepted = sym (judged (Ok c) e) in
      ap (λ (k : Counts). plus y (counted sent k)) (counts_are (Ok c) e a) ∙ sym (tally-accepted y x a)
  sums_are (Err r) e = sym (tally-refused y x (λ a. refusal_refuses r (judged (Err r) e ∙ a)))

  module _ (d : Result told.Counts Refusal) (v : Verdict) (is : v ≡ full_rule y) (e : corrected_of d g ≡ further_call v x) where
    full : corrected_of d g ≡ further_call (full_rule y) x
    full = e ∙ ap (λ (u : Verdict). further_call u x) is

    pub sums-fit : SumsFit y (length x.info + length x.red) d
    sums-fit = fits d full

    pub tallied_is : (z : Tally) → z ≡ brought_up y (length x.info + length x.red) d → record { corrected = corrected_of d g; tally = z } ≡ tally_call y x
    unfolding tally_call
    tallied_is z h = λ i. record { corrected = full i; tally = (h ∙ sums_are d full) i }
