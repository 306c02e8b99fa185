-- A frame that no word of which is outside its code stays as it is in every further round (document 02: "if a decode ends with no word outside, any
-- larger number of rounds .. gives the same bits").
--   run_each-settled     rounds over words that are all in their codes leave the frame
--   run_each_enough      where some number of rounds leaves no word outside, more rounds leave the same frame
--   decode-settled      the same of the decoder's call, 0 standing for the default on either side
-- Assumes nothing.
use mathlib.Core.Path.{◌≡◌, refl, sym, ap, ◌∙◌}
use mathlib.Core.List.{List}
use Prim.Native.Nat.{ℕ, zero, suc, ◌≤◌}
use native.Mathlib.Decide.{ℕ_discrete}
use native.Mathlib.Omega.{arith}
use Rattle.staircase.specs.Design.{Params, Interleavers, params}
use Rattle.staircase.specs.Frame.{Frame, Word, frame_of, words, outside, outside_each}
use Rattle.staircase.specs.Decoder.{round_of, Decoded, run_each, rounds_allowed, decoded}
use Rattle.staircase.specs.Rules.{Verdict, interleavers}
use Rattle.staircase.specs.Rules.Verdict.{accepted}
use Rattle.staircase.specs.Calls.{Counts, counts_of, Corrected, corrected_by, decode_verdict, decode_call}
use Rattle.staircase.proofs.Rounds.{run_each-idle, run_each-more}
use Rattle.staircase.proofs.Outside.{each_inside}
use Rattle.staircase.proofs.Idle.{run_each-stays}
use Rattle.staircase.proofs.Decoded.{corrected_by-verdict}

-- ---- rounds

module _ (ws : List Word) where
  pub run_each-settled : (k : ℕ) (f : Frame) → outside_each f ws ≡ 0 → (run_each ws k f).frame ≡ f
  unfolding run_each
  run_each-settled zero f e = refl
  run_each-settled (suc k) f e = ap (λ (d : Decoded). d.frame) (run_each-stays f ws (each_inside f ws e) k)

  -- j rounds leave no word outside: so do more, and the same frame
  pub run_each_enough : (j k : ℕ) (f : Frame) → j ≤ k → outside_each (run_each ws j f).frame ws ≡ 0 → (run_each ws k f).frame ≡ (run_each ws j f).frame
  unfolding run_each
  run_each_enough zero k f l e = run_each-settled k f e
  run_each_enough (suc j) zero f l e = absurd (omega (arith, l))
  run_each_enough (suc j) (suc k) f l e = go (ℕ_discrete (round_of ws f).flips 0) (λ g h. run_each_enough j k g (omega (arith, l)) h)
    where
      go : Dec ((round_of ws f).flips ≡ 0) → ((g : Frame) → outside_each (run_each ws j g).frame ws ≡ 0 → (run_each ws k g).frame ≡ (run_each ws j g).frame)
          → (run_each ws (suc k) f).frame ≡ (run_each ws (suc j) f).frame
      go (yes z) rest = ap (λ (d : Decoded). d.frame) (run_each-idle ws k f z) ∙ sym (ap (λ (d : Decoded). d.frame) (run_each-idle ws j f z))
      go (no d) rest =
          let more : (run_each ws (suc j) f).frame ≡ (run_each ws j (round_of ws f).frame).frame = ap (λ (d : Decoded). d.frame) (run_each-more ws j f d) in
          ap (λ (d : Decoded). d.frame) (run_each-more ws k f d)
          ∙ rest (round_of ws f).frame (ap (λ (g : Frame). outside_each g ws) (sym more) ∙ e) ∙ sym more

-- ---- the decoder's call

module _ (m t M col L : ℕ) (self parity info red : List ℕ) (work : ℕ) where
  abbrev s : Params
  s = params m t M col

  abbrev l : Interleavers
  l = interleavers s self parity

  -- the frame that the rounds leave
  abbrev left : ℕ → Frame
  left k = (decoded s l L k (frame_of info red)).frame

  accepted-left : (k : ℕ) → (decode_call m t M col L k self parity info red work).verdict ≡ accepted
      → ((decode_call m t M col L k self parity info red work).frame ≡ left k)
      × ((decode_call m t M col L k self parity info red work).counts.outside ≡ outside s l L (left k))
  unfolding decode_call counts_of
  accepted-left k e =
      let f : Frame = frame_of info red in
      let c : Counts = counts_of s l L k f in
      let v : Verdict = decode_verdict m t M col L k self parity info red work in
      let same = ap (λ (v : Verdict). corrected_by v f (left k) c) (sym (corrected_by-verdict v f (left k) c) ∙ e) in
      (ap (λ (x : Corrected). x.frame) same, ap (λ (x : Corrected). x.counts.outside) same)

  pub decode-settled : (j k : ℕ) → (decode_call m t M col L j self parity info red work).verdict ≡ accepted
      → (decode_call m t M col L k self parity info red work).verdict ≡ accepted
      → (decode_call m t M col L j self parity info red work).counts.outside ≡ 0 → rounds_allowed j ≤ rounds_allowed k
      → (decode_call m t M col L k self parity info red work).frame ≡ (decode_call m t M col L j self parity info red work).frame
  unfolding decoded outside
  decode-settled j k aj ak none more =
      let ws : List Word = words s l L in
      (accepted-left k ak).0
      ∙ run_each_enough ws (rounds_allowed j) (rounds_allowed k) (frame_of info red) more (sym (accepted-left j aj).1 ∙ none)
      ∙ sym (accepted-left j aj).0
