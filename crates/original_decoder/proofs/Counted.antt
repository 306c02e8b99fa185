-- The decoder's counts of a buffer that no rule refuses.
--   decoded-made    after rounds
--   decoded-idle    where all rows are in the code: one idle round
-- Assumes nothing.
use Rattle.std.specs.Prelude.{Ok}
use mathlib.Core.Path.{◌≡◌, sym, ap, ◌∙◌}
use mathlib.Core.Bool.{true}
use mathlib.Core.List.{List}
use Prim.Native.Nat.{ℕ, ◌≤◌}
use native.Mathlib.Omega.{arith}
use Rattle.staircase.specs.Design.{Params}
use Rattle.staircase.specs.Frame.{Frame, Word, in_code, outside_each}
use Rattle.staircase.specs.Decoder.{Progress, round_of, Decoded, run_each, rounds_allowed}
use Rattle.staircase.specs.Outcomes.{last_stuck}
use Rattle.staircase.specs.LineErrors.{line_errors}
use Rattle.staircase.specs.Rules.Verdict.{accepted}
use Rattle.staircase.proofs.Member.{In}
use Rattle.staircase.proofs.LineErrors.{line_errors-same}
use Rattle.staircase.proofs.Outside.{each_inside}
use Rattle.staircase.proofs.Idle.{round_of-stays, run_each-stays}
use Rattle.staircase.proofs.Outcomes.{stuck_each-idle, last_stuck-idle}
use Rattle.staircase.proofs.Decoded.{rounds_allowed-some}
use Rattle.decoder_frame.proofs.Limit.{allowed_itself}
use Rattle.answers.specs.declared.Counts.{Counts}
use Rattle.answers.specs.Answers.{corrected_of, buffer_decoded}
use Rattle.original.specs.Frame.{row_words, buffer_of}
use Rattle.original.specs.Calls.{original_decoded, original_counts}
use Rattle.original_decoder.specs.Answers.{decoded_buffer}

module _ (s : Params) (L k : ℕ) (l : List ℕ) where
  abbrev ws : List Word
  ws = row_words s L

  abbrev f : Frame
  f = buffer_of l

  pub decoded-made : (flips : ℕ) (g : List ℕ) (c : Counts) → 1 ≤ k → record { frame = buffer_of g; rounds = c.rounds; flips = flips } ≡ run_each (row_words s L) k (buffer_of l)
      → c.turned ≡ line_errors (buffer_of l) (buffer_of g) → c.outside ≡ outside_each (buffer_of g) (row_words s L) → c.stuck ≡ last_stuck (row_words s L) k (buffer_of l)
      → buffer_decoded (Ok c) g ≡ decoded_buffer s L k l
  unfolding buffer_decoded corrected_of decoded_buffer original_decoded original_counts
  decoded-made flips g c some e t o z =
      let same : k ≡ rounds_allowed k = allowed_itself k (λ n. omega (arith, some, n)) in
      let m : record { frame = buffer_of g; rounds = c.rounds; flips = flips } ≡ run_each ws (rounds_allowed k) f = e ∙ ap (λ (j : ℕ). run_each ws j f) same in
      let t' = t ∙ ap (λ (d : Decoded). line_errors f d.frame) m in
      let o' = o ∙ ap (λ (d : Decoded). outside_each d.frame ws) m in
      let z' = z ∙ ap (λ (j : ℕ). last_stuck ws j f) same in
      λ i. record { verdict = accepted; buffer = (m i).frame.info; counts = record { rounds = (m i).rounds; turned = t' i; outside = o' i; stuck = z' i } }

  pub decoded-idle : (c : Counts) → c ≡ record { rounds = 1; turned = 0; outside = 0; stuck = 0 } → outside_each (buffer_of l) (row_words s L) ≡ 0
      → buffer_decoded (Ok c) l ≡ decoded_buffer s L k l
  unfolding buffer_decoded corrected_of decoded_buffer original_decoded original_counts
  decoded-idle c q e =
      let h : (w : Word) → In w ws → in_code w.code f w.sites ≡ true = each_inside f ws e in
      let (j, some) = rounds_allowed-some k in
      let idle : (round_of ws f).flips ≡ 0 = ap (λ (x : Progress). x.flips) (round_of-stays f ws h) in
      let m : run_each ws (rounds_allowed k) f ≡ record { frame = f; rounds = 1; flips = 0 } = ap (λ (n : ℕ). run_each ws n f) some ∙ run_each-stays f ws h j in
      let t : line_errors f (run_each ws (rounds_allowed k) f).frame ≡ 0 = ap (λ (d : Decoded). line_errors f d.frame) m ∙ line_errors-same f in
      let o : outside_each (run_each ws (rounds_allowed k) f).frame ws ≡ 0 = ap (λ (d : Decoded). outside_each d.frame ws) m ∙ e in
      let z : last_stuck ws (rounds_allowed k) f ≡ 0 = ap (λ (n : ℕ). last_stuck ws n f) some ∙ last_stuck-idle ws j f idle ∙ (stuck_each-idle ws f idle).0 ∙ e in
      ap (λ (x : Counts). buffer_decoded (Ok x) l) q
      ∙ sym (λ i. record { verdict = accepted; buffer = (m i).frame.info; counts = record { rounds = (m i).rounds; turned = t i; outside = o i; stuck = z i } })
