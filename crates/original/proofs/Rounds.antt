-- The rounds of the decoder of original staircase frames: corollaries of the laws over any list of words.
--   original_left     what an accepted call leaves and counts
--   left-buffer       what rounds leave of a buffer of bits is one, as long
--   original_stays    a buffer with no row outside
--   original_rounds   the claim
-- Assumes nothing.
use mathlib.Core.Path.{◌≡◌, refl, sym, ap, ◌∙◌, subst}
use mathlib.Core.List.{List, [], ◌∷◌}
use Prim.Native.Nat.{ℕ, ◌≤◌, ◌<◌}
use native.Mathlib.Nat.{zero-lt-suc}
use native.Mathlib.Omega.{arith}
use lib.ListN.{length}
use Rattle.bch.specs.Polynomial.{Bits}
use Rattle.bch.specs.Code.{distance}
use Rattle.bch.proofs.Distance.{distance_self, distance-bound}
use Rattle.staircase.specs.Design.{Params, params}
use Rattle.staircase.specs.Frame.{Frame, Word, outside_each}
use Rattle.staircase.specs.Frame.Site.{in_info}
use Rattle.staircase.specs.Decoder.{round_of, run_each, rounds_allowed}
use Rattle.staircase.specs.Outcomes.{before_last}
use Rattle.staircase.specs.LineErrors.{line_errors}
use Rattle.staircase.specs.Rules.{Verdict, ◌then◌, count_rule, rounds_rule, length_rule, info_length, bit_rule}
use Rattle.staircase.specs.Rules.Verdict.{accepted, refused}
use Rattle.staircase.specs.Calls.{Counts}
use Rattle.staircase.proofs.Rules.{then_first, then_rest, then_accepted, length-accepted, length_equal, bytes_bits, bits-accepted}
use Rattle.staircase.proofs.Flip.{Received, bit_at-bits}
use Rattle.staircase.proofs.Rounds.{run_each_received}
use Rattle.staircase.proofs.Outside.{each_inside}
use Rattle.staircase.proofs.Settled.{run_each_enough}
use Rattle.staircase.proofs.Decoded.{counts_each, counts_each_stays, counts_each_idle, counts_each_early}
use Rattle.original.specs.Frame.{row_words, buffer_of}
use Rattle.original.specs.Rules.{original_rules, original_work}
use Rattle.original.specs.Calls.{original_decode_verdict, original_decoded, original_counts, CorrectedBuffer, corrected_buffer_by, original_decode_call}
use Rattle.original.specs.Rounds.{OriginalRounds}
use Rattle.original.proofs.Demand1.{corrected_buffer_by-verdict}

-- ---- what a call counts, by its verdict

by-stuck : (v : Verdict) (old new : List ℕ) (c : Counts) → c.stuck ≡ c.outside
    → (corrected_buffer_by v old new c).counts.stuck ≡ (corrected_buffer_by v old new c).counts.outside
by-stuck accepted old new c e = e
by-stuck (refused n p) old new c e = refl

by-early : (v : Verdict) (old new : List ℕ) (c : Counts) (n : ℕ) → (c.rounds < n → c.stuck ≡ c.outside)
    → (corrected_buffer_by v old new c).counts.rounds < n → (corrected_buffer_by v old new c).counts.stuck ≡ (corrected_buffer_by v old new c).counts.outside
by-early accepted old new c n e = e
by-early (refused r p) old new c n e = λ h. refl

by_turned : (v : Verdict) (old new : List ℕ) (c : Counts) → c.turned ≡ distance old new
    → (corrected_buffer_by v old new c).counts.turned ≡ distance old (corrected_buffer_by v old new c).buffer
by_turned accepted old new c e = e
by_turned (refused n p) old new c e = sym (distance_self old)

empty_of : (y : List ℕ) → length y ≡ 0 → y ≡ []
empty_of [] e = refl
empty_of (x ∷ y) e = absurd (omega arith)

module _ (m t M col L : ℕ) (work : ℕ) where
  abbrev s : Params
  s = params m t M col

  abbrev ws : List Word
  ws = row_words (params m t M col) L

  -- the frame that the rounds leave
  abbrev left : ℕ → List ℕ → Frame
  left k l = (run_each ws (rounds_allowed k) (buffer_of l)).frame

  pub original_left : (k : ℕ) (l : List ℕ) → (original_decode_call m t M col L k l work).verdict ≡ accepted
      → (original_decode_verdict m t M col L k l work ≡ accepted)
      × (original_decode_call m t M col L k l work
      ≡ record {
        verdict = accepted;
        buffer = (run_each (row_words (params m t M col) L) (rounds_allowed k) (buffer_of l)).frame.info;
        counts = counts_each (row_words (params m t M col) L) k (buffer_of l);
      })
  unfolding original_decode_call original_counts original_decoded
  original_left k l e =
      let v : Verdict = original_decode_verdict m t M col L k l work in
      let c : Counts = counts_each ws k (buffer_of l) in
      let same : v ≡ accepted = sym (corrected_buffer_by-verdict v l (left k l).info c) ∙ e in
      (same, ap (λ (v : Verdict). corrected_buffer_by v l (left k l).info c) same)

  -- ---- the rules that a call accepts by

  module _ (k : ℕ) (l : List ℕ) (ok : original_decode_verdict m t M col L k l work ≡ accepted) where
    abbrev v10 : Verdict
    v10 = bit_rule 0 l

    abbrev v6 : Verdict
    v6 = length_rule 6 work (original_work s L)

    abbrev v4 : Verdict
    v4 = length_rule 4 (length l) (info_length s L)

    after4 : (v4 then v6 then v10) ≡ accepted
    unfolding original_decode_verdict
    after4 =
        then_rest (rounds_rule k) (v4 then v6 then v10)
        (then_rest (count_rule L) (rounds_rule k then v4 then v6 then v10) (then_rest (original_rules m t M col) (count_rule L then rounds_rule k then v4 then v6 then v10) ok))

    bits : Bits l
    bits = bytes_bits 0 l (then_rest v6 v10 (then_rest v4 (v6 then v10) after4))

    pub left-buffer : Received (buffer_of l) (run_each (row_words (params m t M col) L) (rounds_allowed k) (buffer_of l)).frame
    left-buffer =
        run_each_received ws (buffer_of l) (rounds_allowed k) (buffer_of l)
        (record { info_length = refl; red_length = refl; binary = bit_at-bits (buffer_of l) bits (λ j. zero-lt-suc 1) })

    -- it is accepted again
    admits_left : original_decode_verdict m t M col L k (left k l).info work ≡ accepted
    unfolding original_decode_verdict
    admits_left =
        let R = left-buffer in
        let x : List ℕ = (left k l).info in
        let rest1 : (count_rule L then rounds_rule k then v4 then v6 then v10) ≡ accepted = then_rest (original_rules m t M col) (count_rule L then rounds_rule k then v4 then v6 then v10) ok in
        let rest2 : (rounds_rule k then v4 then v6 then v10) ≡ accepted = then_rest (count_rule L) (rounds_rule k then v4 then v6 then v10) rest1 in
        then_accepted (then_first (original_rules m t M col) (count_rule L then rounds_rule k then v4 then v6 then v10) ok)
        (then_accepted (then_first (count_rule L) (rounds_rule k then v4 then v6 then v10) rest1)
        (then_accepted (then_first (rounds_rule k) (v4 then v6 then v10) rest2)
        (then_accepted (length-accepted 4 (length x) (info_length s L) (R.info_length ∙ length_equal 4 (length l) (info_length s L) (then_first v4 (v6 then v10) after4)))
        (then_accepted (then_first v6 v10 (then_rest v4 (v6 then v10) after4)) (bits-accepted 0 x (λ j. R.binary (in_info j)))))))

    frame_is : buffer_of (left k l).info ≡ left k l
    frame_is = let e : [] ≡ (left k l).red = sym (empty_of (left k l).red left-buffer.red_length) in λ i. record { info = (left k l).info; red = e i }

  -- ---- a buffer with no row outside

  pub original_stays : (k : ℕ) (l : List ℕ) → original_decode_verdict m t M col L k l work ≡ accepted → outside_each (buffer_of l) (row_words (params m t M col) L) ≡ 0
      → original_decode_call m t M col L k l work ≡ record { verdict = accepted; buffer = l; counts = record { rounds = 1; turned = 0; outside = 0; stuck = 0 } }
  unfolding original_decode_call original_counts original_decoded
  original_stays k l ok none =
      let (same, counts) = counts_each_stays ws k (buffer_of l) (each_inside (buffer_of l) ws none) in
      ap (λ (v : Verdict). corrected_buffer_by v l (left k l).info (counts_each ws k (buffer_of l))) ok
      ∙ (λ i. record { verdict = accepted; buffer = (same i).info; counts = counts i })

  -- ---- the claim

  module _ (l : List ℕ) where
    settled : (j k : ℕ) → (original_decode_call m t M col L j l work).verdict ≡ accepted → (original_decode_call m t M col L k l work).verdict ≡ accepted
        → (original_decode_call m t M col L j l work).counts.outside ≡ 0 → rounds_allowed j ≤ rounds_allowed k
        → (original_decode_call m t M col L k l work).buffer ≡ (original_decode_call m t M col L j l work).buffer
    settled j k aj ak none more =
        let ej = (original_left j l aj).1 in
        ap (λ (c : CorrectedBuffer). c.buffer) (original_left k l ak).1
        ∙ ap (λ (f : Frame). f.info) (run_each_enough ws (rounds_allowed j) (rounds_allowed k) (buffer_of l) more (sym (ap (λ (c : CorrectedBuffer). c.counts.outside) ej) ∙ none))
        ∙ sym (ap (λ (c : CorrectedBuffer). c.buffer) ej)

    idle : (k : ℕ) → (round_of ws (before_last ws (rounds_allowed k) (buffer_of l))).flips ≡ 0
        → (original_decode_call m t M col L k l work).counts.stuck ≡ (original_decode_call m t M col L k l work).counts.outside
    unfolding original_decode_call original_counts original_decoded
    idle k e = by-stuck (original_decode_verdict m t M col L k l work) l (left k l).info (counts_each ws k (buffer_of l)) (counts_each_idle ws k (buffer_of l) e)

    early : (k : ℕ) → (original_decode_call m t M col L k l work).counts.rounds < rounds_allowed k
        → (original_decode_call m t M col L k l work).counts.stuck ≡ (original_decode_call m t M col L k l work).counts.outside
    unfolding original_decode_call original_counts original_decoded
    early k =
        by-early (original_decode_verdict m t M col L k l work) l (left k l).info (counts_each ws k (buffer_of l)) (rounds_allowed k) (counts_each_early ws k (buffer_of l))

    turned : (k : ℕ) → (original_decode_call m t M col L k l work).counts.turned ≡ distance l (original_decode_call m t M col L k l work).buffer
    unfolding original_decode_call original_counts original_decoded line_errors
    turned k =
        by_turned (original_decode_verdict m t M col L k l work) l (left k l).info (counts_each ws k (buffer_of l)) (omega (arith, distance-bound [] (left k l).red))

    again : (k : ℕ) → (original_decode_call m t M col L k l work).verdict ≡ accepted → (original_decode_call m t M col L k l work).counts.outside ≡ 0
        → original_decode_call m t M col L k (original_decode_call m t M col L k l work).buffer work
        ≡ record {
          verdict = accepted;
          buffer = (original_decode_call m t M col L k l work).buffer;
          counts = record { rounds = 1; turned = 0; outside = 0; stuck = 0 };
        }
    again k a none =
        let (ok, e) = original_left k l a in
        let b : (original_decode_call m t M col L k l work).buffer ≡ (left k l).info = ap (λ (c : CorrectedBuffer). c.buffer) e in
        let out : outside_each (left k l) ws ≡ 0 = sym (ap (λ (c : CorrectedBuffer). c.counts.outside) e) ∙ none in
        subst
        (λ (z : List ℕ). original_decode_call m t M col L k z work
        ≡ record { verdict = accepted; buffer = z; counts = record { rounds = 1; turned = 0; outside = 0; stuck = 0 } }) (sym b)
        (original_stays k (left k l).info (admits_left k l ok) (ap (λ (f : Frame). outside_each f ws) (frame_is k l ok) ∙ out))

    pub original_rounds : OriginalRounds m t M col L l work
    original_rounds =
        record {
          settled = settled;
          idle = idle;
          early = early;
          turned = turned;
          bound = λ k. subst (λ (z : ℕ). z ≤ length l) (sym (turned k)) (distance-bound l (original_decode_call m t M col L k l work).buffer);
          stays = λ k a. original_stays k l (original_left k l a).0;
          again = again;
        }
