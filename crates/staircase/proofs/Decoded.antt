-- What the decoder counts, and a call of it that is accepted.
--   corrected_by-verdict          a call's verdict is that of its rules
--   rounds_allowed-some           a round at least is allowed
--   counts_each                   what rounds over any list of words count
--   counts_each_stays             of a frame whose words are all in the code: one idle round
--   counts_each_idle, counts_each_early   where the last round made flips nothing, or fewer are made than allowed, stuck words are words outside
--   counts_of-stays, counts_of-idle, counts_of-early   the same of the words of a frame
--   Decodes, decode-accepted     what the rules ask for
--   decode-left, decode-received what it leaves: the frame that the rounds make, as long as the copy and of bits
--   decode-again                 where no word is left outside, a second call makes one idle round
--   idle-stuck, early-stuck      counts_of-idle and counts_of-early of every call
-- Assumes nothing.
use mathlib.Core.Path.{◌≡◌, refl, ap, subst⁻¹, ◌∙◌}
use mathlib.Core.Bool.{true}
use mathlib.Core.List.{List}
use Prim.Native.Nat.{ℕ, zero, suc, ◌-◌, ◌<◌}
use lib.ListN.{length}
use Rattle.staircase.specs.Design.{Params, Interleavers, params}
use Rattle.staircase.specs.Frame.{Frame, Word, frame_of, words, in_code, outside_each, outside}
use Rattle.staircase.specs.Frame.Site.{in_info, in_red}
use Rattle.staircase.specs.Decoder.{Progress, round_of, Decoded, run_each, default_rounds, rounds_allowed, decoded}
use Rattle.staircase.specs.LineErrors.{line_errors}
use Rattle.staircase.specs.Outcomes.{before_last, last_stuck}
use Rattle.staircase.specs.Rules.{Verdict, ◌then◌, design_rules, count_rule, rounds_rule, length_rule, list_lengths, info_length, red_length, frame_lengths, decoder_work, interleavers, list_rule, frame_bits}
use Rattle.staircase.specs.Rules.Verdict.{accepted, refused}
use Rattle.staircase.specs.Calls.{Counts, counts_of, corrected_by, decode_verdict, decode_call}
use Rattle.staircase.proofs.Rules.{then_first, then_rest, then_accepted, length-accepted, frame-lengths, bits-accepted, frame-bits}
use Rattle.staircase.proofs.Flip.{Received, bit_at-bits}
use Rattle.staircase.proofs.Member.{In}
use Rattle.staircase.proofs.Rounds.{run_each_received}
use Rattle.staircase.proofs.Outside.{each_inside, outside_each_inside}
use Rattle.staircase.proofs.Idle.{round_of-stays, run_each-stays, decoded-stays}
use Rattle.staircase.proofs.LineErrors.{line_errors-same}
use Rattle.staircase.proofs.Outcomes.{stuck_each-idle, last_stuck-idle, last_stuck-outside, run_each-early}

pub corrected_by-verdict : (v : Verdict) (old new : Frame) (c : Counts) → (corrected_by v old new c).verdict ≡ v
corrected_by-verdict accepted old new c = refl
corrected_by-verdict (refused n p) old new c = refl

-- ---- what is counted

-- some number of rounds is allowed
pub rounds_allowed-some : (k : ℕ) → (j : ℕ) × (rounds_allowed k ≡ suc j)
rounds_allowed-some zero = (default_rounds - 1, refl)
rounds_allowed-some (suc k) = (k, refl)

-- what rounds over any list of words count: `counts_of` of the words of a frame
abbrev pub counts_each : List Word → ℕ → Frame → Counts
counts_each ws k f =
    let d : Decoded = run_each ws (rounds_allowed k) f in
    record { rounds = d.rounds; turned = line_errors f d.frame; outside = outside_each d.frame ws; stuck = last_stuck ws (rounds_allowed k) f }

module _ (ws : List Word) (k : ℕ) (f : Frame) where
  pub counts_each_stays : ((w : Word) → In w ws → in_code w.code f w.sites ≡ true)
      → ((run_each ws (rounds_allowed k) f).frame ≡ f) × (counts_each ws k f ≡ record { rounds = 1; turned = 0; outside = 0; stuck = 0 })
  counts_each_stays h =
      let (j, some) = rounds_allowed-some k in
      let ed : run_each ws (rounds_allowed k) f ≡ record { frame = f; rounds = 1; flips = 0 } = ap (λ (n : ℕ). run_each ws n f) some ∙ run_each-stays f ws h j in
      let none : outside_each f ws ≡ 0 = outside_each_inside f ws h in
      let idle : (round_of ws f).flips ≡ 0 = ap (λ (x : Progress). x.flips) (round_of-stays f ws h) in
      let eo : outside_each (run_each ws (rounds_allowed k) f).frame ws ≡ 0 = ap (λ (d : Decoded). outside_each d.frame ws) ed ∙ none in
      let es : last_stuck ws (rounds_allowed k) f ≡ 0 =
      ap (λ (n : ℕ). last_stuck ws n f) some ∙ last_stuck-idle ws j f idle ∙ (stuck_each-idle ws f idle).0 ∙ none in
      let et : line_errors f (run_each ws (rounds_allowed k) f).frame ≡ 0 = ap (λ (d : Decoded). line_errors f d.frame) ed ∙ line_errors-same f in
      (ap (λ (d : Decoded). d.frame) ed, λ i. record { rounds = (ed i).rounds; turned = et i; outside = eo i; stuck = es i })

  -- where the last round made flips nothing, the stuck words are those outside at the end
  pub counts_each_idle : (round_of ws (before_last ws (rounds_allowed k) f)).flips ≡ 0 → (counts_each ws k f).stuck ≡ (counts_each ws k f).outside
  counts_each_idle =
      let (j, some) = rounds_allowed-some k in
      subst⁻¹ (λ (n : ℕ). (round_of ws (before_last ws n f)).flips ≡ 0 → last_stuck ws n f ≡ outside_each (run_each ws n f).frame ws) some (last_stuck-outside ws j f)

  -- and so it is where fewer rounds are made than allowed
  pub counts_each_early : (counts_each ws k f).rounds < rounds_allowed k → (counts_each ws k f).stuck ≡ (counts_each ws k f).outside
  counts_each_early h =
      let (j, some) = rounds_allowed-some k in
      counts_each_idle
      (subst⁻¹ (λ (n : ℕ). (run_each ws n f).rounds < n → (round_of ws (before_last ws n f)).flips ≡ 0) some (run_each-early ws j f) h)

module _ (s : Params) (l : Interleavers) (L k : ℕ) (f : Frame) where
  pub counts_of-stays : ((w : Word) → In w (words s l L) → in_code w.code f w.sites ≡ true) → counts_of s l L k f ≡ record { rounds = 1; turned = 0; outside = 0; stuck = 0 }
  unfolding counts_of decoded outside
  counts_of-stays h = (counts_each_stays (words s l L) k f h).1

  pub counts_of-idle : (round_of (words s l L) (before_last (words s l L) (rounds_allowed k) f)).flips ≡ 0
      → (counts_of s l L k f).stuck ≡ (counts_of s l L k f).outside
  unfolding counts_of decoded outside
  counts_of-idle = counts_each_idle (words s l L) k f

  pub counts_of-early : (counts_of s l L k f).rounds < rounds_allowed k → (counts_of s l L k f).stuck ≡ (counts_of s l L k f).outside
  unfolding counts_of decoded outside
  counts_of-early = counts_each_early (words s l L) k f

-- ---- the call

pub record Decodes (m t M col L k : ℕ) (self parity info red : List ℕ) : Type 0 where
  pub design : design_rules m t M col ≡ accepted
  pub count : count_rule L ≡ accepted
  pub rounds : rounds_rule k ≡ accepted
  pub lists-fit : list_lengths (params m t M col) self parity ≡ accepted
  pub frame-fits : frame_lengths (params m t M col) L info red ≡ accepted
  pub lists : list_rule (params m t M col) (interleavers (params m t M col) self parity) ≡ accepted
  pub bits : frame_bits info red ≡ accepted

pub decode-accepted : (m t M col L k : ℕ) (self parity info red : List ℕ) (work : ℕ) → decode_verdict m t M col L k self parity info red work ≡ accepted
    → Decodes m t M col L k self parity info red
unfolding decode_verdict
decode-accepted m t M col L k self parity info red work e =
    let s : Params = params m t M col in
    let l : Interleavers = interleavers s self parity in
    let v7 : Verdict = list_rule s l then frame_bits info red in
    let v6 : Verdict = length_rule 6 work (decoder_work s L) then v7 in
    let v5 : Verdict = frame_lengths s L info red then v6 in
    let v3 : Verdict = list_lengths s self parity then v5 in
    let v2 : Verdict = rounds_rule k then v3 in
    let v1 : Verdict = count_rule L then v2 in
    let e1 : v1 ≡ accepted = then_rest (design_rules m t M col) v1 e in
    let e2 : v2 ≡ accepted = then_rest (count_rule L) v2 e1 in
    let e3 : v3 ≡ accepted = then_rest (rounds_rule k) v3 e2 in
    let e5 : v5 ≡ accepted = then_rest (list_lengths s self parity) v5 e3 in
    let e6 : v6 ≡ accepted = then_rest (frame_lengths s L info red) v6 e5 in
    let e7 : v7 ≡ accepted = then_rest (length_rule 6 work (decoder_work s L)) v7 e6 in
    record {
      design = then_first (design_rules m t M col) v1 e;
      count = then_first (count_rule L) v2 e1;
      rounds = then_first (rounds_rule k) v3 e2;
      lists-fit = then_first (list_lengths s self parity) v5 e3;
      frame-fits = then_first (frame_lengths s L info red) v6 e5;
      lists = then_first (list_rule s l) (frame_bits info red) e7;
      bits = then_rest (list_rule s l) (frame_bits info red) e7;
    }

module _ (m t M col L k : ℕ) (self parity info red : List ℕ) (ok : decode_verdict m t M col L k self parity info red (decoder_work (params m t M col) L) ≡ accepted) where
  abbrev s : Params
  s = params m t M col

  abbrev l : Interleavers
  l = interleavers s self parity

  abbrev d : Decoded
  d = decoded s l L k (frame_of info red)

  D : Decodes m t M col L k self parity info red
  D = decode-accepted m t M col L k self parity info red (decoder_work s L) ok

  pub decode_received : Received (frame_of info red) (decoded (params m t M col) (interleavers (params m t M col) self parity) L k (frame_of info red)).frame
  unfolding decoded
  decode_received =
      let b = frame-bits info red D.bits in
      run_each_received (words s l L) (frame_of info red) (rounds_allowed k) (frame_of info red)
      (record { info_length = refl; red_length = refl; binary = bit_at-bits (frame_of info red) b.0 b.1 })

  pub decode-left : decode_call m t M col L k self parity info red (decoder_work (params m t M col) L)
      ≡ record {
        verdict = accepted;
        frame = (decoded (params m t M col) (interleavers (params m t M col) self parity) L k (frame_of info red)).frame;
        counts = counts_of (params m t M col) (interleavers (params m t M col) self parity) L k (frame_of info red);
      }
  unfolding decode_call
  decode-left = ap (λ (v : Verdict). corrected_by v (frame_of info red) d.frame (counts_of s l L k (frame_of info red))) ok

  verdict-again : decode_verdict m t M col L k self parity d.frame.info d.frame.red (decoder_work s L) ≡ accepted
  unfolding decode_verdict frame_lengths frame_bits
  verdict-again =
      let x : List ℕ = d.frame.info in
      let y : List ℕ = d.frame.red in
      let R = decode_received in
      let n = frame-lengths s L info red D.frame-fits in
      let info-fits = length-accepted 4 (length x) (info_length s L) (R.info_length ∙ n.0) in
      let red-fits = length-accepted 5 (length y) (red_length s L) (R.red_length ∙ n.1) in
      let bits = then_accepted (bits-accepted 0 x (λ j. R.binary (in_info j))) (bits-accepted (length x) y (λ j. R.binary (in_red j))) in
      then_accepted D.design (then_accepted D.count (then_accepted D.rounds (then_accepted D.lists-fit
      (then_accepted (then_accepted info-fits red-fits) (then_accepted (length-accepted 6 (decoder_work s L) (decoder_work s L) refl) (then_accepted D.lists bits))))))

  pub decode-again : outside (params m t M col) (interleavers (params m t M col) self parity) L
      (decoded (params m t M col) (interleavers (params m t M col) self parity) L k (frame_of info red)).frame ≡ 0
      → decode_call m t M col L k self parity
      (decoded (params m t M col) (interleavers (params m t M col) self parity) L k (frame_of info red)).frame.info
      (decoded (params m t M col) (interleavers (params m t M col) self parity) L k (frame_of info red)).frame.red (decoder_work (params m t M col) L)
      ≡ record {
        verdict = accepted;
        frame = (decoded (params m t M col) (interleavers (params m t M col) self parity) L k (frame_of info red)).frame;
        counts = record { rounds = 1; turned = 0; outside = 0; stuck = 0 };
      }
  unfolding decode_call outside
  decode-again e =
      let f : Frame = d.frame in
      let h : (w : Word) → In w (words s l L) → in_code w.code f w.sites ≡ true = each_inside f (words s l L) e in
      ap (λ (v : Verdict). corrected_by v f (decoded s l L k f).frame (counts_of s l L k f)) verdict-again
      ∙ (λ j. record { verdict = accepted; frame = (decoded-stays s f l L k h j).frame; counts = counts_of-stays s l L k f h j })

-- "in the last round made": of every call, also a refused one, which counts nothing. Where fewer rounds are made than allowed, the last one is idle.
module _ (m t M col L k : ℕ) (self parity info red : List ℕ) (work : ℕ) where
  abbrev sizes : Params
  sizes = params m t M col

  abbrev lists : Interleavers
  lists = interleavers sizes self parity

  by : (v : Verdict) (old new : Frame) (c : Counts) → c.stuck ≡ c.outside → (corrected_by v old new c).counts.stuck ≡ (corrected_by v old new c).counts.outside
  by accepted old new c e = e
  by (refused n p) old new c e = refl

  pub idle-stuck : (round_of (words (params m t M col) (interleavers (params m t M col) self parity) L)
      (before_last (words (params m t M col) (interleavers (params m t M col) self parity) L) (rounds_allowed k) (frame_of info red))).flips ≡ 0
      → (decode_call m t M col L k self parity info red work).counts.stuck ≡ (decode_call m t M col L k self parity info red work).counts.outside
  unfolding decode_call
  idle-stuck e = by (decode_verdict m t M col L k self parity info red work) _ _ _ (counts_of-idle sizes lists L k (frame_of info red) e)

  pub early-stuck : (decode_call m t M col L k self parity info red work).counts.rounds < rounds_allowed k
      → (decode_call m t M col L k self parity info red work).counts.stuck ≡ (decode_call m t M col L k self parity info red work).counts.outside
  unfolding decode_call
  early-stuck = go (decode_verdict m t M col L k self parity info red work)
    where
      f : Frame
      f = frame_of info red

      go : (v : Verdict) → (corrected_by v f (decoded sizes lists L k f).frame (counts_of sizes lists L k f)).counts.rounds < rounds_allowed k
          → (corrected_by v f (decoded sizes lists L k f).frame (counts_of sizes lists L k f)).counts.stuck
          ≡ (corrected_by v f (decoded sizes lists L k f).frame (counts_of sizes lists L k f)).counts.outside
      go accepted h = counts_of-early sizes lists L k f h
      go (refused n p) h = refl
