-- The decoder's answer: a refusal, or the corrected frame. One law for all calls, and what each call makes of it.
--   refused-is                                 a refused call leaves the frame and counts nothing
--   frame-window                               what is left and counted of a frame that no rule refuses
--   answer_design, answer_frame, answer_done   the answer at a refused design, at a refused frame, and after the rounds
--   last_refused, call_accepted, window-fits   the last check, checks that all passed, and what they leave of a window
--   answered_with                              the call that has one more check behind its rules
--   answered-window, numbers-some              the call with a window
-- Assumes nothing.
use Rattle.std.specs.Prelude.{Err, Ok, Result, IsErr, IsErrAnd}
use mathlib.Core.Path.{◌≡◌, refl, sym, ap, ap₂, ◌∙◌}
use mathlib.Core.Logic.{◌≢◌}
use mathlib.Core.List.{List, []}
use Prim.Native.Nat.{ℕ, zero, suc, ◌-◌, ◌≤◌}
use native.Mathlib.Omega.{arith}
use Rattle.staircase.specs.Design.{Params, Interleavers, params, most-rounds}
use Rattle.staircase.specs.Frame.{Frame, frame_of, groups, outside}
use Rattle.staircase.specs.LineErrors.{line_errors}
use Rattle.staircase.specs.Decoder.{Decoded, decoded, rounds_allowed}
use Rattle.staircase.specs.Rules.{Verdict, ◌then◌, design_rules, count_rule, rounds_rule, interleavers, list_lengths, frame_lengths, length_rule, decoder_work, list_rule, frame_bits}
use Rattle.staircase.specs.Rules.Verdict.{accepted, refused}
use Rattle.staircase.specs.Calls.{Counts, counts_of, Corrected, corrected_by, decode_verdict, decode_call}
use Rattle.staircase.specs.Tally.{decode_with, further_call}
use Rattle.staircase.specs.Window.{window_rule, positions, window_groups, window_words, slide, slide_stuck, windowed, window_stuck, window_counts, window_verdict, window_call}
use Rattle.staircase.proofs.Rules.{then_rest}
use Rattle.staircase.proofs.Window.{windowed_least, window_limits, whole-rounds, whole-counts}
use Rattle.answers.specs.declared.Counts as told
use Rattle.answers.specs.declared.Refusal.{Refusal}
use Rattle.design.specs.declared.Design.{Design}
use Rattle.design.specs.Answers.{DesignIs}
use Rattle.design.specs.Sizes.{params_of, lists_of}
use Rattle.design.proofs.Answers.{made-params, made-design}
use Rattle.rules.specs.Lengths.{lengths_of, decoder_due, frame_rules}
use Rattle.rules.proofs.Chain.{then_assoc, decoder_rules, received_bytes}
use Rattle.words.specs.Checks.{received_rules}
use Rattle.decoder_frame.specs.declared.Window.{Window}
use Rattle.decoder_frame.specs.Stretch.{WindowFits}
use Rattle.decoder.specs.declared.Call.{Call}
use Rattle.decoder.specs.Answers.{copy_rules, window_numbers, corrected_frame, call_rules, answered}
use Rattle.answers.specs.Answers.{refusal_verdict, verdict_of, corrected_of, refused_frame}
use Rattle.answers.proofs.Checks.{handed_on, refused_on, passed_then, refusal_refuses, check_passed}

pub refused-is : (v : Verdict) (old new : Frame) (c : Counts) → v ≢ accepted → refused_frame v old ≡ corrected_by v old new c
unfolding refused_frame
refused-is accepted old new c h = absurd (h refl)
refused-is (refused n p) old new c h = refl

-- ---- a frame that no rule refuses

module _ (s : Params) (l : Interleavers) (L k : ℕ) (f : Frame) (w : Window) where
  allowed-twice : (k : ℕ) → rounds_allowed (rounds_allowed k) ≡ rounds_allowed k
  allowed-twice zero = refl
  allowed-twice (suc k) = refl

  abbrev left : Decoded → ℕ → Corrected
  left d n =
      corrected_by accepted f d.frame (record { rounds = d.rounds; turned = line_errors f d.frame; outside = outside s l L d.frame; stuck = n })

  rounds-twice : (g : ℕ) → windowed s l L g (rounds_allowed k) f ≡ windowed s l L g k f
  unfolding windowed
  rounds-twice g = ap (λ (n : ℕ). slide (window_words s l L g) (positions (groups L) g) n f) (allowed-twice k)

  stuck-twice : (g : ℕ) → window_stuck s l L g (rounds_allowed k) f ≡ window_stuck s l L g k f
  unfolding window_stuck
  stuck-twice g = ap (λ (n : ℕ). slide_stuck (window_words s l L g) (groups L - g) n f) (allowed-twice k)

  -- the groups that stand in a window, and the rounds that a number stands for
  pub frame-window : (v : ℕ) → w ≡ record { groups = window_groups (groups L) v; limit = rounds_allowed k }
      → corrected_frame s l L w.groups w.limit f ≡ corrected_by accepted f (windowed s l L v k f).frame (window_counts s l L v k f)
  unfolding corrected_frame window_counts
  frame-window v e =
      let g : ℕ = window_groups (groups L) v in
      let least = windowed_least s l L v k f in
      ap (λ (z : Window). left (windowed s l L z.groups z.limit f) (window_stuck s l L z.groups z.limit f)) e
      ∙ ap₂ left (rounds-twice g ∙ least.0) (stuck-twice g ∙ least.1)

-- ---- a call judges a design, then by its checks and the rules on a frame, and then corrects

module _ (call : Call) (own parity info red : List ℕ) (work : ℕ) where
  abbrev f : Frame
  f = frame_of info red

  abbrev rules : Params → Verdict
  rules s = call_rules call s own parity info red work

  abbrev new : Params → Frame
  new s = (windowed s (interleavers s own parity) call.blocks call.window call.rounds f).frame

  abbrev counts : Params → Counts
  counts s = window_counts s (interleavers s own parity) call.blocks call.window call.rounds f

  abbrev asked : Params
  asked = params call.m call.t call.size call.col

  abbrev judged : Verdict
  judged = design_rules call.m call.t call.size call.col then rules asked

  refused_answer : (c : Result told.Counts Refusal) {r : Refusal} → c ≡ Err r → verdict_of c ≡ judged → corrected_of c f ≡ answered call own parity info red work
  unfolding corrected_of verdict_of answered
  refused_answer c {r} k e =
      ap (λ (z : Result told.Counts Refusal). corrected_of z f) k ∙ refused-is (refusal_verdict r) f (new asked) (counts asked) (refusal_refuses r)
      ∙ ap (λ (v : Verdict). corrected_by v f (new asked) (counts asked)) (sym (ap verdict_of k) ∙ e)

  module _ (a : Result Design Refusal) (n : verdict_of a ≡ design_rules call.m call.t call.size call.col) where
    -- c is what the call hands on
    pub answer_design : (c : Result told.Counts Refusal) {r : Refusal} → a ≡ Err r → IsErr c × IsErrAnd c (λ (e : Refusal). e ≡ r)
        → corrected_of c (frame_of info red) ≡ answered call own parity info red work
    answer_design c g h = refused_answer c (handed_on c h.1) (refused_on (rules asked) n c g h)

    module _ (i : DesignIs a call.m call.t call.size call.col) (d : Design) (g : a ≡ Ok d) where
      verdict-is : {A : Type 0} (x : Result A Refusal) → verdict_of x ≡ rules (params_of d) → verdict_of x ≡ judged
      verdict-is x e = made-design call.m call.t call.size call.col rules a n x i g e

      pub answer_frame : (c : Result told.Counts Refusal) (r : Refusal) → IsErrAnd c (λ (e : Refusal). e ≡ r) → verdict_of c ≡ call_rules call (params_of d) own parity info red work
          → corrected_of c (frame_of info red) ≡ answered call own parity info red work
      answer_frame c r h e = refused_answer c (handed_on c h) (verdict-is c e)

      pub answer_done : (y : Corrected) (w : Window) → call_rules call (params_of d) own parity info red work ≡ accepted
          → w ≡ record { groups = window_groups (groups call.blocks) call.window; limit = rounds_allowed call.rounds }
          → y ≡ corrected_frame (params_of d) (lists_of d own parity) call.blocks w.groups w.limit (frame_of info red)
          → y ≡ answered call own parity info red work
      unfolding answered verdict_of
      answer_done y w q z h =
          let done : Result Unit Refusal = Ok tt in
          h ∙ frame-window (params_of d) (lists_of d own parity) call.blocks call.rounds f w call.window z
          ∙ ap (λ (s : Params). corrected_by accepted f (new s) (counts s)) (made-params g call.m call.t call.size call.col i)
          ∙ ap (λ (v : Verdict). corrected_by v f (new asked) (counts asked)) (verdict-is done (sym q))

-- the last check's refusal, handed on
pub last_refused : {A B : Type 0} {x : Result A Refusal} {r : Refusal} (y : Result B Refusal) → x ≡ Err r → IsErrAnd y (λ (e : Refusal). e ≡ r) → verdict_of y ≡ verdict_of x
unfolding verdict_of
last_refused y e h = ap verdict_of (handed_on y h) ∙ sym (ap verdict_of e)

-- a frame's rules between two checks that passed
pub call_accepted : (call : Call) (s : Params) (own parity info red : List ℕ) (work : ℕ) (x : Result Unit Refusal)
    → verdict_of x ≡ copy_rules s call.blocks call.rounds own parity info red work
    → call.first ≡ Ok tt → x ≡ Ok tt → call.last ≡ Ok tt → call_rules call s own parity info red work ≡ accepted
call_accepted call s own parity info red work x e first passed last =
    sym (sym (check_passed last) ∙ passed_then (verdict_of call.last) e passed
    ∙ passed_then (copy_rules s call.blocks call.rounds own parity info red work then verdict_of call.last) refl first)

pub window-fits : (L k v : ℕ) (w : Window) → w ≡ record { groups = window_groups (groups L) v; limit = rounds_allowed k } → 1 ≤ L → 1 ≤ v
    → 1 ≤ w.limit → w.limit ≤ most-rounds → WindowFits L w
window-fits L k v w e some low a b =
    let g : w.groups ≡ window_groups (groups L) v = ap (λ (z : Window). z.groups) e in
    record { some-groups = omega (arith, g, some, low); all-groups = omega (arith, g); some-rounds = a; few-rounds = b }

-- ---- the two calls

-- a rule counts only where those before it accept
further_same : (u v : Verdict) (f g : Frame) (c : Counts)
    → corrected_by (u then v) f g c ≡ corrected_by (u then v) f (corrected_by u f g c).frame (corrected_by u f g c).counts
further_same accepted v f g c = refl
further_same (refused n p) v f g c = refl

-- rules 4 and 5 come twice
numbers-again : (a b c d : Verdict) → ((a then b then c) then (a then b then d) then accepted) ≡ (a then b then c then d)
numbers-again accepted accepted accepted accepted = refl
numbers-again accepted accepted accepted (refused n p) = refl
numbers-again accepted accepted (refused n p) d = refl
numbers-again accepted (refused n p) c d = refl
numbers-again (refused n p) b c d = refl

module _ (m t M col L k : ℕ) (own parity info red : List ℕ) (work : ℕ) where
  copy_verdict : (s : Params) → copy_rules s L k own parity info red work
      ≡ (count_rule L then rounds_rule k then list_lengths s own parity then frame_lengths s L info red then length_rule 6 work (decoder_work s L)
      then list_rule s (interleavers s own parity) then frame_bits info red)
  unfolding copy_rules received_rules
  copy_verdict s =
      ap (λ (z : Verdict). frame_rules s L k (lengths_of own parity [] info red work) (decoder_due s L) then z) (received_bytes s (interleavers s own parity) info red)
      ∙ decoder_rules s own parity work (list_rule s (interleavers s own parity) then frame_bits info red) L k info red

  pub answered_with : (last : Result Unit Refusal)
      → answered (record { m = m; t = t; size = M; col = col; blocks = L; rounds = k; window = L; first = (Ok tt); last = last }) own parity info red work
      ≡ further_call (verdict_of last) (decode_with m t M col L k own parity info red work)
  unfolding answered further_call decode_call decode_verdict verdict_of
  answered_with last =
      let s : Params = params m t M col in
      let l : Interleavers = interleavers s own parity in
      let f : Frame = frame_of info red in
      let room : groups L ≤ L = omega arith in
      let rules : Verdict = design_rules m t M col then count_rule L then rounds_rule k then list_lengths s own parity then frame_lengths s L info red
      then length_rule 6 work (decoder_work s L) then list_rule s l then frame_bits info red in
      let judged : (design_rules m t M col then copy_rules s L k own parity info red work then verdict_of last) ≡ (rules then verdict_of last) =
      sym (then_assoc (design_rules m t M col) (copy_rules s L k own parity info red work) (verdict_of last))
      ∙ ap (λ (z : Verdict). (design_rules m t M col then z) then verdict_of last) (copy_verdict s) in
      (λ i. corrected_by (judged i) f (whole-rounds s l L L k f room i).frame (whole-counts s l L L k f room i))
      ∙ further_same rules (verdict_of last) f (decoded s l L k f).frame (counts_of s l L k f)

  pub answered-window : (v : ℕ) (first : Result Unit Refusal) → verdict_of first ≡ window_numbers L k v
      → answered (record { m = m; t = t; size = M; col = col; blocks = L; rounds = k; window = v; first = first; last = (Ok tt) }) own parity info red work
      ≡ window_call m t M col L k v own parity info red work
  unfolding answered window_call window_verdict window_numbers verdict_of
  answered-window v first e =
      let s : Params = params m t M col in
      let l : Interleavers = interleavers s own parity in
      let f : Frame = frame_of info red in
      let rest : Verdict = list_lengths s own parity then frame_lengths s L info red then length_rule 6 work (decoder_work s L) then list_rule s l then frame_bits info red in
      ap (λ (z : Verdict). corrected_by (design_rules m t M col then z) f (windowed s l L v k f).frame (window_counts s l L v k f))
      (ap₂ (λ (x y : Verdict). x then y then accepted) e (copy_verdict s) ∙ numbers-again (count_rule L) (rounds_rule k) (window_rule v) rest)

pub numbers-some : (L k v : ℕ) → window_numbers L k v ≡ accepted → 1 ≤ v
unfolding window_numbers
numbers-some L k v n =
    let r : (rounds_rule k then window_rule v) ≡ accepted = then_rest (count_rule L) (rounds_rule k then window_rule v) n in
    (window_limits v (then_rest (rounds_rule k) (window_rule v) r)).0
