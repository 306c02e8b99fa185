-- What `mend` prints.
--   mend_stopped                   the refusal of a rule before the call
--   block_room .. lines-printed    both texts of a corrected frame and the counts, one after the other
--   frame-fits                     they have room behind a text that was scanned
--   frame_read                     it is read
--   red-room, work-room            the redundancy that such a text shows, and the decoder's working bytes
--   decoded-prints, refused-prints what the decoder's answer prints
--   mend_printed                   it is what `mend` prints
-- Assumes nothing.
use Rattle.std.specs.Prelude.{Err, Ok, Result, IsOk}
use Rattle.answers.specs.declared.TextError.{TextError}
use Rattle.text_frame.specs.Answers.{blocks_verdict}
use Rattle.text_frame.proofs.Answering.{blocks_accepted}
use mathlib.Core.Path.{◌≡◌, sym, ap, ◌∙◌}
use mathlib.Core.List.{List, ◌++◌}
use Prim.Native.Nat.{ℕ, ◌+◌, ◌*◌, ◌≤◌}
use native.Mathlib.Omega.{arith}
use native.Mathlib.Nat.{mul-add, mul-le-mul, le_refl, mul_assoc, mul_comm}
use lib.ListN.{length, length-append}
use lib.Seq.{sets, length-sets}
use Rattle.staircase.specs.Design.{most-blocks}
use Rattle.staircase.specs.Frame.{Frame, frame_of, groups}
use Rattle.staircase.specs.Rules.{word_work, kept_work, decoder_work}
use Rattle.staircase.specs.Rules.Verdict.{accepted, refused}
use Rattle.staircase.specs.Calls.{Corrected, decode_call}
use Rattle.design.specs.declared.Design.{Design}
use Rattle.answers.specs.declared.Refusal.{Refusal}
use Rattle.answers.specs.Answers.{refusal_verdict, refused_frame, corrected_of}
use Rattle.design.specs.Sizes.{params_of, order_of}
use Rattle.answers.specs.declared.Counts.{Counts}
use Rattle.text.specs.FrameText.{block_text, group_text}
use Rattle.text.specs.Programs.{refusal_text, counts_text, most-input, printed, mend_call, mend_text, mend_output}
use Rattle.text_lines.proofs.Decimal.{dec-short}
use Rattle.text_lines.proofs.Placing.{counts-length}
use Rattle.text_lines.proofs.Storing.{sets-append}
use Rattle.text_lines.proofs.Lines.{block-text-length, group-text-length}
use Rattle.text_write.specs.Room.{puts, after}
use Rattle.text_write.proofs.Room.{puts-room, after-room}
use Rattle.text.specs.KitReader.{head_number, read_kit_call}
use Rattle.text.specs.FrameReader.{frame_rule, frame_count, read_frame_call}
use Rattle.text.proofs.FramePromises.{frame_holds, frame-left}
use Rattle.staircase.proofs.Rules.{then_accepted, length-accepted}
use Rattle.program.specs.Output.{Printed, most-output}
use Rattle.program.specs.declared.Text.TheVariants.{Frame as Framed}
use Rattle.program.specs.Steps.{text_rule, start_rule, Scanned, SizesAre, MendReady, FrameSized}
use Rattle.program.specs.declared.Sizes.{Sizes}
use Rattle.text.proofs.Programs.{stopped, called}
use Rattle.program.proofs.Printing.{printed_as}
use Rattle.program.proofs.Starting.{behind-kit}
use Rattle.program.proofs.ProgramReady.{order_is, few-entries, kit-left, frame-scanned, few-blocks}

-- ---- before the call

pub mend_stopped : (kit text : List ℕ) (rule place : ℕ) → start_rule Framed kit text ≡ refused rule place → mend_output kit text ≡ refusal_text rule place
unfolding mend_output start_rule text_rule
mend_stopped kit text rule place e =
    stopped kit text (frame_rule (head_number kit 2) (head_number kit 0 * head_number kit 1) text) (mend_call kit text).verdict _ rule place e

-- a frame's bits are no more than its text's bytes
short : (d : Design) (L : ℕ) (kit text : List ℕ) → Scanned Framed d L kit text → L * (d.size * d.size) + groups L * (2 * order_of d) ≤ most-input
short d L kit text B =
    let (a, c) = frame-scanned d L kit text B in
    let r : ℕ = d.m * d.t in
    let h = frame_holds d.size r text a in
    let t : L * (d.size * d.size + 3) + groups L * (2 * (d.size * r) + 4) ≤ length text =
    rw (ap (λ (k : ℕ). k * (d.size * d.size + 3) + groups k * (2 * (d.size * r) + 4)) c) h.text-length in
    omega (arith, t, B.started.text-short, mul-add L (d.size * d.size) 3, mul-add (groups L) (2 * (d.size * r)) 4)

pub red-room : (d : Design) (L : ℕ) (kit text : List ℕ) → Scanned Framed d L kit text → (s : Sizes) → SizesAre s d L → s.red ≤ most-input
red-room d L kit text B s z = omega (arith, z.red-is, short d L kit text B)

pub work-room : (d : Design) (L : ℕ) (kit text : List ℕ) → Scanned Framed d L kit text → decoder_work (params_of d) L ≤ 37045
unfolding decoder_work word_work kept_work
work-room d L kit text B =
    let A = B.started.allowed in
    let r : 4 * 1 ≤ d.m * d.t = mul-le-mul A.m-low A.t-low in
    let w : groups L * d.size * 4 ≤ groups L * d.size * (d.m * d.t) = mul-le-mul (le_refl (groups L * d.size)) r in
    let e : groups L * (2 * order_of d) ≡ 2 * (groups L * d.size * (d.m * d.t)) = red_as (groups L) d.size (d.m * d.t) in
    omega (arith, w, e, short d L kit text B, few-entries d kit text B.started)
  where
    red_as : (g M r : ℕ) → g * (2 * (M * r)) ≡ 2 * (g * M * r)
    red_as g M r = sym (mul_assoc g 2 (M * r)) ∙ ap (λ (z : ℕ). z * (M * r)) (mul_comm g 2) ∙ mul_assoc 2 g (M * r) ∙ ap (λ (z : ℕ). 2 * z) (sym (mul_assoc g M r))

pub frame-fits : (d : Design) (L : ℕ) (kit text : List ℕ) (own parity inverse info red work : ℕ) → MendReady d L kit text own parity inverse info red work
    → (i q : ℕ) → i ≡ info → q ≡ red → FrameSized d L i q
frame-fits d L kit text own parity inverse info red work F i q e f =
    record {
      few = few-blocks Framed d L kit text F.scanned;
      info-length = e ∙ F.info-length;
      red-length = f ∙ F.red-length;
      short = omega (arith, F.info-length, F.red-length, short d L kit text F.scanned);
    }

pub frame_read : (d : Design) (L : ℕ) (kit text info red : List ℕ) (own parity inverse work : ℕ)
    → MendReady d L kit text own parity inverse (length info) (length red) work
    → (x : Result ℕ TextError) → blocks_verdict x ≡ (read_frame_call d.size (d.m * d.t) text info red).verdict → IsOk x
unfolding read_frame_call
frame_read d L kit text info red own parity inverse work F x e =
    let (a, c) = frame-scanned d L kit text F.scanned in
    let n : ℕ = frame_count d.size (d.m * d.t) text in
    let i : length info ≡ n * (d.size * d.size) = F.info-length ∙ ap (λ (j : ℕ). j * (d.size * d.size)) c in
    let q : length red ≡ groups n * (2 * (d.size * (d.m * d.t))) = F.red-length ∙ ap (λ (j : ℕ). groups j * (2 * (d.size * (d.m * d.t)))) c in
    blocks_accepted x
    (e ∙ then_accepted a
    (then_accepted (length-accepted 4 (length info) (n * (d.size * d.size)) i) (length-accepted 5 (length red) (groups n * (2 * (d.size * (d.m * d.t)))) q)))

-- ---- the lines

module _ (d : Design) (L : ℕ) (info red : List ℕ) (F : FrameSized d L (length info) (length red)) where
  module _ (area : ℕ) (ea : area ≡ d.size * d.size) where
    pub block-bits : length info ≡ L * area
    block-bits = F.info-length ∙ ap (λ (k : ℕ). L * k) (sym ea)

    blocks-long : length (block_text area L info) ≤ 57355
    blocks-long = omega (arith, block-text-length area L info F.few block-bits, mul-add L area 6, F.few, F.short, block-bits)

    pub block_room : (room : ℕ) → most-output ≤ room → 0 + length (block_text area L info) ≤ room
    block_room room h = omega (arith, blocks-long)

  module _ (G n : ℕ) (g : G ≡ groups L) (en : n ≡ d.size * (d.m * d.t)) where
    pub group-bits : length red ≡ G * (2 * n)
    group-bits = F.red-length ∙ rw (g, en)

    pub few-groups : G ≤ most-blocks
    few-groups = omega (arith, F.few)

    groups-long : length (group_text n G red) ≤ 61458
    groups-long = omega (arith, group-text-length n G red few-groups group-bits, mul-add G (2 * n) 7, few-groups, F.short, group-bits)

    pub groups-room : (area i : ℕ) → area ≡ d.size * d.size → i ≡ 0 + length (block_text area L info) → (room : ℕ) → most-output ≤ room
        → i + length (group_text n G red) ≤ room
    groups-room area i ea e room h = omega (arith, blocks-long area ea, groups-long)

    pub lines-printed : (area i j r : ℕ) (o o₁ o₂ o₃ : List ℕ) (c : Counts) → area ≡ d.size * d.size → most-output ≤ length o
        → i ≡ 0 + length (block_text area L info) → o₁ ≡ sets o 0 (block_text area L info)
        → j ≡ i + length (group_text n G red) → o₂ ≡ sets o₁ i (group_text n G red)
        → r ≡ after o₂ j (counts_text c.rounds c.turned c.outside) → o₃ ≡ puts o₂ j (counts_text c.rounds c.turned c.outside)
        → Printed (mend_text d.size (order_of d) L (corrected_of (Ok c) (frame_of info red))) r o o₃
    unfolding mend_text corrected_of
    lines-printed area i j r o o₁ o₂ o₃ c ea h ei e₁ ej e₂ er e₃ =
        let B : List ℕ = block_text area L info in
        let T : List ℕ = group_text n G red in
        let C : List ℕ = counts_text c.rounds c.turned c.outside in
        let lb = blocks-long area ea in
        let lg = groups-long in
        let lc = counts-length c.rounds c.turned c.outside in
        let m : length o₂ ≡ length o =
        ap length e₂ ∙ length-sets o₁ i T ∙ ap length e₁ ∙ length-sets o 0 B
        in
        let room : j + length C ≤ length o₂ = omega (arith, dec-short c.rounds, dec-short c.turned, dec-short c.outside) in
        let whole : o₃ ≡ sets o 0 (B ++ (T ++ C)) =
        e₃ ∙ puts-room o₂ j C room ∙ ap (λ (k : ℕ). sets o₂ k C) ej ∙ ap (λ (l : List ℕ). sets l (i + length T) C) e₂
        ∙ sym (sets-append T C o₁ i) ∙ ap (λ (k : ℕ). sets o₁ k (T ++ C)) ei ∙ ap (λ (l : List ℕ). sets l (0 + length B) (T ++ C)) e₁
        ∙ sym (sets-append B (T ++ C) o 0)
        in
        let count : r ≡ length (B ++ (T ++ C)) =
        omega (arith, er, after-room o₂ j C room, length-append B (T ++ C), length-append T C)
        in
        printed_as (block_text (d.size * d.size) L info ++ (group_text (order_of d) (groups L) red ++ C)) (B ++ (T ++ C)) o o₃ r (rw (ea, g, en))
        (record { count = count; within = omega (arith, after-room o₂ j C room); bytes = whole })

-- what the decoder's answer prints
abbrev shown : Design → ℕ → Corrected → List ℕ
shown d L x = printed x.verdict (mend_text d.size (order_of d) L x)

module _ (d : Design) (L : ℕ) (f : Frame) (x : Result Counts Refusal) (o new : List ℕ) (n : ℕ) where
  pub decoded-prints : (c : Counts) → x ≡ Ok c → Printed (mend_text d.size (order_of d) L (corrected_of (Ok c) f)) n o new
      → Printed (printed (corrected_of x f).verdict (mend_text d.size (order_of d) L (corrected_of x f))) n o new
  unfolding printed corrected_of
  decoded-prints c e p = rw e p

  pub refused-prints : (r : Refusal) → x ≡ Err r → Printed (printed (refusal_verdict r) (mend_text d.size (order_of d) L (corrected_of x f))) n o new
      → Printed (printed (corrected_of x f).verdict (mend_text d.size (order_of d) L (corrected_of x f))) n o new
  unfolding corrected_of refused_frame
  refused-prints r e p = let q = rw e at p in rw e q

-- ---- the call

called_by : (d : Design) (L : ℕ) (kit text : List ℕ) → Scanned Framed d L kit text → mend_output kit text ≡ shown d L (mend_call kit text)
unfolding mend_output start_rule text_rule
called_by d L kit text B =
    let S = B.started in
    let c = (frame-scanned d L kit text B).1 in
    called kit text (frame_rule (head_number kit 2) (head_number kit 0 * head_number kit 1) text) (mend_call kit text).verdict _
    (behind-kit Framed d kit text accepted S B.accepts)
    ∙ rw (order_is d kit text S, c, S.m-is, S.t-is, S.M-is)

module _ (d : Design) (L : ℕ) (kit text o₀ p₀ w₀ i₀ q₀ : List ℕ) (work : ℕ)
    (F : MendReady d L kit text (length o₀) (length p₀) (length w₀) (length i₀) (length q₀) work) (o p i q : List ℕ)
    (eo : o ≡ (read_kit_call kit o₀ p₀ w₀).self) (ep : p ≡ (read_kit_call kit o₀ p₀ w₀).parity)
    (ei : i ≡ (read_frame_call d.size (d.m * d.t) text i₀ q₀).info) (eq : q ≡ (read_frame_call d.size (d.m * d.t) text i₀ q₀).red) where
  -- the call on what the texts show
  whole : decode_call d.m d.t d.size 0 L 0 o p i q work ≡ mend_call kit text
  unfolding mend_call
  whole =
      let S = F.scanned.started in
      let r : ℕ = d.m * d.t in
      let k = kit-left d kit text S o₀ p₀ w₀ F.own-length F.parity-length F.inverse-length in
      let (a, c) = frame-scanned d L kit text F.scanned in
      let f = frame-left d.size r text i₀ q₀ a (F.info-length ∙ ap (λ (j : ℕ). j * (d.size * d.size)) c)
      (F.red-length ∙ ap (λ (j : ℕ). groups j * (2 * (d.size * r))) c) in
      rw (eo ∙ k.0, ep ∙ k.1, ei ∙ f.0, eq ∙ f.1, F.work-length, c, S.m-is, S.t-is, S.M-is, S.col-is)

  pub mend_printed : (x : Result Counts Refusal) (i' q' : List ℕ) → corrected_of x (frame_of i' q') ≡ decode_call d.m d.t d.size 0 L 0 o p i q work
      → mend_output kit text ≡ printed (corrected_of x (frame_of i' q')).verdict (mend_text d.size (order_of d) L (corrected_of x (frame_of i' q')))
  mend_printed x i' q' e = called_by d L kit text F.scanned ∙ ap (shown d L) (sym (e ∙ whole))
