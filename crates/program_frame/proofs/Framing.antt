-- What `frame` prints.
--   frame_stopped                          the refusal of a rule before the call
--   groups-room, passed-groups             the groups that are printed
--   groups-fit                             they have room behind a text that was scanned
--   blocks_read                            the blocks are read
--   frame-printed                          what the encoder's answer prints is what `frame` prints
-- Assumes nothing.
use Rattle.answers.specs.declared.Refusal.{Refusal}
use Rattle.std.specs.Prelude.{Ok, Result, IsOk}
use Rattle.answers.specs.declared.TextError.{TextError}
use Rattle.text_frame.specs.Answers.{blocks_verdict}
use Rattle.text_frame.proofs.Answering.{blocks_accepted}
use mathlib.Core.Path.{◌≡◌, refl, sym, ap, ap₂, ◌∙◌}
use mathlib.Core.List.{List}
use Prim.Native.Nat.{ℕ, ◌+◌, ◌*◌, ◌≤◌}
use native.Mathlib.Omega.{arith}
use native.Mathlib.Nat.{mul-add}
use lib.ListN.{length, replicate, length-replicate}
use Rattle.staircase.specs.Design.{most-blocks}
use Rattle.staircase.specs.Frame.{groups}
use Rattle.staircase.specs.Rules.{Verdict, frame_lengths, kit_work}
use Rattle.staircase.specs.Rules.Verdict.{accepted, refused}
use Rattle.staircase.specs.Calls.{Encoded, encode_verdict, encoded_by, encode_call}
use Rattle.design.specs.declared.Design.{Design}
use Rattle.answers.specs.Answers.{verdict_of}
use Rattle.design.specs.Sizes.{order_of}
use Rattle.text.specs.FrameText.{group_text}
use Rattle.text.specs.Programs.{refusal_text, printed, frame_call, frame_output}
use Rattle.text_lines.proofs.Lines.{group-text-length}
use Rattle.text.specs.KitReader.{head_number, read_kit_call}
use Rattle.text.specs.FrameReader.{block_rule, block_count, block_info, read_blocks_call}
use Rattle.text.proofs.FramePromises.{blocks-left}
use Rattle.staircase.proofs.Rules.{then_accepted, length-accepted}
use Rattle.program.specs.Output.{most-output}
use Rattle.program.specs.declared.Text.TheVariants.{Blocks}
use Rattle.program.specs.Steps.{text_rule, start_rule, Started, Scanned, FrameReady, GroupsFit}
use Rattle.text.proofs.Programs.{stopped, called}
use Rattle.program.proofs.Starting.{behind-kit}
use Rattle.program.proofs.ProgramReady.{order_is, kit-left, blocks-scanned, few-blocks, red-short}

-- ---- before the call

pub frame_stopped : (kit text : List ℕ) (rule place : ℕ) → start_rule Blocks kit text ≡ refused rule place → frame_output kit text ≡ refusal_text rule place
unfolding frame_output start_rule text_rule
frame_stopped kit text rule place e = stopped kit text (block_rule (head_number kit 2) text) (frame_call kit text).verdict _ rule place e

-- ---- the groups

module _ (d : Design) (L : ℕ) (red : List ℕ) (F : GroupsFit d L (length red)) (G n : ℕ) (g : G ≡ groups L) (e : n ≡ d.size * (d.m * d.t)) where
  pub group-bits : length red ≡ G * (2 * n)
  group-bits = F.red-length ∙ rw (g, e)

  pub few-groups : G ≤ most-blocks
  few-groups = omega (arith, F.few)

  pub groups-room : (room : ℕ) → most-output ≤ room → 0 + length (group_text n G red) ≤ room
  groups-room room h =
      let k : G ≤ 2048 = omega (arith, F.few) in
      omega (arith, group-text-length n G red few-groups group-bits, mul-add G (2 * n) 7, F.short, group-bits)

  pub passed-groups : (c : Result Unit Refusal) → c ≡ (Ok tt) → printed (verdict_of c) (group_text (order_of d) (groups L) red) ≡ group_text n G red
  unfolding verdict_of printed
  passed-groups c f = rw (f, g, e)

pub groups-fit : (d : Design) (L : ℕ) (kit text : List ℕ) (own parity inverse info red work : ℕ) → FrameReady d L kit text own parity inverse info red work
    → (q : ℕ) → q ≡ red → GroupsFit d L q
groups-fit d L kit text own parity inverse info red work F q e =
    record {
      few = few-blocks Blocks d L kit text F.scanned;
      red-length = e ∙ F.red-length;
      short = omega (arith, F.red-length, red-short Blocks d L kit text F.scanned);
    }

-- ---- the text is read

pub blocks_read : (d : Design) (L : ℕ) (kit text info : List ℕ) (own parity inverse red work : ℕ)
    → FrameReady d L kit text own parity inverse (length info) red work
    → (x : Result ℕ TextError) → blocks_verdict x ≡ (read_blocks_call d.size text info).verdict → IsOk x
unfolding read_blocks_call
blocks_read d L kit text info own parity inverse red work F x e =
    let (a, c) = blocks-scanned d L kit text F.scanned in
    let l : length info ≡ block_count d.size text * (d.size * d.size) = F.info-length ∙ ap (λ (j : ℕ). j * (d.size * d.size)) c in
    blocks_accepted x (e ∙ then_accepted a (length-accepted 4 (length info) (block_count d.size text * (d.size * d.size)) l))

-- ---- the call

called_by : (d : Design) (L : ℕ) (kit text : List ℕ) → Scanned Blocks d L kit text
    → frame_output kit text ≡ printed (frame_call kit text).verdict (group_text (order_of d) (groups L) (frame_call kit text).red)
unfolding frame_output start_rule text_rule
called_by d L kit text B =
    let S = B.started in
    let c = (blocks-scanned d L kit text B).1 in
    called kit text (block_rule (head_number kit 2) text) (frame_call kit text).verdict _ (behind-kit Blocks d kit text accepted S B.accepts)
    ∙ rw (order_is d kit text S, c, S.M-is)

-- the old redundancy is measured and not looked at
measured : (m t M L k : ℕ) (o p w i a b : List ℕ) → length a ≡ length b → encode_verdict m t M 0 L o p w i a k ≡ encode_verdict m t M 0 L o p w i b k
unfolding encode_verdict frame_lengths
measured m t M L k o p w i a b e = rw e

-- and printed is only what was made
old_apart : (f : List ℕ → List ℕ) (u v : Verdict) (a b new : List ℕ) → u ≡ v
    → printed (encoded_by u a new).verdict (f (encoded_by u a new).red) ≡ printed (encoded_by v b new).verdict (f (encoded_by v b new).red)
unfolding printed
old_apart f u v a b new e = rw e (go v)
  where
    go : (v : Verdict) → printed (encoded_by v a new).verdict (f (encoded_by v a new).red) ≡ printed (encoded_by v b new).verdict (f (encoded_by v b new).red)
    go accepted = refl
    go (refused n p) = refl

module _ (d : Design) (L : ℕ) (kit text o₀ p₀ w₀ i₀ red : List ℕ) (work : ℕ)
    (F : FrameReady d L kit text (length o₀) (length p₀) (length w₀) (length i₀) (length red) work) (o p w i : List ℕ)
    (eo : o ≡ (read_kit_call kit o₀ p₀ w₀).self) (ep : p ≡ (read_kit_call kit o₀ p₀ w₀).parity) (ew : w ≡ (read_kit_call kit o₀ p₀ w₀).inverse)
    (ei : i ≡ (read_blocks_call d.size text i₀).info) where
  S : Started d kit text
  S = F.scanned.started

  abbrev zeros : List ℕ
  zeros = replicate (groups L * (2 * order_of d)) 0

  abbrev shown : Encoded → List ℕ
  shown x = printed x.verdict (group_text (order_of d) (groups L) x.red)

  -- the call on what the texts show
  whole : encode_call d.m d.t d.size 0 L o p w i (replicate (groups L * (2 * order_of d)) 0) work ≡ frame_call kit text
  unfolding frame_call kit_work
  whole =
      let k = kit-left d kit text S o₀ p₀ w₀ F.own-length F.parity-length F.inverse-length in
      let (a, c) = blocks-scanned d L kit text F.scanned in
      let b : (read_blocks_call d.size text i₀).info ≡ block_info d.size text =
      blocks-left d.size text i₀ a (F.info-length ∙ ap (λ (j : ℕ). j * (d.size * d.size)) c) in
      rw (eo ∙ k.0, ep ∙ k.1, ew ∙ k.2, ei ∙ b, F.work-length, c, S.m-is, S.t-is, S.M-is)

  same : shown (encode_call d.m d.t d.size 0 L o p w i red work) ≡ shown (encode_call d.m d.t d.size 0 L o p w i zeros work)
  unfolding encode_call
  same =
      let f : List ℕ → List ℕ = λ x. group_text (order_of d) (groups L) x in
      let verdict : List ℕ → Verdict = λ x. encode_verdict d.m d.t d.size 0 L o p w i x work in
      old_apart f (verdict red) (verdict zeros) red zeros _
      (measured d.m d.t d.size L work o p w i red zeros (F.red-length ∙ sym (length-replicate (groups L * (2 * order_of d)) 0)))

  pub frame-printed : (c : Result Unit Refusal) (red' : List ℕ) → verdict_of c ≡ (encode_call d.m d.t d.size 0 L o p w i red work).verdict
      → red' ≡ (encode_call d.m d.t d.size 0 L o p w i red work).red
      → frame_output kit text ≡ printed (verdict_of c) (group_text (order_of d) (groups L) red')
  frame-printed c red' ev er =
      called_by d L kit text F.scanned ∙ ap shown (sym whole) ∙ sym same
      ∙ sym (ap₂ (λ (v : Verdict) (l : List ℕ). printed v (group_text (order_of d) (groups L) l)) ev er)
