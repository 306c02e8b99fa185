-- What `mend` prints of any frame text that it does not refuse.
--   mend_prints     the claim
-- Assumes nothing.
use mathlib.Core.Path.{◌≡◌, refl, sym, ap, ap₂, ◌∙◌}
use mathlib.Core.List.{List, ◌++◌, append_assoc}
use Prim.Native.Nat.{ℕ, ◌+◌, ◌*◌}
use native.Mathlib.Omega.{arith}
use lib.ListN.{length}
use Rattle.text_formats.proofs.Parts.{fit_append}
use Rattle.staircase.specs.Design.{Params, Interleavers, most-blocks}
use Rattle.staircase.specs.Frame.{Frame, frame_of, groups, outside}
use Rattle.staircase.specs.Frame.Site.{in_info, in_red}
use Rattle.staircase.specs.Decoder.{Decoded, decoded}
use Rattle.staircase.specs.Rules.{Verdict, info_length, red_length, decoder_work, interleavers}
use Rattle.staircase.specs.Rules.Verdict.{accepted}
use Rattle.staircase.specs.Calls.{counts_of, Corrected, decode_verdict, decode_call}
use Rattle.staircase.proofs.Flip.{Received}
use Rattle.staircase.proofs.Rules.{then_accepted}
use Rattle.text.specs.KitReader.{head_number, kit_params, self_of, parity_of}
use Rattle.text.specs.FrameText.{block_items, group_items, block_text, group_text, FrameText}
use Rattle.text.specs.FrameReader.{frame_rule, frame_count, frame_info, frame_red}
use Rattle.text.specs.Programs.{input_rule, printed, judged, counts_text, mend_call, mend_text, mend_output}
use Rattle.text.specs.MendPrints.{mend_verdict, mended, MendPrints}
use Rattle.text.proofs.FramePromises.{frame-accepted, frame_holds, FrameHolds}
use Rattle.text.proofs.Programs.{short_inputs, Admitted, judged-accepted}
use Rattle.text.proofs.FrameLengths.{blocks-fit, groups-fit, frame-length}
use Rattle.text.proofs.FrameThenMend.{append-same}
use Rattle.staircase.proofs.Decoded.{corrected_by-verdict, decode-left, decode_received, decode-again}

mend_call-by : (kit text : List ℕ) (L : ℕ) (i o : List ℕ) → frame_count (head_number kit 2) (head_number kit 0 * head_number kit 1) text ≡ L
    → frame_info (head_number kit 2) (head_number kit 0 * head_number kit 1) text ≡ i → frame_red (head_number kit 2) (head_number kit 0 * head_number kit 1) text ≡ o
    → mend_call kit text ≡ decode_call (head_number kit 0) (head_number kit 1) (head_number kit 2) 0 L 0 (self_of kit) (parity_of kit) i o (decoder_work (kit_params kit) L)
unfolding mend_call
mend_call-by kit text L i o a b c = rw (a, b, c) refl

module _ (kit copy : List ℕ) (ok : mend_verdict kit copy ≡ accepted) where
  abbrev m : ℕ
  m = head_number kit 0

  abbrev t : ℕ
  t = head_number kit 1

  abbrev M : ℕ
  M = head_number kit 2

  abbrev r : ℕ
  r = head_number kit 0 * head_number kit 1

  abbrev L : ℕ
  L = frame_count (head_number kit 2) (head_number kit 0 * head_number kit 1) copy

  A : Admitted kit copy (frame_rule M r copy) (mend_call kit copy).verdict
  unfolding mend_verdict
  A = judged-accepted kit copy (frame_rule M r copy) (mend_call kit copy).verdict ok

  decodes : decode_verdict m t M 0 L 0 (self_of kit) (parity_of kit) (frame_info M r copy) (frame_red M r copy) (decoder_work (kit_params kit) L) ≡ accepted
  unfolding mend_call decode_call
  decodes =
      let s : Params = kit_params kit in
      let l : Interleavers = interleavers s (self_of kit) (parity_of kit) in
      let f : Frame = frame_of (frame_info M r copy) (frame_red M r copy) in
      let v : Verdict = decode_verdict m t M 0 L 0 (self_of kit) (parity_of kit) (frame_info M r copy) (frame_red M r copy) (decoder_work s L) in
      sym (corrected_by-verdict v f (decoded s l L 0 f).frame (counts_of s l L 0 f)) ∙ A.call_ok

  abbrev made : Decoded
  made =
      decoded (kit_params kit) (interleavers (kit_params kit) (self_of kit) (parity_of kit))
      (frame_count (head_number kit 2) (head_number kit 0 * head_number kit 1) copy) 0
      (frame_of (frame_info (head_number kit 2) (head_number kit 0 * head_number kit 1) copy)
      (frame_red (head_number kit 2) (head_number kit 0 * head_number kit 1) copy))

  abbrev info : List ℕ
  info = made.frame.info

  abbrev red : List ℕ
  red = made.frame.red

  -- what the call leaves
  left : mend_call kit copy
      ≡ record {
        verdict = accepted;
        frame = made.frame;
        counts = counts_of (kit_params kit) (interleavers (kit_params kit) (self_of kit) (parity_of kit)) L 0 (frame_of (frame_info M r copy) (frame_red M r copy));
      }
  unfolding mend_call
  left = decode-left m t M 0 L 0 (self_of kit) (parity_of kit) (frame_info M r copy) (frame_red M r copy) decodes

  mended-is : mended kit copy ≡ block_text (M * M) L info ++ group_text (M * r) (groups L) red
  mended-is = ap (λ (c : Corrected). block_text (M * M) L c.frame.info ++ group_text (M * r) (groups L) c.frame.red) left

  like_copy : Received (frame_of (frame_info M r copy) (frame_red M r copy)) made.frame
  like_copy = decode_received m t M 0 L 0 (self_of kit) (parity_of kit) (frame_info M r copy) (frame_red M r copy) decodes

  holds : FrameHolds M r L (frame_info M r copy) (frame_red M r copy) copy
  holds = frame_holds M r copy A.text_ok

  info-long : length info ≡ L * (M * M)
  info-long = like_copy.info_length ∙ holds.info-length

  red-long : length red ≡ groups L * (2 * (M * r))
  red-long = like_copy.red_length ∙ holds.red-length

  whole : FrameText (M * M) (M * r) most-blocks L (info ++ red) (mended kit copy)
  unfolding block_text group_text
  whole =
      let P = fit_append (block_items (M * M) L) (group_items (M * r) (groups L)) info red
      (blocks-fit (M * M) L info info-long (λ k. like_copy.binary (in_info k)))
      (groups-fit (M * r) (groups L) red red-long (λ k. like_copy.binary (in_red k))) in
      record { some = holds.some; few = holds.few; spells = (P.0, mended-is ∙ sym P.1) }

  read_back : (frame_rule M r (mended kit copy) ≡ accepted) × (L ≡ frame_count M r (mended kit copy))
      × (info ++ red ≡ frame_info M r (mended kit copy) ++ frame_red M r (mended kit copy))
  read_back = (frame-accepted M r (mended kit copy)).1 L (info ++ red) whole

  back : (info ≡ frame_info M r (mended kit copy)) × (red ≡ frame_red M r (mended kit copy))
  back =
      let h = frame_holds M r (mended kit copy) read_back.0 in
      append-same info (frame_info M r (mended kit copy)) red (frame_red M r (mended kit copy))
      (info-long ∙ ap (λ (k : ℕ). k * (M * M)) read_back.1 ∙ sym h.info-length) read_back.2

  same_length : length (mended kit copy) ≡ length copy
  same_length =
      frame-length (M * M) (M * r) most-blocks L (info ++ red) (mended kit copy) whole
      ∙ sym (frame-length (M * M) (M * r) most-blocks L (frame_info M r copy ++ frame_red M r copy) copy ((frame-accepted M r copy).0 A.text_ok))

  -- what `mend` prints, by what its call leaves
  prints_call : (text : List ℕ) (c : Corrected) → input_rule kit text ≡ accepted → frame_rule M r text ≡ accepted → frame_count M r text ≡ L
      → mend_call kit text ≡ c → c.verdict ≡ accepted
      → mend_output kit text ≡ (block_text (M * M) L c.frame.info ++ group_text (M * r) (groups L) c.frame.red) ++ counts_text
      c.counts.rounds c.counts.turned c.counts.outside
  unfolding mend_output judged printed mend_text
  prints_call text c a b n e v =
      ap (λ (x : Verdict). printed x (mend_text M (M * r) (frame_count M r text) (mend_call kit text)))
      (then_accepted a (then_accepted A.kit_ok (then_accepted b (ap (λ (x : Corrected). x.verdict) e ∙ v))))
      ∙ ap₂ (λ (k : ℕ) (x : Corrected). mend_text M (M * r) k x) n e
      ∙ sym (append_assoc (block_text (M * M) L c.frame.info) (group_text (M * r) (groups L) c.frame.red)
      (counts_text c.counts.rounds c.counts.turned c.counts.outside))

  pub mend_prints : MendPrints kit copy
  unfolding counts_of
  mend_prints =
      record {
        prints = prints_call copy (mend_call kit copy) (short_inputs kit copy A.kit-short A.text-short) A.text_ok refl refl
            (ap (λ (c : Corrected). c.verdict) left);
        long = same_length;
        reads = read_back.0;
        count = sym read_back.1;
        info = sym back.0 ∙ ap (λ (c : Corrected). c.frame.info) (sym left);
        red = sym back.1 ∙ ap (λ (c : Corrected). c.frame.red) (sym left);
        again = again;
      }
    where
      again : (mend_call kit copy).counts.outside ≡ 0 → mend_output kit (mended kit copy) ≡ mended kit copy ++ counts_text 1 0 0
      again e =
          let none : outside (kit_params kit) (interleavers (kit_params kit) (self_of kit) (parity_of kit)) L made.frame ≡ 0 =
          ap (λ (c : Corrected). c.counts.outside) (sym left) ∙ e in
          let c : Corrected = record { verdict = accepted; frame = made.frame; counts = record { rounds = 1; turned = 0; outside = 0; stuck = 0 } } in
          prints_call (mended kit copy) c (short_inputs kit (mended kit copy) A.kit-short (omega (arith, same_length, A.text-short)))
          read_back.0 (sym read_back.1)
          (second none) refl
          ∙ ap (λ (x : List ℕ). x ++ counts_text 1 0 0) (sym mended-is)
        where
          second : outside (kit_params kit) (interleavers (kit_params kit) (self_of kit) (parity_of kit)) L made.frame ≡ 0
              → mend_call kit (mended kit copy) ≡ record { verdict = accepted; frame = made.frame; counts = record { rounds = 1; turned = 0; outside = 0; stuck = 0 } }
          second none =
              mend_call-by kit (mended kit copy) L info red (sym read_back.1) (sym back.0) (sym back.1)
              ∙ decode-again m t M 0 L 0 (self_of kit) (parity_of kit) (frame_info M r copy) (frame_red M r copy) decodes none
