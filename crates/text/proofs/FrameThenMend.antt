-- `frame` and `mend` one after the other.
--   frame-prints        what `frame` prints starts with `g` exactly where its rules accept: a user sees by the first byte whether it refuses
--   frame_then_mend     the claim, for every kit text and block text that `frame` does not refuse
-- Assumes nothing.
use mathlib.Core.Path.{◌≡◌, refl, sym, ap, ap₂, subst, ◌∙◌}
use mathlib.Core.Logic.{◌↔◌}
use mathlib.Core.List.{List, ◌++◌, append_assoc}
use Prim.Native.Nat.{ℕ, ◌+◌, ◌-◌, ◌*◌, ◌≤◌, ◌<◌}
use native.Mathlib.Omega.{arith}
use lib.ListN.{length, get_or, take, drop, replicate}
use lib.Seq.{take_at, drop_at}
use Rattle.bch.specs.Polynomial.{Bits}
use Rattle.bch.specs.Code.{distance}
use Rattle.text_formats.proofs.Parts.{fit_append}
use Rattle.staircase.specs.Design.{Params, order, most-blocks}
use Rattle.staircase.specs.Frame.{frame_of, groups, read, outside}
use Rattle.staircase.specs.System.{redundancy}
use Rattle.staircase.specs.LineErrors.{line_errors}
use Rattle.staircase.specs.Rules.{Verdict, ◌then◌, red_length, kit_work, decoder_work, interleavers}
use Rattle.staircase.specs.Rules.Verdict.{accepted, refused}
use Rattle.staircase.specs.Calls.{Encoded, encode_verdict, encode_call, Corrected, decode_call}
use Rattle.staircase.specs.Demand3.{sizes, lists, Given, EachWord}
use Rattle.staircase.proofs.Rules.{then_accepted}
use Rattle.text.specs.FrameText.{block_items, group_items, BlockText, FrameText, block_text, group_text}
use Rattle.text.specs.Programs.{refusal_text, counts_text, most-input, input_rule, printed, judged, frame_call, frame_output, mend_call, mend_text, mend_output}
use Rattle.text.specs.KitReader.{head_number, kit_params, scan_kit, self_of, parity_of, inverse_of}
use Rattle.text.specs.FrameReader.{block_rule, block_count, block_info, frame_rule, frame_count, frame_info, frame_red}
use Rattle.text.proofs.FramePromises.{blocks-accepted, blocks_hold, BlocksHold, frame-accepted, frame_holds}
use Rattle.text.proofs.FrameLengths.{groups-fit, frame-length, same_count}
use Rattle.text.specs.FrameThenMend.{frame_verdict, sent, kit_of, made_frame, copy_frame, FrameThenMend}
use Rattle.text.proofs.Programs.{long-text, short_inputs, then_refused, Admitted, judged-accepted}
use Rattle.staircase.proofs.Demand3.{encode-made, made-length, made_bits, made-restored}
use Rattle.staircase.proofs.Encoded.{encoded_by-verdict, encode-accepted, made-idle}

-- two lists joined, by the length of the first
pub append-same : (a b c d : List ℕ) → length a ≡ length b → a ++ c ≡ b ++ d → (a ≡ b) × (c ≡ d)
append-same a b c d l e = (
  sym (take_at a c (length b) l) ∙ ap (λ (x : List ℕ). take (length b) x) e ∙ take_at b d (length b) refl,
  sym (drop_at a c (length b) l) ∙ ap (λ (x : List ℕ). drop (length b) x) e ∙ drop_at b d (length b) refl,
)

-- ---- what `frame` prints, by its rules

printed-first : (v : Verdict) (n G : ℕ) (red : List ℕ) → (get_or (printed v (group_text n G red)) 0 0 ≡ 103) ↔ (v ≡ accepted)
unfolding printed group_text refusal_text
printed-first accepted n G red = (λ e. refl, λ e. refl)
printed-first (refused k p) n G red = (λ e. absurd (omega (arith, e)), λ e. let z : ◌≡◌ {A = ℕ} 0 1 = cc in absurd (omega arith))

pub frame-prints : (kit text : List ℕ) → (get_or (frame_output kit text) 0 0 ≡ 103) ↔ (frame_verdict kit text ≡ accepted)
unfolding frame_output judged frame_verdict
frame-prints kit text =
    printed-first (input_rule kit text then scan_kit kit then block_rule (head_number kit 2) text then (frame_call kit text).verdict)
    (order (kit_params kit)) (groups (block_count (head_number kit 2) text)) (frame_call kit text).red

-- ---- the two programs

long-refused : (kit text : List ℕ) → length kit ≤ most-input → most-input < length text → mend_output kit text ≡ refusal_text 13 2
unfolding mend_output judged printed
long-refused kit text a h =
    let M : ℕ = head_number kit 2 in
    let r : ℕ = head_number kit 0 * head_number kit 1 in
    ap (λ (v : Verdict). printed v (mend_text M (order (kit_params kit)) (frame_count M r text) (mend_call kit text)))
    (then_refused (input_rule kit text) (scan_kit kit then frame_rule M r text then (mend_call kit text).verdict) 13 2 (long-text kit text a h))

module _ (kit text : List ℕ) (ok : frame_verdict kit text ≡ accepted) where
  abbrev m : ℕ
  m = head_number kit 0

  abbrev t : ℕ
  t = head_number kit 1

  abbrev M : ℕ
  M = head_number kit 2

  abbrev L : ℕ
  L = block_count (head_number kit 2) text

  abbrev info : List ℕ
  info = block_info (head_number kit 2) text

  abbrev old : List ℕ
  old = replicate (red_length (kit_params kit) (block_count (head_number kit 2) text)) 0

  A : Admitted kit text (block_rule M text) (frame_call kit text).verdict
  unfolding frame_verdict
  A = judged-accepted kit text (block_rule M text) (frame_call kit text).verdict ok

  G : Given (kit_of kit) L info old
  unfolding frame_call encode_call
  G =
      let s : Params = kit_params kit in
      let v : Verdict = encode_verdict m t M 0 L (self_of kit) (parity_of kit) (inverse_of kit) info old (kit_work s) in
      let new : List ℕ = redundancy s (interleavers s (self_of kit) (parity_of kit)) (inverse_of kit) L info in
      encode-accepted (kit_of kit) L info old (kit_work s)
      (sym (encoded_by-verdict v old new) ∙ A.call_ok)

  abbrev red : List ℕ
  red =
      redundancy (kit_params kit) (interleavers (kit_params kit) (self_of kit) (parity_of kit)) (inverse_of kit) (block_count (head_number kit 2) text)
      (block_info (head_number kit 2) text)

  red-is : (frame_call kit text).red ≡ red
  unfolding frame_call
  red-is = ap (λ (z : Encoded). z.red) (encode-made (kit_of kit) L info old G info old G.bits G.info-fits G.old_fits)

  red-fits : length red ≡ groups L * (2 * (M * (m * t)))
  red-fits = made-length (kit_of kit) L info old G

  red-bits : Bits red
  red-bits = made_bits (kit_of kit) L info old G

  -- the two texts

  holds : BlocksHold M L info text
  holds = blocks_hold M text A.text_ok

  blocks : BlockText (M * M) most-blocks L info text
  blocks = (blocks-accepted M text).0 A.text_ok

  text-is : text ≡ block_text (M * M) L info
  unfolding block_text
  text-is = blocks.spells.1

  output-is : frame_output kit text ≡ group_text (M * (m * t)) (groups L) red
  unfolding frame_output judged frame_verdict printed
  output-is =
      ap (λ (v : Verdict). printed v (group_text (M * (m * t)) (groups L) (frame_call kit text).red)) ok
      ∙ ap (λ (z : List ℕ). group_text (M * (m * t)) (groups L) z) red-is

  sent_is : sent kit text ≡ block_text (M * M) L info ++ group_text (M * (m * t)) (groups L) red
  sent_is = ap₂ (λ (x y : List ℕ). x ++ y) text-is output-is

  whole : FrameText (M * M) (M * (m * t)) most-blocks L (info ++ red) (sent kit text)
  unfolding group_text
  whole =
      let n : ℕ = M * (m * t) in
      let P = fit_append (block_items (M * M) L) (group_items n (groups L)) info red blocks.spells.0 (groups-fit n (groups L) red red-fits red-bits) in
      record { some = blocks.some; few = blocks.few; spells = (P.0, ap₂ (λ (x y : List ℕ). x ++ y) blocks.spells.1 output-is ∙ sym P.1) }

  read_back : (frame_rule M (m * t) (sent kit text) ≡ accepted) × (L ≡ frame_count M (m * t) (sent kit text))
      × (info ++ red ≡ frame_info M (m * t) (sent kit text) ++ frame_red M (m * t) (sent kit text))
  read_back = (frame-accepted M (m * t) (sent kit text)).1 L (info ++ red) whole

  parts : (info ≡ frame_info M (m * t) (sent kit text)) × (red ≡ frame_red M (m * t) (sent kit text))
  parts =
      let h = frame_holds M (m * t) (sent kit text) read_back.0 in
      append-same info (frame_info M (m * t) (sent kit text)) red (frame_red M (m * t) (sent kit text))
      (holds.info-length ∙ ap (λ (k : ℕ). k * (M * M)) read_back.1 ∙ sym h.info-length) read_back.2

  -- what `mend` prints of any frame text whose decoding leaves the frame
  mend_sends : (copy : List ℕ) → length copy ≤ most-input → frame_rule M (m * t) copy ≡ accepted → frame_count M (m * t) copy ≡ L → (rounds turned : ℕ)
      → decode_call m t M 0 L 0 (self_of kit) (parity_of kit) (frame_info M (m * t) copy) (frame_red M (m * t) copy) (decoder_work (kit_params kit) L)
      ≡ record { verdict = accepted; frame = frame_of info red; counts = record { rounds = rounds; turned = turned; outside = 0; stuck = 0 } }
      → mend_output kit copy ≡ sent kit text ++ counts_text rounds turned 0
  unfolding mend_output judged printed mend_call mend_text
  mend_sends copy short accepts count rounds turned e =
      let n : ℕ = M * (m * t) in
      let c : Corrected = record { verdict = accepted; frame = frame_of info red; counts = record { rounds = rounds; turned = turned; outside = 0; stuck = 0 } } in
      let call : mend_call kit copy ≡ c =
      ap (λ (k : ℕ). decode_call m t M 0 k 0 (self_of kit) (parity_of kit) (frame_info M (m * t) copy) (frame_red M (m * t) copy)
      (decoder_work (kit_params kit) k)) count ∙ e in
      let v : (input_rule kit copy then scan_kit kit then frame_rule M (m * t) copy then (mend_call kit copy).verdict) ≡ accepted =
      then_accepted (short_inputs kit copy A.kit-short short)
      (then_accepted A.kit_ok (then_accepted accepts (ap (λ (x : Corrected). x.verdict) call))) in
      ap (λ (x : Verdict). printed x (mend_text M n (frame_count M (m * t) copy) (mend_call kit copy))) v
      ∙ ap₂ (λ (k : ℕ) (x : Corrected). mend_text M n k x) count call
      ∙ sym (append_assoc (block_text (M * M) L info) (group_text n (groups L) red) (counts_text rounds turned 0))
      ∙ ap (λ (x : List ℕ). x ++ counts_text rounds turned 0) (sym sent_is)

  pub frame_then_mend : FrameThenMend kit text
  frame_then_mend =
      record {
        reads = read_back.0;
        count = sym read_back.1;
        info = sym parts.0;
        red = sym parts.1 ∙ sym red-is;
        bytes = frame-length (M * M) (M * (m * t)) most-blocks L (info ++ red) (sent kit text) whole;
        mends = mends;
        refuses = refuses;
        restores = restores;
      }
    where
      mends : length (sent kit text) ≤ most-input → mend_output kit (sent kit text) ≡ sent kit text ++ counts_text 1 0 0
      mends h =
          mend_sends (sent kit text) h read_back.0 (sym read_back.1) 1 0
          (ap₂ (λ (i o : List ℕ). decode_call m t M 0 L 0 (self_of kit) (parity_of kit) i o (decoder_work (kit_params kit) L)) (sym parts.0) (sym parts.1)
          ∙ made-idle (kit_of kit) L info old G 0 (omega arith))

      refuses : most-input < length (sent kit text) → mend_output kit (sent kit text) ≡ refusal_text 13 2
      refuses h = long-refused kit (sent kit text) A.kit-short h

      restores : (copy : List ℕ) → length copy ≡ length (sent kit text) → length copy ≤ most-input → frame_rule M (m * t) copy ≡ accepted
          → EachWord (sizes (kit_of kit)) (lists (kit_of kit)) L
          (λ x. distance (read (made_frame kit text) x.sites) (read (copy_frame kit copy) x.sites) ≤ t)
          → (rounds : ℕ) × (mend_output kit copy ≡ sent kit text ++ counts_text rounds (line_errors (copy_frame kit copy) (made_frame kit text)) 0)
      restores copy long short accepts near =
          let F = (frame-accepted M (m * t) copy).0 accepts in
          let h = frame_holds M (m * t) copy accepts in
          let count : frame_count M (m * t) copy ≡ L =
          same_count (M * M) (M * (m * t)) most-blocks (frame_count M (m * t) copy) L (frame_info M (m * t) copy ++ frame_red M (m * t) copy)
          (info ++ red) copy (sent kit text) F whole long in
          let near' = subst (λ (z : List ℕ). EachWord (sizes (kit_of kit)) (lists (kit_of kit)) L
          (λ x. distance (read (frame_of info z) x.sites) (read (copy_frame kit copy) x.sites) ≤ t)) red-is near in
          let r = made-restored (kit_of kit) L info old G (copy_frame kit copy)
          (h.info-length ∙ ap (λ (k : ℕ). k * (M * M)) count ∙ sym holds.info-length)
          (h.red-length ∙ ap (λ (k : ℕ). groups k * (2 * (M * (m * t)))) count ∙ sym red-fits) h.info-bits h.red-bits near' 0 (omega arith) in
          let turned : List ℕ → ℕ = λ z. line_errors (copy_frame kit copy) (frame_of info z) in (
            r.0,
            mend_sends copy short accepts count r.0 (turned red) r.1 ∙ ap (λ (z : List ℕ). sent kit text ++ counts_text r.0 (turned z) 0) (sym red-is),
          )
