-- The rules of the calls that the programs make: what a text shows meets all others.
--   frame_call_rules   of the encoder's rules 7 and 9 alone, where kit text and block text are accepted
--   mend_call_rules    of the decoder's rule 7 alone
--   make_call_rules    of the maker's rules 7 and 14 alone, where the list text is accepted
-- Assumes nothing.
use mathlib.Core.Path.{◌≡◌, refl, ap, ◌∙◌}
use mathlib.Core.List.{List}
use Prim.Native.Nat.{ℕ, ◌*◌}
use native.Mathlib.Omega.{arith}
use lib.ListN.{length, replicate, length-replicate}
use Rattle.text_formats.specs.Format as format
use Rattle.text_formats.specs.Items.{walk, Fit}
use Rattle.text_formats.proofs.Parts.{lits-first}
use Rattle.text_formats.proofs.Spelling.{tidy_oks, walk-sound}
use Rattle.staircase.specs.Design.{Params, Interleavers, order, most-blocks}
use Rattle.staircase.specs.System.{row_bytes}
use Rattle.staircase.specs.Rules.{Verdict, ◌then◌, design_rules, count_rule, rounds_rule, list_lengths, kit_lengths, info_length, red_length, frame_lengths, kit_work, decoder_work, interleavers, list_rule, inverse_rule, frame_bits, content_rules}
use Rattle.staircase.specs.Rules.Verdict.{accepted}
use Rattle.staircase.specs.Calls.{encode_verdict, encode_call, decode_verdict, decode_call}
use Rattle.staircase.specs.Maker.{make_work, singular_rule, make_verdict, make_call}
use Rattle.staircase.proofs.Rules.{then_first, then_accepted, refuse-accepted, in_range, length-accepted, bits-accepted, design_limits}
use Rattle.staircase.proofs.Encoded.{encoded_by-verdict}
use Rattle.staircase.proofs.Decoded.{corrected_by-verdict}
use Rattle.staircase.proofs.Maker.{made_by-verdict}
use Rattle.staircase.proofs.SecondHalf.{then_none}
use Rattle.text.specs.Rules.{passed, values_of}
use Rattle.text.specs.KitText.{head_items, list_names, pair_lines}
use Rattle.text.specs.KitReader.{firsts, seconds, packs, head_number, kit_params, scan_kit, self_of, parity_of, inverse_of}
use Rattle.text.specs.FrameReader.{block_rule, block_count, block_info, frame_rule, frame_count, frame_info, frame_red}
use Rattle.text.specs.Programs.{frame_call, mend_call}
use Rattle.text.specs.FrameThenMend.{kit_m, kit_r}
use Rattle.text.specs.MakeKit.{lists_items, lists_scan, lists_rule, self_shown, parity_shown, make_kit_call}
use Rattle.text.proofs.Bytes.{halves, packs-length}
use Rattle.text.proofs.KitCounting.{pairs_count}
use Rattle.text.proofs.KitJudged.{rule_read}
use Rattle.text.proofs.KitTold.{items_read}
use Rattle.text.proofs.KitWritten.{design-accepted, shown_lengths, shown_spare}
use Rattle.text.proofs.ListPromises.{tidy_lists}
use Rattle.text.proofs.FramePromises.{blocks_hold, frame_holds}
use Rattle.text.proofs.Programs.{then_on}

-- the lists and the inverse that a kit text shows
abbrev pub lists_of : List ℕ → Interleavers
lists_of kit = interleavers (kit_params kit) (self_of kit) (parity_of kit)

-- ---- frame

pub frame_call_rules : (kit text : List ℕ) → scan_kit kit ≡ accepted → block_rule (kit_m kit) text ≡ accepted
    → (frame_call kit text).verdict ≡ (list_rule (kit_params kit) (lists_of kit) then inverse_rule (kit_params kit) (lists_of kit) (inverse_of kit))
unfolding frame_call encode_call encode_verdict count_rule frame_lengths content_rules
frame_call_rules kit text ok blocks =
    let s : Params = kit_params kit in
    let M : ℕ = kit_m kit in
    let L : ℕ = block_count M text in
    let info : List ℕ = block_info M text in
    let old : List ℕ = replicate (red_length s L) 0 in
    let B = blocks_hold M text blocks in
    encoded_by-verdict (encode_verdict (head_number kit 0) (head_number kit 1) M 0 L (self_of kit) (parity_of kit) (inverse_of kit) info old (kit_work s)) old _
    ∙ then_on _ _ _ (design-accepted kit ok)
    (then_on _ _ _ (refuse-accepted 4 L (in_range 1 most-blocks L B.some B.few))
    (then_on _ _ _ (shown_lengths kit ok)
    (then_on _ _ _
    (then_accepted (length-accepted 4 (length info) (info_length s L) B.info-length) (length-accepted 5 (length old) (red_length s L) (length-replicate (red_length s L) 0)))
    (then_on _ _ _ (length-accepted 6 (kit_work s) (kit_work s) refl)
    (ap (λ (v : Verdict). list_rule s (lists_of kit) then v)
    (then_on _ _ _ (shown_spare kit ok) (then_on _ _ _ (bits-accepted 0 info B.info-bits) refl)))))))

-- ---- mend

list_lengths_of : (kit : List ℕ) → scan_kit kit ≡ accepted → list_lengths (kit_params kit) (self_of kit) (parity_of kit) ≡ accepted
unfolding kit_lengths
list_lengths_of kit ok = then_first (list_lengths (kit_params kit) (self_of kit) (parity_of kit)) _ (shown_lengths kit ok)

pub mend_call_rules : (kit copy : List ℕ) → scan_kit kit ≡ accepted → frame_rule (kit_m kit) (kit_r kit) copy ≡ accepted
    → (mend_call kit copy).verdict ≡ list_rule (kit_params kit) (lists_of kit)
unfolding mend_call decode_call decode_verdict count_rule rounds_rule frame_lengths frame_bits
mend_call_rules kit copy ok frame =
    let s : Params = kit_params kit in
    let M : ℕ = kit_m kit in
    let r : ℕ = kit_r kit in
    let L : ℕ = frame_count M r copy in
    let info : List ℕ = frame_info M r copy in
    let red : List ℕ = frame_red M r copy in
    let B = frame_holds M r copy frame in
    corrected_by-verdict (decode_verdict (head_number kit 0) (head_number kit 1) M 0 L 0 (self_of kit) (parity_of kit) info red (decoder_work s L)) _ _ _
    ∙ then_on _ _ _ (design-accepted kit ok)
    (then_on _ _ _ (refuse-accepted 4 L (in_range 1 most-blocks L B.some B.few))
    (then_on _ _ _ refl
    (then_on _ _ _ (list_lengths_of kit ok)
    (then_on _ _ _
    (then_accepted (length-accepted 4 (length info) (info_length s L) B.info-length) (length-accepted 5 (length red) (red_length s L) B.red-length))
    (then_on _ _ _ (length-accepted 6 (decoder_work s L) (decoder_work s L) refl)
    (then_none (list_rule s (lists_of kit)) _ (λ e. then_accepted (bits-accepted 0 info B.info-bits) (bits-accepted (length info) red B.red-bits))))))))

-- ---- makekit

module _ (s : List ℕ) (design : design_rules (head_number s 0) (head_number s 1) (head_number s 2) 0 ≡ accepted) (lists : lists_rule s ≡ accepted) where
  abbrev n : ℕ
  n = order (kit_params s)

  count : length (values_of (lists_scan s)) ≡ 2 * n
  unfolding lists_rule lists_scan lists_items values_of
  count =
      let small = (design_limits (head_number s 0) (head_number s 1) (head_number s 2) 0 design).order-high in
      let (L, vs, e) = rule_read (lists_scan s) lists in
      let (q, w, z) = items_read (lists_items n) s (passed (walk head_items s 0)) L vs e in
      let fit : Fit (lists_items n) vs = (walk-sound (lists_items n) s (passed (walk head_items s 0)) vs q (tidy_oks (lists_items n) (tidy_lists n (omega (arith, small)))) w).fit in
      ap (λ (x : format.Scan). length (values_of x)) e ∙ pairs_count n 0 vs (lits-first list_names (pair_lines 0 n) vs fit).0

  pub make_call_rules : (make_kit_call s).verdict
      ≡ (list_rule (kit_params s) (interleavers (kit_params s) (self_shown s) (parity_shown s))
      then singular_rule (kit_params s) (interleavers (kit_params s) (self_shown s) (parity_shown s)))
  unfolding make_kit_call make_call make_verdict kit_lengths list_lengths self_shown parity_shown
  make_call_rules =
      let p : Params = kit_params s in
      let old : List ℕ = replicate (n * row_bytes n) 0 in
      let h = halves n (values_of (lists_scan s)) count in
      let twice : (l : List ℕ) → length l ≡ n → length (packs l) ≡ 2 * n = λ l e. packs-length l ∙ ap (λ (z : ℕ). 2 * z) e in
      made_by-verdict (make_verdict (head_number s 0) (head_number s 1) (head_number s 2) 0 (self_shown s) (parity_shown s) old (make_work p)) old _
      ∙ then_on _ _ _ design
      (then_on _ _ _
      (then_accepted
      (then_accepted (length-accepted 1 (length (self_shown s)) (2 * n) (twice (firsts (values_of (lists_scan s))) h.0))
      (length-accepted 2 (length (parity_shown s)) (2 * n) (twice (seconds (values_of (lists_scan s))) h.1)))
      (length-accepted 3 (length old) (n * row_bytes n) (length-replicate (n * row_bytes n) 0)))
      (then_on _ _ _ (length-accepted 6 (make_work p) (make_work p) refl) refl))
