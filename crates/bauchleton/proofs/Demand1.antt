-- Demand 1 of the calls from C on kits and frames: `number` and `place_of` of a call's verdict are what it answers and tells (contracts in src/).
--   by_table-first-part, by_table-rest                       rules in two parts
--   report-by_table, encoded_demand1, corrected_demand1     a call with a report, by the same call without one
--   bauchleton-design-demand1 .. bauchleton-show-demand1   the calls
-- Assumes nothing.
use mathlib.Core.Path.{◌≡◌, refl, sym, ap, subst, ◌∙◌}
use mathlib.Core.Bool.{true, not}
use mathlib.Core.Logic.{◌≢◌}
use mathlib.Core.List.{List, [], ◌∷◌}
use Prim.Native.Nat.{ℕ}
use native.Mathlib.Omega.{arith}
use borrow.Author.Tests.{le-leb}
use lib.Dec.{eqb}
use lib.ListN.{length}
use Rattle.staircase.specs.Design.{Params, Interleavers, params}
use Rattle.staircase.specs.Frame.{Frame, frame_of}
use Rattle.staircase.specs.System.{redundancy}
use Rattle.staircase.specs.Rules.{Verdict, ◌then◌, Part, design_rules, interleavers, kit_rules, content_rules}
use Rattle.staircase.specs.Rules.Verdict.{accepted, refused}
use Rattle.staircase.specs.Calls.{encoded_by, encode_verdict, encode_call, words_call, Counts, corrected_by, show_verdict, stretch, shown_by, show_call}
use Rattle.staircase.specs.Maker.{make_call}
use Rattle.staircase.specs.Spread.{spread_call}
use Rattle.staircase.specs.Mixed.{mixed_call}
use Rattle.staircase.specs.Batch.{batch_verdict, batch_redundancy, batch_call}
use Rattle.staircase.specs.Window.{windowed, window_counts, window_verdict, window_call}
use Rattle.staircase.specs.Tally.{Decode, decode_with, call_of}
use Rattle.staircase.specs.Demand1.{among, ByTable, worked}
use Rattle.staircase.specs.Demand1 as table
use Rattle.staircase.proofs.Encoded.{encoded_by-verdict}
use Rattle.staircase.proofs.Decoded.{corrected_by-verdict}
use Rattle.staircase.proofs.Demand1.{by_table_then, by_table-refuse, encoded_by-untouched, corrected_by-untouched, design_demand1, kit_demand1, make_demand1, spread_demand1, mixed_demand1, encode_demand1, batch_demand1, words_demand1, decode-by_table, window_demand1, show_demand1}
use Rattle.loopback.specs.Link.{loopback_call}
use Rattle.loopback.proofs.Demand1.{loopback_demand1}
use Rattle.rules_verdict.specs.Number.{number, place_of}
use Rattle.rules_verdict.specs.Demand1.{Demand1C}
use Rattle.rules_verdict.proofs.Demand1.{demand1_number}
use Rattle.bauchleton.specs.Answers.{shown_part, pasted}
use Rattle.bauchleton.specs.Report.{report_length, kit_sizes, kit_reported, encode_sizes, encode_reported, batch_sizes, batch_reported, numbers_for, bytes_for, decode_reported, window_numbers_for, window_call_of, window_reported}
use Rattle.bauchleton.proofs.Report.{kit_parts, encode_parts, batch_parts, decode_parts, window_parts}

-- ---- a call with a report

module _ (rules : List ℕ) where
  pub by_table-first-part : (u v : Verdict) → ByTable rules (u then v) → ByTable rules u
  by_table-first-part accepted v t = worked refl
  by_table-first-part (refused n p) v t = t

  pub by_table-rest : (u v : Verdict) → u ≡ accepted → ByTable rules (u then v) → ByTable rules v
  by_table-rest u v e t = subst (λ (z : Verdict). ByTable rules (z then v)) e t

  module _ (has6 : among 6 rules ≡ true) (report : List ℕ) (u v : Verdict) (judged : ByTable rules (u then v)) where
    pub report-by_table : ByTable rules (u then report_length report then v)
    report-by_table =
        by_table_then rules u (report_length report then v) (by_table-first-part u v judged)
        (λ e. by_table_then rules (report_length report) v (by_table-refuse rules (not (eqb (length report) 40)) 6 8 has6 (λ z. table.report refl refl))
        (λ b. by_table-rest u v e judged))

    encoded_demand1 : (old new : List ℕ)
        → Demand1C rules (number (encoded_by (u then report_length report then v) old new).verdict) (place_of (encoded_by (u then report_length report then v) old new).verdict)
        (old ∷ []) ((encoded_by (u then report_length report then v) old new).red ∷ [])
    encoded_demand1 old new =
        demand1_number _ _ _ _
        (record {
          by_table = subst (ByTable rules) (sym (encoded_by-verdict (u then report_length report then v) old new)) report-by_table;
          untouched = encoded_by-untouched (u then report_length report then v) old new;
        })

    corrected_demand1 : (f g : Frame) (c : Counts)
        → Demand1C rules (number (corrected_by (u then report_length report then v) f g c).verdict) (place_of (corrected_by (u then report_length report then v) f g c).verdict)
        (f.info ∷ f.red ∷ [])
        ((corrected_by (u then report_length report then v) f g c).frame.info ∷ (corrected_by (u then report_length report then v) f g c).frame.red ∷ [])
    corrected_demand1 f g c =
        demand1_number _ _ _ _
        (record {
          by_table = subst (ByTable rules) (sym (corrected_by-verdict (u then report_length report then v) f g c)) report-by_table;
          untouched = corrected_by-untouched (u then report_length report then v) f g c;
        })

-- ---- the calls

pub bauchleton_design_demand1 : (m t M : ℕ) → Demand1C (1 ∷ 2 ∷ 3 ∷ []) (number (design_rules m t M 0)) (place_of (design_rules m t M 0)) [] []
bauchleton_design_demand1 m t M = demand1_number _ _ _ _ (design_demand1 m t M 0)

pub bauchleton_check_kit_demand1 : (report : List ℕ) (m t M : ℕ) (self parity w : List ℕ) (work : ℕ)
    → Demand1C (1 ∷ 2 ∷ 3 ∷ 6 ∷ 7 ∷ 8 ∷ 9 ∷ []) (number (kit_reported report m t M self parity w work)) (place_of (kit_reported report m t M self parity w work))
    [] []
unfolding kit_reported
bauchleton_check_kit_demand1 report m t M self parity w work =
    let s : Params = params m t M 0 in
    demand1_number _ _ _ _
    (record {
      by_table =
          report-by_table (1 ∷ 2 ∷ 3 ∷ 6 ∷ 7 ∷ 8 ∷ 9 ∷ []) refl report (kit_sizes m t M self parity w work) (kit_rules s (interleavers s self parity) w)
          (subst (ByTable (1 ∷ 2 ∷ 3 ∷ 6 ∷ 7 ∷ 8 ∷ 9 ∷ [])) (kit_parts m t M self parity w work) (kit_demand1 m t M 0 self parity w work).by_table);
      untouched = λ h. refl;
    })

pub bauchleton_make_inverse_demand1 : (m t M : ℕ) (self parity old : List ℕ) (work : ℕ)
    → Demand1C (1 ∷ 2 ∷ 3 ∷ 6 ∷ 7 ∷ 14 ∷ []) (number (make_call m t M 0 self parity old work).verdict) (place_of (make_call m t M 0 self parity old work).verdict)
    (old ∷ []) ((make_call m t M 0 self parity old work).inverse ∷ [])
bauchleton_make_inverse_demand1 m t M self parity old work = demand1_number _ _ _ _ (make_demand1 m t M 0 self parity old work)

pub bauchleton_spread-lists_demand1 : (m t M : ℕ) (self parity : List ℕ)
    → Demand1C (1 ∷ 2 ∷ 3 ∷ 6 ∷ 15 ∷ []) (number (spread_call m t M 0 self parity).verdict) (place_of (spread_call m t M 0 self parity).verdict)
    (self ∷ parity ∷ []) ((spread_call m t M 0 self parity).self ∷ (spread_call m t M 0 self parity).parity ∷ [])
bauchleton_spread-lists_demand1 m t M self parity = demand1_number _ _ _ _ (spread_demand1 m t M 0 self parity)

pub bauchleton_mixed-lists_demand1 : (m t M seed : ℕ) (self parity : List ℕ)
    → Demand1C (1 ∷ 2 ∷ 3 ∷ 6 ∷ 15 ∷ []) (number (mixed_call m t M 0 seed self parity).verdict) (place_of (mixed_call m t M 0 seed self parity).verdict)
    (self ∷ parity ∷ []) ((mixed_call m t M 0 seed self parity).self ∷ (mixed_call m t M 0 seed self parity).parity ∷ [])
bauchleton_mixed-lists_demand1 m t M seed self parity = demand1_number _ _ _ _ (mixed_demand1 m t M 0 seed self parity)

module _ (m t M L : ℕ) (self parity w info red : List ℕ) (work : ℕ) where
  pub bauchleton_encode_demand1 : (report : List ℕ)
      → Demand1C (1 ∷ 2 ∷ 3 ∷ 4 ∷ 6 ∷ 7 ∷ 8 ∷ 9 ∷ 10 ∷ []) (number (encode_reported report m t M L self parity w info red work).verdict)
      (place_of (encode_reported report m t M L self parity w info red work).verdict) (red ∷ []) ((encode_reported report m t M L self parity w info red work).red ∷ [])
  unfolding encode_reported encode_call
  bauchleton_encode_demand1 report =
      let s : Params = params m t M 0 in
      let l : Interleavers = interleavers s self parity in
      let new : List ℕ = redundancy s l w L info in
      encoded_demand1 (1 ∷ 2 ∷ 3 ∷ 4 ∷ 6 ∷ 7 ∷ 8 ∷ 9 ∷ 10 ∷ []) refl report (encode_sizes m t M L self parity w info red work) (content_rules s l w info)
      (subst (ByTable (1 ∷ 2 ∷ 3 ∷ 4 ∷ 6 ∷ 7 ∷ 8 ∷ 9 ∷ 10 ∷ []))
      (encoded_by-verdict (encode_verdict m t M 0 L self parity w info red work) red new ∙ encode_parts m t M self parity w work L info red)
      (encode_demand1 m t M 0 L self parity w info red work).by_table) red new

  pub bauchleton_encode-batch_demand1 : (report : List ℕ) (n : ℕ)
      → Demand1C (1 ∷ 2 ∷ 3 ∷ 4 ∷ 6 ∷ 7 ∷ 8 ∷ 9 ∷ 10 ∷ 17 ∷ []) (number (batch_reported report m t M L n self parity w info red work).verdict)
      (place_of (batch_reported report m t M L n self parity w info red work).verdict) (red ∷ []) ((batch_reported report m t M L n self parity w info red work).red ∷ [])
  unfolding batch_reported batch_call
  bauchleton_encode-batch_demand1 report n =
      let s : Params = params m t M 0 in
      let l : Interleavers = interleavers s self parity in
      let new : List ℕ = batch_redundancy s l w L n info in
      encoded_demand1 (1 ∷ 2 ∷ 3 ∷ 4 ∷ 6 ∷ 7 ∷ 8 ∷ 9 ∷ 10 ∷ 17 ∷ []) refl report (batch_sizes m t M L n self parity w info red work) (content_rules s l w info)
      (subst (ByTable (1 ∷ 2 ∷ 3 ∷ 4 ∷ 6 ∷ 7 ∷ 8 ∷ 9 ∷ 10 ∷ 17 ∷ []))
      (encoded_by-verdict (batch_verdict m t M 0 L n self parity w info red work) red new ∙ batch_parts m t M self parity w work L info red n)
      (batch_demand1 m t M 0 L n self parity w info red work).by_table) red new

  pub bauchleton_check_words_demand1 :
      Demand1C (1 ∷ 2 ∷ 3 ∷ 4 ∷ 6 ∷ 7 ∷ 10 ∷ []) (number (words_call m t M 0 L self parity info red work).verdict)
      (place_of (words_call m t M 0 L self parity info red work).verdict) [] []
  bauchleton_check_words_demand1 = demand1_number _ _ _ _ (words_demand1 m t M 0 L self parity info red work)

  pub bauchleton_decode_demand1 : (report : List ℕ) (k : ℕ)
      → Demand1C (1 ∷ 2 ∷ 3 ∷ 4 ∷ 5 ∷ 6 ∷ 7 ∷ 10 ∷ []) (number (decode_reported report (decode_with m t M 0 L k self parity info red work)).verdict)
      (place_of (decode_reported report (decode_with m t M 0 L k self parity info red work)).verdict) (info ∷ red ∷ [])
      ((decode_reported report (decode_with m t M 0 L k self parity info red work)).frame.info
      ∷ (decode_reported report (decode_with m t M 0 L k self parity info red work)).frame.red ∷ [])
  unfolding decode_reported
  bauchleton_decode_demand1 report k =
      let x : Decode = decode_with m t M 0 L k self parity info red work in
      corrected_demand1 (1 ∷ 2 ∷ 3 ∷ 4 ∷ 5 ∷ 6 ∷ 7 ∷ 10 ∷ []) refl report (numbers_for x) (bytes_for x)
      (subst (ByTable (1 ∷ 2 ∷ 3 ∷ 4 ∷ 5 ∷ 6 ∷ 7 ∷ 10 ∷ [])) (decode_parts x) (decode-by_table m t M 0 L k self parity info red work)) (frame_of info red)
      (call_of x).frame (call_of x).counts

  pub bauchleton_decode-window_demand1 : (report : List ℕ) (k v : ℕ)
      → Demand1C (1 ∷ 2 ∷ 3 ∷ 4 ∷ 5 ∷ 6 ∷ 7 ∷ 10 ∷ 18 ∷ []) (number (window_reported report v (decode_with m t M 0 L k self parity info red work)).verdict)
      (place_of (window_reported report v (decode_with m t M 0 L k self parity info red work)).verdict) (info ∷ red ∷ [])
      ((window_reported report v (decode_with m t M 0 L k self parity info red work)).frame.info
      ∷ (window_reported report v (decode_with m t M 0 L k self parity info red work)).frame.red ∷ [])
  unfolding window_reported window_call
  bauchleton_decode-window_demand1 report k v =
      let x : Decode = decode_with m t M 0 L k self parity info red work in
      let s : Params = params m t M 0 in
      let l : Interleavers = interleavers s self parity in
      let f : Frame = frame_of info red in
      corrected_demand1 (1 ∷ 2 ∷ 3 ∷ 4 ∷ 5 ∷ 6 ∷ 7 ∷ 10 ∷ 18 ∷ []) refl report (window_numbers_for v x) (bytes_for x)
      (subst (ByTable (1 ∷ 2 ∷ 3 ∷ 4 ∷ 5 ∷ 6 ∷ 7 ∷ 10 ∷ 18 ∷ []))
      (corrected_by-verdict (window_verdict m t M 0 L k v self parity info red work) f (windowed s l L v k f).frame (window_counts s l L v k f) ∙ window_parts x v)
      (window_demand1 m t M 0 L k v self parity info red work).by_table) f (window_call_of v x).frame (window_call_of v x).counts

  pub bauchleton_loopback_demand1 : (k : ℕ) (info_errors red_errors : List ℕ)
      → Demand1C (1 ∷ 2 ∷ 3 ∷ 4 ∷ 5 ∷ 6 ∷ 7 ∷ 8 ∷ 9 ∷ 10 ∷ []) (number (loopback_call m t M 0 L k self parity w info_errors red_errors info red work).verdict)
      (place_of (loopback_call m t M 0 L k self parity w info_errors red_errors info red work).verdict) (info ∷ red ∷ [])
      ((loopback_call m t M 0 L k self parity w info_errors red_errors info red work).frame.info
      ∷ (loopback_call m t M 0 L k self parity w info_errors red_errors info red work).frame.red ∷ [])
  bauchleton_loopback_demand1 k info_errors red_errors = demand1_number _ _ _ _ (loopback_demand1 m t M 0 L k self parity w info_errors red_errors info red work)

-- nothing is shown, so nothing is copied
shown_none : (v : Verdict) (l out : List ℕ) → (shown_by v l).verdict ≢ accepted → pasted (shown_by v l).bits out ≡ out
unfolding pasted
shown_none accepted l out h = absurd (h refl)
shown_none (refused n p) l out h = rw (le-leb 0 (length out) (omega arith))

pub bauchleton_show_demand1 : (m t M L kind which : ℕ) (info red out : List ℕ)
    → Demand1C (1 ∷ 2 ∷ 3 ∷ 4 ∷ 6 ∷ []) (number (show_call m t M 0 L (shown_part kind which) info red).verdict)
    (place_of (show_call m t M 0 L (shown_part kind which) info red).verdict) (out ∷ []) (pasted (show_call m t M 0 L (shown_part kind which) info red).bits out ∷ [])
unfolding show_call
bauchleton_show_demand1 m t M L kind which info red out =
    let x : Part = shown_part kind which in
    demand1_number _ _ _ _
    (record {
      by_table = (show_demand1 m t M 0 L x info red).by_table;
      untouched = λ h. ap (λ (z : List ℕ). z ∷ []) (shown_none (show_verdict m t M 0 L x info red) (stretch (params m t M 0) x info red) out h);
    })
