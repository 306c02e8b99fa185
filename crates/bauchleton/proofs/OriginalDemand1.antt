-- Demand 1 of the calls on original staircase frames from C.
--   bauchleton_original_encode_demand1, bauchleton_original_check_words_demand1, bauchleton_original_decode_demand1   the calls
-- Assumes nothing.
use mathlib.Core.Path.{refl, sym, ap, subst, ◌∙◌}
use mathlib.Core.List.{List, [], ◌∷◌}
use Prim.Native.Nat.{ℕ}
use lib.ListN.{length}
use Rattle.staircase.specs.Design.{Params, params}
use Rattle.staircase.specs.Rules.{Verdict, ◌then◌, bit_rule}
use Rattle.staircase.specs.Calls.{Counts}
use Rattle.staircase.specs.Demand1.{ByTable}
use Rattle.original.specs.Frame.{encoded}
use Rattle.original.specs.Rules.{info_bits}
use Rattle.original.specs.Calls.{original_encode_verdict, original_encode_call, original_words_call, original_decode_verdict, original_decoded, original_counts, original_decode_call}
use Rattle.original.proofs.Demand1.{written_by-verdict, corrected_buffer_by-verdict, original_encode_demand1, original_words_demand1, original_decode_demand1}
use Rattle.rules_verdict.specs.Number.{number, place_of}
use Rattle.rules_verdict.specs.Demand1.{Demand1C}
use Rattle.rules_verdict.proofs.Demand1.{demand1_number}
use Rattle.bauchleton.specs.Report.{report_length}
use Rattle.bauchleton.specs.OriginalReport.{original_sizes, original_encode_reported, original_decode_sizes, original_decode_reported}
use Rattle.bauchleton.proofs.Demand1.{report-by_table}
use Rattle.bauchleton.proofs.OriginalReport.{written-left, original_parts, buffer-left, original_decode_parts}

module _ (m t M L : ℕ) (l : List ℕ) where
  pub bauchleton_original_encode_demand1 : (report : List ℕ)
      → Demand1C (1 ∷ 2 ∷ 4 ∷ 6 ∷ 10 ∷ 19 ∷ []) (number (original_encode_reported report m t M L l).verdict) (place_of (original_encode_reported report m t M L l).verdict)
      (l ∷ []) ((original_encode_reported report m t M L l).buffer ∷ [])
  unfolding original_encode_reported original_encode_call
  bauchleton_original_encode_demand1 report =
      let u : Verdict = original_sizes m t M L (length l) in
      let v : Verdict = info_bits (params m t M 0) l in
      let w : Verdict = u then report_length report then v in
      let new : List ℕ = encoded (params m t M 0) L l in
      demand1_number _ _ _ _
      (record {
        by_table =
            subst (ByTable (1 ∷ 2 ∷ 4 ∷ 6 ∷ 10 ∷ 19 ∷ [])) (sym (written_by-verdict w l new))
            (report-by_table (1 ∷ 2 ∷ 4 ∷ 6 ∷ 10 ∷ 19 ∷ []) refl report u v
            (subst (ByTable (1 ∷ 2 ∷ 4 ∷ 6 ∷ 10 ∷ 19 ∷ [])) (written_by-verdict (original_encode_verdict m t M 0 L l) l new ∙ original_parts m t M L l)
            (original_encode_demand1 m t M 0 L l).by_table));
        untouched = λ h. ap (λ (z : List ℕ). z ∷ []) (sym (written-left w l new (λ a. h (written_by-verdict w l new ∙ a))).1);
      })

  pub bauchleton_original_check_words_demand1 :
      Demand1C (1 ∷ 2 ∷ 4 ∷ 6 ∷ 10 ∷ 19 ∷ []) (number (original_words_call m t M 0 L l).verdict) (place_of (original_words_call m t M 0 L l).verdict) [] []
  bauchleton_original_check_words_demand1 = demand1_number _ _ _ _ (original_words_demand1 m t M 0 L l)

  pub bauchleton_original_decode_demand1 : (report : List ℕ) (k work : ℕ)
      → Demand1C (1 ∷ 2 ∷ 4 ∷ 5 ∷ 6 ∷ 10 ∷ 19 ∷ []) (number (original_decode_reported report m t M L k l work).verdict)
      (place_of (original_decode_reported report m t M L k l work).verdict) (l ∷ []) ((original_decode_reported report m t M L k l work).buffer ∷ [])
  unfolding original_decode_reported original_decode_call
  bauchleton_original_decode_demand1 report k work =
      let s : Params = params m t M 0 in
      let u : Verdict = original_decode_sizes m t M L k (length l) work in
      let w : Verdict = u then report_length report then bit_rule 0 l in
      let new : List ℕ = (original_decoded s L k l).frame.info in
      let n : Counts = original_counts s L k l in
      demand1_number _ _ _ _
      (record {
        by_table =
            subst (ByTable (1 ∷ 2 ∷ 4 ∷ 5 ∷ 6 ∷ 10 ∷ 19 ∷ [])) (sym (corrected_buffer_by-verdict w l new n))
            (report-by_table (1 ∷ 2 ∷ 4 ∷ 5 ∷ 6 ∷ 10 ∷ 19 ∷ []) refl report u (bit_rule 0 l)
            (subst (ByTable (1 ∷ 2 ∷ 4 ∷ 5 ∷ 6 ∷ 10 ∷ 19 ∷ []))
            (corrected_buffer_by-verdict (original_decode_verdict m t M 0 L k l work) l new n ∙ original_decode_parts m t M L k l work)
            (original_decode_demand1 m t M 0 L k l work).by_table));
        untouched = λ h. ap (λ (z : List ℕ). z ∷ []) (sym (buffer-left w l new n (λ a. h (corrected_buffer_by-verdict w l new n ∙ a))));
      })
