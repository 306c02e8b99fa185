-- The places of rules 4, 6 and 10 that the calls on original staircase frames have: "The buffer has place 4 in rule 6".
--   original_encode-places, original_words-places, original_decode-places   the calls
-- Assumes nothing.
use mathlib.Core.Path.{refl, subst⁻¹}
use mathlib.Core.Bool.{false, cond}
use mathlib.Core.List.{List, [], ◌∷◌}
use Prim.Native.Nat.{ℕ, ◌-◌, ◌*◌, ◌^◌}
use native.Mathlib.Omega.{arith}
use lib.Dec.{ltb, leb}
use lib.ListN.{get_or, length}
use Rattle.staircase.specs.Design.{Params, params}
use Rattle.staircase.specs.Rules.{Verdict, ◌then◌, count_rule, info_length}
use Rattle.staircase.specs.Places.{OfBlocks, Places}
use Rattle.staircase.proofs.Demand1.{counted_by-verdict}
use Rattle.staircase.proofs.Places.{places-both, places_other, places-size, places-rounds, places-slice, places_count, places-bytes, places-bits}
use Rattle.original.specs.Rules.{row_length, row_long_rule, thin_rule, original_rules, in_information, info_bits, original_work}
use Rattle.original.specs.Calls.{original_encode_verdict, original_encode_call, original_words_verdict, original_words_call, original_decode_verdict, original_decode_call}
use Rattle.original.proofs.Demand1.{written_by-verdict, corrected_buffer_by-verdict}

module _ (m t M col L : ℕ) (l : List ℕ) where
  abbrev s : Params
  s = params m t M col

  abbrev n : ℕ
  n = length l

  -- rules 1, 2, 19 and 4, and then others
  numbers-places : (own : List ℕ) (rest : Verdict) → Places own (OfBlocks L) n rest → Places own (OfBlocks L) n (original_rules m t M col then count_rule L then rest)
  unfolding original_rules row_long_rule thin_rule
  numbers-places own rest h =
      places-both own (OfBlocks L) n _ _
      (places-both own (OfBlocks L) n _ _ (places-size own (OfBlocks L) n m t M col)
      (places-both own (OfBlocks L) n _ _ (places_other own (OfBlocks L) n (ltb (2 ^ m - 1) (row_length s)) 2 (row_length s) refl)
      (places_other own (OfBlocks L) n (leb M (m * t)) 19 (m * t) refl)))
      (places-both own (OfBlocks L) n _ _ (places_count own L n) h)

  pub original_encode-places : Places (4 ∷ []) (OfBlocks L) (length l) (original_encode_call m t M col L l).verdict
  unfolding original_encode_call original_encode_verdict info_bits
  original_encode-places =
      let own : List ℕ = 4 ∷ [] in
      subst⁻¹ (Places own (OfBlocks L) n) (written_by-verdict (original_encode_verdict m t M col L l) l _)
      (numbers-places own _ (places-both own (OfBlocks L) n _ _ (places-slice own (OfBlocks L) n 4 n (info_length s L) refl)
      (places-bytes own (OfBlocks L) n 0 n (λ k. cond (in_information s k) (ltb 1 (get_or l k 0)) false) (omega arith))))

  pub original_words-places : Places (4 ∷ []) (OfBlocks L) (length l) (original_words_call m t M col L l).verdict
  unfolding original_words_call original_words_verdict
  original_words-places =
      let own : List ℕ = 4 ∷ [] in
      subst⁻¹ (Places own (OfBlocks L) n) (counted_by-verdict (original_words_verdict m t M col L l) _)
      (numbers-places own _ (places-both own (OfBlocks L) n _ _ (places-slice own (OfBlocks L) n 4 n (info_length s L) refl)
      (places-bits own (OfBlocks L) n 0 l (omega arith))))

  pub original_decode-places : (k work : ℕ) → Places (4 ∷ 6 ∷ []) (OfBlocks L) (length l) (original_decode_call m t M col L k l work).verdict
  unfolding original_decode_call original_decode_verdict
  original_decode-places k work =
      let own : List ℕ = 4 ∷ 6 ∷ [] in
      subst⁻¹ (Places own (OfBlocks L) n) (corrected_buffer_by-verdict (original_decode_verdict m t M col L k l work) l _ _)
      (numbers-places own _ (places-both own (OfBlocks L) n _ _ (places-rounds own (OfBlocks L) n k)
      (places-both own (OfBlocks L) n _ _ (places-slice own (OfBlocks L) n 4 n (info_length s L) refl)
      (places-both own (OfBlocks L) n _ _ (places-slice own (OfBlocks L) n 6 work (original_work s L) refl) (places-bits own (OfBlocks L) n 0 l (omega arith))))))
