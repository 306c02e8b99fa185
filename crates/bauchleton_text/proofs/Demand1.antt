-- Demand 1 of the calls from C on texts: `number` and `place_of` of a call's verdict are what it answers and tells (contracts in src/).
--   bauchleton-scan-kit-demand1 .. bauchleton-read-frame-demand1   the calls that judge, read or write a kit text; those that write lines refuse nothing
-- Assumes nothing.
use mathlib.Core.Path.{refl, ap}
use mathlib.Core.List.{List, [], ◌∷◌}
use Prim.Native.Nat.{ℕ, ◌*◌}
use Rattle.staircase.specs.Rules.{Verdict, ◌then◌, design_rules}
use Rattle.staircase.specs.Demand1.{ByTable}
use Rattle.staircase.proofs.Demand1.{by_table_then, by_table-front, design-by_table}
use Rattle.rules_verdict.specs.Number.{number, place_of}
use Rattle.rules_verdict.specs.Demand1.{Demand1C}
use Rattle.rules_verdict.proofs.Demand1.{demand1_number}
use Rattle.text.specs.KitReader.{scan_kit, read_kit_call}
use Rattle.text.specs.FrameReader.{block_rule, block_info, read_blocks_call, frame_rule, frame_info, frame_red, read_frame_call}
use Rattle.text.proofs.Kept.{kept_old}
use Rattle.text.specs.KitWriter.{measure_call, write_call}
use Rattle.text.proofs.Demand1.{scan_kit_demand1, read_kit_demand1, text_length_demand1, write_kit_demand1, blocks_demand1, read_blocks_demand1, frame_demand1, read_frame_demand1}
use Rattle.bauchleton_text.specs.Answers.{scan_blocks_for, read_blocks_for, scan_frame_for, read_frame_for}

-- rules 1 to 3, and then others
for_by_table : (rules : List ℕ) (m t M : ℕ) (v : Verdict) → ByTable rules v → ByTable (1 ∷ 2 ∷ 3 ∷ rules) (design_rules m t M 0 then v)
for_by_table rules m t M v b =
    by_table_then (1 ∷ 2 ∷ 3 ∷ rules) (design_rules m t M 0) v (design-by_table (1 ∷ 2 ∷ 3 ∷ rules) refl refl refl m t M 0)
    (λ d. by_table-front (1 ∷ 2 ∷ 3 ∷ []) rules v b)

pub bauchleton_scan-kit_demand1 : (s : List ℕ) → Demand1C (1 ∷ 2 ∷ 3 ∷ 11 ∷ []) (number (scan_kit s)) (place_of (scan_kit s)) [] []
bauchleton_scan-kit_demand1 s = demand1_number _ _ _ _ (scan_kit_demand1 s)

pub bauchleton_read-kit_demand1 : (s self parity w : List ℕ)
    → Demand1C (1 ∷ 2 ∷ 3 ∷ 6 ∷ 11 ∷ []) (number (read_kit_call s self parity w).verdict) (place_of (read_kit_call s self parity w).verdict) (self ∷ parity ∷ w ∷ [])
    ((read_kit_call s self parity w).self ∷ (read_kit_call s self parity w).parity ∷ (read_kit_call s self parity w).inverse ∷ [])
bauchleton_read-kit_demand1 s self parity w = demand1_number _ _ _ _ (read_kit_demand1 s self parity w)

module _ (m t M : ℕ) (self parity : List ℕ) where
  pub bauchleton_kit-text-length_demand1 :
      Demand1C (1 ∷ 2 ∷ 3 ∷ 6 ∷ []) (number (measure_call m t M self parity).verdict) (place_of (measure_call m t M self parity).verdict) [] []
  bauchleton_kit-text-length_demand1 = demand1_number _ _ _ _ (text_length_demand1 m t M self parity)

  pub bauchleton_write_kit_demand1 : (w text : List ℕ)
      → Demand1C (1 ∷ 2 ∷ 3 ∷ 6 ∷ 7 ∷ 8 ∷ []) (number (write_call m t M self parity w text).verdict) (place_of (write_call m t M self parity w text).verdict)
      (text ∷ []) ((write_call m t M self parity w text).text ∷ [])
  bauchleton_write_kit_demand1 w text = demand1_number _ _ _ _ (write_kit_demand1 m t M self parity w text)

module _ (m t M : ℕ) (s info red : List ℕ) where
  pub bauchleton_scan-blocks_demand1 : Demand1C (1 ∷ 2 ∷ 3 ∷ 12 ∷ []) (number (scan_blocks_for m t M s)) (place_of (scan_blocks_for m t M s)) [] []
  unfolding scan_blocks_for
  bauchleton_scan-blocks_demand1 =
      demand1_number _ _ _ _ (record { by_table = for_by_table (12 ∷ []) m t M (block_rule M s) (blocks_demand1 M s).by_table; untouched = λ h. refl })

  pub bauchleton_scan-frame_demand1 : Demand1C (1 ∷ 2 ∷ 3 ∷ 12 ∷ []) (number (scan_frame_for m t M s)) (place_of (scan_frame_for m t M s)) [] []
  unfolding scan_frame_for
  bauchleton_scan-frame_demand1 =
      demand1_number _ _ _ _ (record { by_table = for_by_table (12 ∷ []) m t M (frame_rule M (m * t) s) (frame_demand1 M (m * t) s).by_table; untouched = λ h. refl })

  pub bauchleton_read-blocks_demand1 :
      Demand1C (1 ∷ 2 ∷ 3 ∷ 6 ∷ 12 ∷ []) (number (read_blocks_for m t M s info).verdict) (place_of (read_blocks_for m t M s info).verdict) (info ∷ [])
      ((read_blocks_for m t M s info).info ∷ [])
  unfolding read_blocks_for
  bauchleton_read-blocks_demand1 =
      let v : Verdict = (read_blocks_call M s info).verdict in
      demand1_number _ _ _ _
      (record {
        by_table = for_by_table (6 ∷ 12 ∷ []) m t M v (read_blocks_demand1 M s info).by_table;
        untouched = λ h. ap (λ (z : List ℕ). z ∷ []) (kept_old (design_rules m t M 0 then v) (block_info M s) info h);
      })

  pub bauchleton_read-frame_demand1 :
      Demand1C (1 ∷ 2 ∷ 3 ∷ 6 ∷ 12 ∷ []) (number (read_frame_for m t M s info red).verdict) (place_of (read_frame_for m t M s info red).verdict) (info ∷ red ∷ [])
      ((read_frame_for m t M s info red).info ∷ (read_frame_for m t M s info red).red ∷ [])
  unfolding read_frame_for
  bauchleton_read-frame_demand1 =
      let v : Verdict = (read_frame_call M (m * t) s info red).verdict in
      demand1_number _ _ _ _
      (record {
        by_table = for_by_table (6 ∷ 12 ∷ []) m t M v (read_frame_demand1 M (m * t) s info red).by_table;
        untouched = λ h i.
            kept_old (design_rules m t M 0 then v) (frame_info M (m * t) s) info h i ∷ kept_old (design_rules m t M 0 then v) (frame_red M (m * t) s) red h i ∷ [];
      })
