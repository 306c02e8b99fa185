-- The places of rule 6 that the calls on texts have; none of them has rule 4 or rule 10.
--   walk-places, scan-places       rules 11 and 12
--   read_kit_places, write_kit_places, text_length-places, read_blocks_places, read_frame_places   the calls that are lent slices
-- Assumes nothing.
use mathlib.Core.Path.{◌≡◌, refl, subst⁻¹}
use mathlib.Core.Bool.{true, not}
use mathlib.Core.List.{List, [], ◌∷◌}
use Prim.Native.Nat.{ℕ, ◌*◌}
use lib.ListN.{length}
use Rattle.text_formats.specs.Format as format
use Rattle.text_formats.specs.Format.{Scan}
use Rattle.text_formats.specs.Items.{Walk, stuck, past, walk}
use Rattle.staircase.specs.Design.{Params, params}
use Rattle.staircase.specs.Frame.{groups}
use Rattle.staircase.specs.Rules.{interleavers}
use Rattle.staircase.specs.Demand1.{among}
use Rattle.staircase.specs.Places.{NoCount, Places}
use Rattle.staircase.proofs.Places.{places-both, places-accepted, places_other, places-design, places-lists, places-spare, places-slice, places_list_lengths, places-kit_lengths}
use Rattle.text.specs.Rules.{walk_rule, scan_rule}
use Rattle.text.specs.KitText.{head_items, kit_bytes}
use Rattle.text.specs.KitReader.{head_number, head_rule, kit_params, body_scan, body_rule, read_verdict, read_kit_call}
use Rattle.text.specs.KitWriter.{write_verdict, write_call, measure_verdict, measure_call}
use Rattle.text.specs.FrameReader.{block_scan, block_rule, block_count, read_blocks_call, frame_scan, frame_rule, frame_count, read_frame_call}
use Rattle.text.proofs.Demand1.{measured_by-verdict}

module _ (own : List ℕ) where
  walk-places : (rule : ℕ) (x : Walk) → not (among rule (4 ∷ 6 ∷ 10 ∷ [])) ≡ true → Places own NoCount 0 (walk_rule rule x)
  unfolding walk_rule
  walk-places rule (stuck q) h = places_other own NoCount 0 true rule q h
  walk-places rule (past ws q) h = places-accepted own NoCount 0

  scan-places : (rule : ℕ) (x : Scan) → not (among rule (4 ∷ 6 ∷ 10 ∷ [])) ≡ true → Places own NoCount 0 (scan_rule rule x)
  unfolding scan_rule
  scan-places rule (format.refused q) h = places_other own NoCount 0 true rule q h
  scan-places rule (format.read l vs) h = places-accepted own NoCount 0

-- ---- kit text

pub read_kit_places : (s self parity w : List ℕ) → Places (1 ∷ 2 ∷ 3 ∷ []) NoCount 0 (read_kit_call s self parity w).verdict
unfolding read_kit_call read_verdict head_rule body_rule
read_kit_places s self parity w =
    let own : List ℕ = 1 ∷ 2 ∷ 3 ∷ [] in
    places-both own NoCount 0 _ _ (walk-places own 11 (walk head_items s 0) refl)
    (places-both own NoCount 0 _ _ (places-design own NoCount 0 (head_number s 0) (head_number s 1) (head_number s 2) 0)
    (places-both own NoCount 0 _ _ (places-kit_lengths own NoCount 0 refl refl refl (kit_params s) self parity w) (scan-places own 11 (body_scan s) refl)))

-- "rule 6 gains place 7, a text buffer"
pub write_kit_places : (m t M : ℕ) (self parity w text : List ℕ) → Places (1 ∷ 2 ∷ 3 ∷ 7 ∷ []) NoCount 0 (write_call m t M self parity w text).verdict
unfolding write_call write_verdict
write_kit_places m t M self parity w text =
    let own : List ℕ = 1 ∷ 2 ∷ 3 ∷ 7 ∷ [] in
    let s : Params = params m t M 0 in
    places-both own NoCount 0 _ _ (places-design own NoCount 0 m t M 0)
    (places-both own NoCount 0 _ _ (places-kit_lengths own NoCount 0 refl refl refl s self parity w)
    (places-both own NoCount 0 _ _ (places-slice own NoCount 0 7 (length text) (length (kit_bytes m t M self parity w)) refl)
    (places-both own NoCount 0 _ _ (places-lists own NoCount 0 s (interleavers s self parity)) (places-spare own NoCount 0 s w))))

pub text_length-places : (m t M : ℕ) (self parity : List ℕ) → Places (1 ∷ 2 ∷ []) NoCount 0 (measure_call m t M self parity).verdict
unfolding measure_call measure_verdict
text_length-places m t M self parity =
    let own : List ℕ = 1 ∷ 2 ∷ [] in
    subst⁻¹ (Places own NoCount 0) (measured_by-verdict (measure_verdict m t M self parity) _)
    (places-both own NoCount 0 _ _ (places-design own NoCount 0 m t M 0) (places_list_lengths own NoCount 0 refl refl (params m t M 0) self parity))

-- ---- block text and frame text

pub read_blocks_places : (M : ℕ) (s info : List ℕ) → Places (4 ∷ []) NoCount 0 (read_blocks_call M s info).verdict
unfolding read_blocks_call block_rule
read_blocks_places M s info =
    let own : List ℕ = 4 ∷ [] in
    places-both own NoCount 0 _ _ (scan-places own 12 (block_scan M s) refl) (places-slice own NoCount 0 4 (length info) (block_count M s * (M * M)) refl)

pub read_frame_places : (M r : ℕ) (s info red : List ℕ) → Places (4 ∷ 5 ∷ []) NoCount 0 (read_frame_call M r s info red).verdict
unfolding read_frame_call frame_rule
read_frame_places M r s info red =
    let own : List ℕ = 4 ∷ 5 ∷ [] in
    let L : ℕ = frame_count M r s in
    places-both own NoCount 0 _ _ (scan-places own 12 (frame_scan M r s) refl)
    (places-both own NoCount 0 _ _ (places-slice own NoCount 0 4 (length info) (L * (M * M)) refl)
    (places-slice own NoCount 0 5 (length red) (groups L * (2 * (M * r))) refl))
