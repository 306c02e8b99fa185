-- Demand 1 of the calls on texts and of the programs.
--   scan_kit_demand1, read_kit_demand1               kit text: the scan, and the reader
--   write_kit_demand1, text_length_demand1           the writer, and the length of its text
--   blocks_demand1, read_blocks_demand1             block text
--   frame_demand1, read_frame_demand1               frame text
--   frame-output_demand1, mend_output_demand1, makekit_output_demand1   the rules of the programs, by which they print what they print
-- Assumes nothing.
use mathlib.Core.Path.{◌≡◌, refl, ap, subst⁻¹}
use mathlib.Core.Bool.{true}
use mathlib.Core.List.{List, [], ◌∷◌}
use Prim.Native.Nat.{ℕ, ◌*◌, ◌≤◌}
use native.Mathlib.Omega.{arith}
use lib.Dec.{ltb}
use lib.ListN.{length}
use Rattle.text_formats.specs.Format as format
use Rattle.text_formats.specs.Format.{Scan}
use Rattle.text_formats.specs.Items.{Walk, stuck, past, walk}
use Rattle.staircase.specs.Frame.{groups}
use Rattle.staircase.specs.Design.{Params, Interleavers, params, order, most-order}
use Rattle.staircase.specs.System.{system_entry}
use Rattle.staircase.specs.Square.{dependent}
use Rattle.staircase.specs.Maker.{singular_rule}
use Rattle.staircase.specs.Rules.{Verdict, ◌then◌, refuse, refuse_first, design_rules, length_rule, list_lengths, kit_lengths, interleavers, list_rule, spare_rule, inverse_rule}
use Rattle.staircase.specs.Rules.Verdict.{accepted, refused}
use Rattle.staircase.proofs.Rules.{design_limits}
use Rattle.staircase.specs.Demand1 as table
use Rattle.staircase.specs.Demand1.{Table, among, ByTable, worked, refused_by, Demand1}
use Rattle.staircase.proofs.Demand1.{by_table_then, by_table-refuse, by_table-first, design-by_table, length-by_table, lists-fit-by_table, kit-fits-by_table, lists-by_table, spare-by_table, inverse-by_table}
use Rattle.text.specs.Rules.{walk_rule, scan_rule}
use Rattle.text.specs.KitText.{head_items, kit_bytes}
use Rattle.text.specs.KitWriter.{write_verdict, write_call, text_length, measure_verdict, measured_by, measure_call}
use Rattle.text.specs.KitReader.{head_number, kit_params, head_rule, body_scan, body_rule, scan_kit, self_of, parity_of, inverse_of, read_verdict, read_kit_call}
use Rattle.text.specs.FrameReader.{block_scan, block_rule, block_count, block_info, read_blocks_call, frame_scan, frame_rule, frame_count, frame_info, frame_red, read_frame_call}
use Rattle.text.specs.Programs.{most-input, input_rule, frame_call, mend_call}
use Rattle.text.specs.FrameThenMend.{kit_m, kit_r, frame_verdict}
use Rattle.text.specs.MendPrints.{mend_verdict}
use Rattle.text.specs.MakeKit.{lists_scan, lists_rule, self_shown, parity_shown, text_rule, make_kit_call, make_kit_verdict}
use Rattle.text.proofs.KitWritten.{design-accepted}
use Rattle.text.proofs.ProgramRules.{lists_of, frame_call_rules, mend_call_rules, make_call_rules}
use Rattle.text.proofs.Kept.{kept_old}

-- ---- the rules

module _ (rules : List ℕ) (rule : ℕ) (has : among rule rules ≡ true) (place : (p : ℕ) → Table rule p) where
  walk-by_table : (x : Walk) → ByTable rules (walk_rule rule x)
  unfolding walk_rule
  walk-by_table (stuck q) = refused_by rule q refl has (place q)
  walk-by_table (past ws q) = worked refl

  scan-by_table : (x : Scan) → ByTable rules (scan_rule rule x)
  unfolding scan_rule
  scan-by_table (format.refused q) = refused_by rule q refl has (place q)
  scan-by_table (format.read l vs) = worked refl

module _ (rules : List ℕ) (has : among 11 rules ≡ true) (s : List ℕ) where
  head_by_table : ByTable rules (head_rule s)
  unfolding head_rule
  head_by_table = walk-by_table rules 11 has (λ p. table.kit_text refl) (walk head_items s 0)

  body_by_table : ByTable rules (body_rule s)
  unfolding body_rule
  body_by_table = scan-by_table rules 11 has (λ p. table.kit_text refl) (body_scan s)

  kit_text-by_table : among 1 rules ≡ true → among 2 rules ≡ true → among 3 rules ≡ true → ByTable rules (scan_kit s)
  unfolding scan_kit
  kit_text-by_table h1 h2 h3 =
      let design : Verdict = design_rules (head_number s 0) (head_number s 1) (head_number s 2) 0 in
      by_table_then rules (head_rule s) (design then body_rule s) head_by_table
      (λ e. by_table_then rules design (body_rule s) (design-by_table rules h1 h2 h3 (head_number s 0) (head_number s 1) (head_number s 2) 0) (λ d. body_by_table))

module _ (rules : List ℕ) (has : among 12 rules ≡ true) where
  blocks-by_table : (M : ℕ) (s : List ℕ) → ByTable rules (block_rule M s)
  unfolding block_rule
  blocks-by_table M s = scan-by_table rules 12 has (λ p. table.block_text refl) (block_scan M s)

  frame-by_table : (M r : ℕ) (s : List ℕ) → ByTable rules (frame_rule M r s)
  unfolding frame_rule
  frame-by_table M r s = scan-by_table rules 12 has (λ p. table.block_text refl) (frame_scan M r s)

input-by_table : (rules : List ℕ) → among 13 rules ≡ true → (kit text : List ℕ) → ByTable rules (input_rule kit text)
unfolding input_rule
input-by_table rules h kit text =
    by_table_then rules (refuse (ltb most-input (length kit)) 13 1) (refuse (ltb most-input (length text)) 13 2)
    (by_table-refuse rules (ltb most-input (length kit)) 13 1 h (λ e. table.input refl (omega arith) (omega arith)))
    (λ f. by_table-refuse rules (ltb most-input (length text)) 13 2 h (λ e. table.input refl (omega arith) (omega arith)))

-- ---- kit text

pub scan_kit_demand1 : (s : List ℕ) → Demand1 (1 ∷ 2 ∷ 3 ∷ 11 ∷ []) (scan_kit s) [] []
scan_kit_demand1 s = record { by_table = kit_text-by_table (1 ∷ 2 ∷ 3 ∷ 11 ∷ []) refl s refl refl refl; untouched = λ h. refl }

-- "two lines (11 ..), then 1 to 3, 6, then the rest (11)"
abbrev reader_numbers : List ℕ
reader_numbers = 1 ∷ 2 ∷ 3 ∷ 6 ∷ 11 ∷ []

pub read_kit_demand1 : (s self parity w : List ℕ)
    → Demand1 (1 ∷ 2 ∷ 3 ∷ 6 ∷ 11 ∷ []) (read_kit_call s self parity w).verdict (self ∷ parity ∷ w ∷ [])
    ((read_kit_call s self parity w).self ∷ (read_kit_call s self parity w).parity ∷ (read_kit_call s self parity w).inverse ∷ [])
unfolding read_kit_call read_verdict
read_kit_demand1 s self parity w =
    let m : ℕ = head_number s 0 in
    let t : ℕ = head_number s 1 in
    let M : ℕ = head_number s 2 in
    let lengths : Verdict = kit_lengths (kit_params s) self parity w in
    let v : Verdict = head_rule s then design_rules m t M 0 then lengths then body_rule s in
    record {
      by_table =
          by_table_then reader_numbers (head_rule s) (design_rules m t M 0 then lengths then body_rule s) (head_by_table reader_numbers refl s)
          (λ e. by_table_then reader_numbers (design_rules m t M 0) (lengths then body_rule s) (design-by_table reader_numbers refl refl refl m t M 0)
          (λ d. by_table_then reader_numbers lengths (body_rule s) (kit-fits-by_table reader_numbers refl (kit_params s) self parity w)
          (λ f. body_by_table reader_numbers refl s)));
      untouched = λ h i. kept_old v (self_of s) self h i ∷ kept_old v (parity_of s) parity h i ∷ kept_old v (inverse_of s) w h i ∷ [];
    }

-- ---- the writer of kit text: "rules 1 to 3 and 6 to 8"

abbrev writer_numbers : List ℕ
writer_numbers = 1 ∷ 2 ∷ 3 ∷ 6 ∷ 7 ∷ 8 ∷ []

pub write_kit_demand1 : (m t M : ℕ) (self parity w text : List ℕ)
    → Demand1 (1 ∷ 2 ∷ 3 ∷ 6 ∷ 7 ∷ 8 ∷ []) (write_call m t M self parity w text).verdict (text ∷ []) ((write_call m t M self parity w text).text ∷ [])
unfolding write_call write_verdict
write_kit_demand1 m t M self parity w text =
    let s : Params = params m t M 0 in
    let l : Interleavers = interleavers s self parity in
    let v7 : Verdict = length_rule 7 (length text) (length (kit_bytes m t M self parity w)) in
    let v : Verdict = design_rules m t M 0 then kit_lengths s self parity w then v7 then list_rule s l then spare_rule s w in
    record {
      by_table =
          by_table_then writer_numbers (design_rules m t M 0) (kit_lengths s self parity w then v7 then list_rule s l then spare_rule s w) (design-by_table writer_numbers refl refl refl m t M 0)
          (λ d. by_table_then writer_numbers (kit_lengths s self parity w) (v7 then list_rule s l then spare_rule s w) (kit-fits-by_table writer_numbers refl s self parity w)
          (λ e. by_table_then writer_numbers v7 (list_rule s l then spare_rule s w)
          (length-by_table writer_numbers refl 7 (length text) (length (kit_bytes m t M self parity w)) (omega arith) (omega arith))
          (λ f. by_table_then writer_numbers (list_rule s l) (spare_rule s w) (lists-by_table writer_numbers s (design_limits m t M 0 d).order-high refl l)
          (λ g. spare-by_table writer_numbers s (design_limits m t M 0 d).order-high refl w))));
      untouched = λ h i. kept_old v (kit_bytes m t M self parity w) text h i ∷ [];
    }

pub measured_by-verdict : (v : Verdict) (n : ℕ) → (measured_by v n).verdict ≡ v
measured_by-verdict accepted n = refl
measured_by-verdict (refused k p) n = refl

pub text_length_demand1 : (m t M : ℕ) (self parity : List ℕ) → Demand1 (1 ∷ 2 ∷ 3 ∷ 6 ∷ []) (measure_call m t M self parity).verdict [] []
unfolding measure_call measure_verdict
text_length_demand1 m t M self parity =
    let s : Params = params m t M 0 in
    let rules : List ℕ = 1 ∷ 2 ∷ 3 ∷ 6 ∷ [] in
    record {
      by_table =
          subst⁻¹ (ByTable rules) (measured_by-verdict (design_rules m t M 0 then list_lengths s self parity) (text_length m t M self parity))
          (by_table_then rules (design_rules m t M 0) (list_lengths s self parity) (design-by_table rules refl refl refl m t M 0) (λ d. lists-fit-by_table rules refl s self parity));
      untouched = λ h. refl;
    }

-- ---- block text and frame text

pub blocks_demand1 : (M : ℕ) (s : List ℕ) → Demand1 (12 ∷ []) (block_rule M s) [] []
blocks_demand1 M s = record { by_table = blocks-by_table (12 ∷ []) refl M s; untouched = λ h. refl }

pub frame_demand1 : (M r : ℕ) (s : List ℕ) → Demand1 (12 ∷ []) (frame_rule M r s) [] []
frame_demand1 M r s = record { by_table = frame-by_table (12 ∷ []) refl M r s; untouched = λ h. refl }

pub read_blocks_demand1 : (M : ℕ) (s info : List ℕ)
    → Demand1 (6 ∷ 12 ∷ []) (read_blocks_call M s info).verdict (info ∷ []) ((read_blocks_call M s info).info ∷ [])
unfolding read_blocks_call
read_blocks_demand1 M s info =
    let v4 : Verdict = length_rule 4 (length info) (block_count M s * (M * M)) in
    record {
      by_table =
          by_table_then (6 ∷ 12 ∷ []) (block_rule M s) v4 (blocks-by_table (6 ∷ 12 ∷ []) refl M s)
          (λ e. length-by_table (6 ∷ 12 ∷ []) refl 4 (length info) (block_count M s * (M * M)) (omega arith) (omega arith));
      untouched = λ h. ap (λ (z : List ℕ). z ∷ []) (kept_old (block_rule M s then v4) (block_info M s) info h);
    }

pub read_frame_demand1 : (M r : ℕ) (s info red : List ℕ)
    → Demand1 (6 ∷ 12 ∷ []) (read_frame_call M r s info red).verdict (info ∷ red ∷ [])
    ((read_frame_call M r s info red).info ∷ (read_frame_call M r s info red).red ∷ [])
unfolding read_frame_call
read_frame_demand1 M r s info red =
    let L : ℕ = frame_count M r s in
    let v4 : Verdict = length_rule 4 (length info) (L * (M * M)) in
    let v5 : Verdict = length_rule 5 (length red) (groups L * (2 * (M * r))) in
    let v : Verdict = frame_rule M r s then v4 then v5 in
    record {
      by_table =
          by_table_then (6 ∷ 12 ∷ []) (frame_rule M r s) (v4 then v5) (frame-by_table (6 ∷ 12 ∷ []) refl M r s)
          (λ e. by_table_then (6 ∷ 12 ∷ []) v4 v5 (length-by_table (6 ∷ 12 ∷ []) refl 4 (length info) (L * (M * M)) (omega arith) (omega arith))
          (λ f. length-by_table (6 ∷ 12 ∷ []) refl 5 (length red) (groups L * (2 * (M * r))) (omega arith) (omega arith)));
      untouched = λ h i. kept_old v (frame_info M r s) info h i ∷ kept_old v (frame_red M r s) red h i ∷ [];
    }

-- ---- the programs

-- "then makes its call": of the encoder's rules 7 and 9 alone can refuse
abbrev frame_numbers : List ℕ
frame_numbers = 1 ∷ 2 ∷ 3 ∷ 7 ∷ 9 ∷ 11 ∷ 12 ∷ 13 ∷ []

-- M × r of a kit text's design
shown_small : (kit : List ℕ) → scan_kit kit ≡ accepted → order (kit_params kit) ≤ most-order
shown_small kit e = (design_limits (head_number kit 0) (head_number kit 1) (head_number kit 2) 0 (design-accepted kit e)).order-high

pub frame-output_demand1 : (kit text : List ℕ) → Demand1 (1 ∷ 2 ∷ 3 ∷ 7 ∷ 9 ∷ 11 ∷ 12 ∷ 13 ∷ []) (frame_verdict kit text) [] []
unfolding frame_verdict
frame-output_demand1 kit text =
    let call : Verdict = (frame_call kit text).verdict in
    let s : Params = kit_params kit in
    let l : Interleavers = lists_of kit in
    record {
      by_table =
          by_table_then frame_numbers (input_rule kit text) (scan_kit kit then block_rule (kit_m kit) text then call) (input-by_table frame_numbers refl kit text)
          (λ e. by_table_then frame_numbers (scan_kit kit) (block_rule (kit_m kit) text then call) (kit_text-by_table frame_numbers refl kit refl refl refl)
          (λ f. by_table_then frame_numbers (block_rule (kit_m kit) text) call (blocks-by_table frame_numbers refl (kit_m kit) text)
          (λ g. subst⁻¹ (ByTable frame_numbers) (frame_call_rules kit text f g)
          (by_table_then frame_numbers (list_rule s l) (inverse_rule s l (inverse_of kit)) (lists-by_table frame_numbers s (shown_small kit f) refl l)
          (λ h. inverse-by_table frame_numbers s (shown_small kit f) refl l (inverse_of kit))))));
      untouched = λ h. refl;
    }

-- of the decoder's rule 7 alone
abbrev mend_numbers : List ℕ
mend_numbers = 1 ∷ 2 ∷ 3 ∷ 7 ∷ 11 ∷ 12 ∷ 13 ∷ []

pub mend_output_demand1 : (kit copy : List ℕ) → Demand1 (1 ∷ 2 ∷ 3 ∷ 7 ∷ 11 ∷ 12 ∷ 13 ∷ []) (mend_verdict kit copy) [] []
unfolding mend_verdict
mend_output_demand1 kit copy =
    let M : ℕ = kit_m kit in
    let r : ℕ = kit_r kit in
    let call : Verdict = (mend_call kit copy).verdict in
    record {
      by_table =
          by_table_then mend_numbers (input_rule kit copy) (scan_kit kit then frame_rule M r copy then call) (input-by_table mend_numbers refl kit copy)
          (λ e. by_table_then mend_numbers (scan_kit kit) (frame_rule M r copy then call) (kit_text-by_table mend_numbers refl kit refl refl refl)
          (λ f. by_table_then mend_numbers (frame_rule M r copy) call (frame-by_table mend_numbers refl M r copy)
          (λ g. subst⁻¹ (ByTable mend_numbers) (mend_call_rules kit copy f g) (lists-by_table mend_numbers (kit_params kit) (shown_small kit f) refl (lists_of kit)))));
      untouched = λ h. refl;
    }

-- of the maker's rules 7 and 14 alone
abbrev makekit_numbers : List ℕ
makekit_numbers = 1 ∷ 2 ∷ 3 ∷ 7 ∷ 11 ∷ 13 ∷ 14 ∷ []

pub makekit_output_demand1 : (s : List ℕ) → Demand1 (1 ∷ 2 ∷ 3 ∷ 7 ∷ 11 ∷ 13 ∷ 14 ∷ []) (make_kit_verdict s) [] []
unfolding make_kit_verdict lists_rule text_rule singular_rule
makekit_output_demand1 s =
    let m : ℕ = head_number s 0 in
    let t : ℕ = head_number s 1 in
    let M : ℕ = head_number s 2 in
    let p : Params = kit_params s in
    let l : Interleavers = interleavers p (self_shown s) (parity_shown s) in
    let n : ℕ = order p in
    let input : Verdict = refuse (ltb most-input (length s)) 13 2 in
    let call : Verdict = (make_kit_call s).verdict in
    let long : ℕ = text_length m t M (self_shown s) (parity_shown s) in
    record {
      by_table =
          by_table_then makekit_numbers input (head_rule s then design_rules m t M 0 then lists_rule s then text_rule s then call)
          (by_table-refuse makekit_numbers (ltb most-input (length s)) 13 2 refl (λ e. table.input refl (omega arith) (omega arith)))
          (λ a. by_table_then makekit_numbers (head_rule s) (design_rules m t M 0 then lists_rule s then text_rule s then call) (head_by_table makekit_numbers refl s)
          (λ b. by_table_then makekit_numbers (design_rules m t M 0) (lists_rule s then text_rule s then call) (design-by_table makekit_numbers refl refl refl m t M 0)
          (λ d. by_table_then makekit_numbers (lists_rule s) (text_rule s then call) (scan-by_table makekit_numbers 11 refl (λ q. table.kit_text refl) (lists_scan s))
          (λ e. by_table_then makekit_numbers (text_rule s) call
          (by_table-refuse makekit_numbers (ltb most-input long) 13 1 refl (λ f. table.input refl (omega arith) (omega arith)))
          (λ f. subst⁻¹ (ByTable makekit_numbers) (make_call_rules s d e)
          (by_table_then makekit_numbers (list_rule p l) (refuse_first 14 0 n (dependent n (system_entry p l)))
          (lists-by_table makekit_numbers p (design_limits m t M 0 d).order-high refl l)
          (λ g. by_table-first makekit_numbers 14 0 n (dependent n (system_entry p l)) refl
          (λ i k. table.singular refl (omega (arith, k, (design_limits m t M 0 d).order-high))))))))));
      untouched = λ h. refl;
    }
