-- Document 01's worked example of the programs: "Under K, `frame` turns .. into ..", and what `mend` prints of the two texts.
--   k_frames     what `frame` prints
--   k_mends      what `mend` prints of it
--   k_made       what `makekit` prints for K's lists: K's kit text
-- Assumes nothing.
use mathlib.Core.Path.{◌≡◌, refl, sym, ap, ap₂, subst, ◌∙◌}
use lib.ListN.{length, replicate}
use Prim.Native.Nat.{ℕ, ◌*◌, ◌≤◌}
use mathlib.Core.List.{List, [], ◌++◌}
use native.Mathlib.Omega.{arith}
use borrow.Author.Tests.{le-ltb}
use Rattle.bch.specs.Code.{parity}
use Rattle.staircase.specs.Lists.{tabulate, concat}
use Rattle.staircase.specs.Design.{params, order}
use Rattle.staircase.specs.Frame.{groups}
use Rattle.staircase.specs.System.{inverse_entry, row_bytes}
use Rattle.staircase.specs.Rules.{Verdict, ◌then◌, design_rules, red_length, kit_work, entries}
use Rattle.staircase.specs.Rules.Verdict.{accepted}
use Rattle.staircase.specs.Calls.{encode_call, Encoded}
use Rattle.staircase.specs.Maker.{Made, make_work, make_call}
use Rattle.staircase.specs.RowsK.{params_k, self_k, parity_k, inverse_k}
use Rattle.staircase.proofs.Vectors.{rows_k}
use Rattle.staircase.proofs.RowsMaker.{made_k-is}
use Rattle.staircase.proofs.Encoded.{encode_old}
use Rattle.staircase.proofs.Rules.{then_first, then_rest, then_accepted, refuse-accepted}
use Rattle.text_formats.specs.Format.{digits_of, dec}
use Rattle.text_formats.specs.Items.{lines_from, bits_line}
use Rattle.text.specs.KitText.{pair_line, kit_body, kit_values, kit_bytes}
use Rattle.text.specs.KitReader.{head_number, head_rule, kit_params, self_of, parity_of, inverse_of}
use Rattle.text.specs.KitWriter.{text_length}
use Rattle.text.specs.FrameText.{group_text}
use Rattle.text.specs.FrameReader.{block_rule, block_count, block_info}
use Rattle.text.specs.Programs.{most-input, input_rule, printed, judged, frame_call, frame_output, mend_output, counts_text}
use Rattle.text.specs.FrameThenMend.{frame_verdict}
use Rattle.text.specs.MakeKit.{lists_rule, scan_lists, self_shown, parity_shown, text_rule, make_kit_call, make_kit_verdict, make_kit_output}
use Rattle.text.proofs.KitExamples.{kit_k-accepted, kit_k-numbers, kit_k-self, kit_k-parity, kit_k-inverse, lists_k-accepted, lists_k-numbers, lists_k-self, lists_k-parity}
use Rattle.text.proofs.FrameExamples.{blocks_shown, groups-written}
use Rattle.text.specs.TextsK.{text_k, lists_k, four_blocks, four_bits, two_groups, two_bits}
use Rattle.text.proofs.FrameThenMend.{frame_then_mend}

encode_k : encode_call 4 1 1 0 4 self_k parity_k inverse_k four_bits (replicate (red_length params_k 4) 0) (kit_work params_k)
    ≡ record { verdict = accepted; red = two_bits }
encode_k =
    encode_old 4 1 1 0 4 self_k parity_k inverse_k four_bits (replicate (red_length params_k 4) 255) (replicate (red_length params_k 4) 0) two_bits (kit_work params_k) refl
    rows_k.blocks0100

frame_call-by : (kit text : List ℕ) {m t M L : ℕ} {self parity w info : List ℕ} → head_number kit 0 ≡ m → head_number kit 1 ≡ t → head_number kit 2 ≡ M
    → self_of kit ≡ self → parity_of kit ≡ parity → inverse_of kit ≡ w
    → block_count M text ≡ L → block_info M text ≡ info
    → frame_call kit text ≡ encode_call m t M 0 L self parity w info (replicate (red_length (params m t M 0) L) 0) (kit_work (params m t M 0))
unfolding frame_call
frame_call-by kit text a b c d e f g h = rw (a, b, c, d, e, f, g, h) refl

call_k : frame_call text_k four_blocks ≡ record { verdict = accepted; red = two_bits }
call_k =
    frame_call-by text_k four_blocks kit_k-numbers.0 kit_k-numbers.1 kit_k-numbers.2 kit_k-self kit_k-parity kit_k-inverse blocks_shown.1
    blocks_shown.2 ∙ encode_k

verdict_k : frame_verdict text_k four_blocks ≡ accepted
unfolding frame_verdict input_rule
verdict_k =
    then_accepted refl
    (then_accepted kit_k-accepted (then_accepted (ap (λ (M : ℕ). block_rule M four_blocks) kit_k-numbers.2 ∙ blocks_shown.0)
    (ap (λ (x : Encoded). x.verdict) call_k)))

frame_output-by : (kit text : List ℕ) {n L : ℕ} {red : List ℕ} → frame_verdict kit text ≡ accepted
    → head_number kit 2 * (head_number kit 0 * head_number kit 1) ≡ n → block_count (head_number kit 2) text ≡ L
    → (frame_call kit text).red ≡ red → frame_output kit text ≡ group_text n (groups L) red
unfolding frame_output judged printed frame_verdict
frame_output-by kit text {n} v a b c =
    ap (λ (x : Verdict). printed x (group_text (order (kit_params kit)) (groups (block_count (head_number kit 2) text)) (frame_call kit text).red)) v
    ∙ ap (λ (x : ℕ). group_text x (groups (block_count (head_number kit 2) text)) (frame_call kit text).red) a
    ∙ ap₂ (λ (x : ℕ) (y : List ℕ). group_text n (groups x) y) b c

-- "Under K, `frame` turns .. into .."
pub k_frames : frame_output text_k four_blocks ≡ two_groups
k_frames =
    frame_output-by text_k four_blocks verdict_k four (ap (λ (M : ℕ). block_count M four_blocks) kit_k-numbers.2 ∙ blocks_shown.1)
    (ap (λ (x : Encoded). x.red) call_k) ∙ groups-written
  where
    four : head_number text_k 2 * (head_number text_k 0 * head_number text_k 1) ≡ 4
    four = ap₂ (λ (x y : ℕ). x * (y * head_number text_k 1)) kit_k-numbers.2 kit_k-numbers.0 ∙ ap (λ (x : ℕ). 1 * (4 * x)) kit_k-numbers.1

-- "it prints both mended, then `rounds turned outside` and the three numbers"
pub k_mends : mend_output text_k (four_blocks ++ two_groups) ≡ (four_blocks ++ two_groups) ++ counts_text 1 0 0
k_mends =
    subst (λ (x : List ℕ). mend_output text_k (four_blocks ++ x) ≡ (four_blocks ++ x) ++ counts_text 1 0 0) k_frames
    ((frame_then_mend text_k four_blocks verdict_k).mends (subst (λ (x : List ℕ). length (four_blocks ++ x) ≤ 32768) (sym k_frames) (omega arith)))

-- ---- makekit

make_call-by : (s : List ℕ) {m t M : ℕ} {self parity : List ℕ} → head_number s 0 ≡ m → head_number s 1 ≡ t → head_number s 2 ≡ M
    → self_shown s ≡ self → parity_shown s ≡ parity
    → make_kit_call s ≡ make_call m t M 0 self parity (replicate (order (params m t M 0) * row_bytes (order (params m t M 0))) 0) (make_work (params m t M 0))
unfolding make_kit_call
make_call-by s a b c d e = rw (a, b, c, d, e) refl

made_k : make_kit_call lists_k ≡ record { verdict = accepted; inverse = inverse_k }
made_k = make_call-by lists_k lists_k-numbers.0 lists_k-numbers.1 lists_k-numbers.2 lists_k-self lists_k-parity ∙ made_k-is 0 0 0 0

text_k-long : length (kit_bytes 4 1 1 self_k parity_k []) ≡ 94
unfolding digits_of dec lines_from bits_line tabulate concat inverse_entry entries pair_line kit_body kit_values kit_bytes
text_k-long = refl

text_k-is : kit_bytes 4 1 1 self_k parity_k inverse_k ≡ text_k
unfolding digits_of dec lines_from bits_line tabulate concat inverse_entry entries pair_line kit_body kit_values kit_bytes
text_k-is = refl

make_verdict-by : (s : List ℕ) {m t M n : ℕ} {self parity : List ℕ} → head_number s 0 ≡ m → head_number s 1 ≡ t → head_number s 2 ≡ M
    → self_shown s ≡ self → parity_shown s ≡ parity → length (kit_bytes m t M self parity []) ≡ n → n ≤ most-input → length s ≤ most-input
    → scan_lists s ≡ accepted → (make_kit_call s).verdict ≡ accepted → make_kit_verdict s ≡ accepted
unfolding make_kit_verdict scan_lists text_rule text_length
make_verdict-by s {m} {t} {M} {n} {self} {parity} a b c d e f short input scans call =
    let front : Verdict = head_rule s in
    let design : Verdict = design_rules (head_number s 0) (head_number s 1) (head_number s 2) 0 in
    let rest : (design then lists_rule s) ≡ accepted = then_rest front (design then lists_rule s) scans in
    let long : length (kit_bytes (head_number s 0) (head_number s 1) (head_number s 2) (self_shown s) (parity_shown s) []) ≡ n = rw (a, b, c, d, e) f in
    then_accepted (refuse-accepted 13 2 (le-ltb most-input (length s) input))
    (then_accepted (then_first front (design then lists_rule s) scans)
    (then_accepted (then_first design (lists_rule s) rest)
    (then_accepted (then_rest design (lists_rule s) rest)
    (then_accepted (refuse-accepted 13 1 (le-ltb most-input _ (subst (λ (k : ℕ). k ≤ most-input) (sym long) short))) call))))

make_output_by : (s : List ℕ) {m t M : ℕ} {self parity w : List ℕ} → make_kit_verdict s ≡ accepted → head_number s 0 ≡ m → head_number s 1 ≡ t → head_number s 2 ≡ M
    → self_shown s ≡ self → parity_shown s ≡ parity → (make_kit_call s).inverse ≡ w → make_kit_output s ≡ kit_bytes m t M self parity w
unfolding make_kit_output printed
make_output_by s v a b c d e f = rw (v, a, b, c, d, e, f) refl

-- K's lists have K's inverse
pub k_made : make_kit_output lists_k ≡ text_k
k_made =
    make_output_by lists_k
    (make_verdict-by lists_k lists_k-numbers.0 lists_k-numbers.1 lists_k-numbers.2 lists_k-self lists_k-parity text_k-long (omega arith) (omega arith) lists_k-accepted
    (ap (λ (x : Made). x.verdict) made_k))
    lists_k-numbers.0 lists_k-numbers.1 lists_k-numbers.2 lists_k-self lists_k-parity (ap (λ (x : Made). x.inverse) made_k)
    ∙ text_k-is
