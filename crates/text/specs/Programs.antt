-- Document 01, "Programs": what `frame` and `mend` print, for every kit.txt and every standard input.
--   refusal_text, counts_text   what a refusal prints, and the three numbers at the end of what `mend` prints
--   input_rule        rule 13
--   printed          what a verdict prints: a refusal's two lines, or the text of an accepted input
--   judged           "A program tests 13 for both inputs, then reads the kit, then the blocks (12), then makes its call."
--   frame_output      what `frame` prints
--   mend_output       what `mend` prints
-- Assumes nothing.
use Rattle.std.specs.Prelude.{List, [], ◌∷◌, ◌++◌, ℕ, ◌*◌, ltb, length, replicate}
use Rattle.text_formats.specs.Format.{byte, num}
use Rattle.text_formats.specs.Items.{lits, spell}
use Rattle.staircase.specs.Design.{Params, order}
use Rattle.staircase.specs.Frame.{groups}
use Rattle.staircase.specs.Rules.{Verdict, ◌then◌, refuse, red_length, kit_work, decoder_work}
use Rattle.staircase.specs.Rules.Verdict.{accepted, refused}
use Rattle.staircase.specs.Calls.{Encoded, encode_call, Corrected, decode_call}
use Rattle.text.specs.KitText.{two_numbers}
use Rattle.text.specs.KitReader.{head_number, kit_params, scan_kit, self_of, parity_of, inverse_of}
use Rattle.text.specs.FrameText.{block_text, group_text}
use Rattle.text.specs.FrameReader.{block_rule, block_count, block_info, frame_rule, frame_count, frame_info, frame_red}

-- ---- the two lines of a refusal, and those of the counts

-- "`refused place`" as a line.
abbrev pub refusal_names : List ℕ
refusal_names = 114 ∷ 101 ∷ 102 ∷ 117 ∷ 115 ∷ 101 ∷ 100 ∷ 32 ∷ 112 ∷ 108 ∷ 97 ∷ 99 ∷ 101 ∷ 10 ∷ []

-- "`rounds turned outside`" as a line.
abbrev pub count_names : List ℕ
count_names =
    114 ∷ 111 ∷ 117 ∷ 110 ∷ 100 ∷ 115 ∷ 32 ∷ 116 ∷ 117 ∷ 114 ∷ 110 ∷ 101 ∷ 100 ∷ 32 ∷ 111 ∷ 117 ∷ 116 ∷ 115 ∷ 105 ∷ 100 ∷ 101 ∷ 10 ∷ []

-- "A refusal prints `refused place` and the two."
unfoldable pub refusal_text : ℕ → ℕ → List ℕ
refusal_text rule place = spell (lits refusal_names ++ two_numbers) (rule ∷ place ∷ [])

-- "then `rounds turned outside` and the three numbers".
unfoldable pub counts_text : ℕ → ℕ → ℕ → List ℕ
counts_text rounds turned outside = spell (lits count_names ++ (num ∷ byte 32 ∷ two_numbers)) (rounds ∷ turned ∷ outside ∷ [])

-- ---- the rules

abbrev pub most-input : ℕ
most-input = 32768

-- "13 input: 1 kit, 2 blocks; a program's input above 32,768 bytes"
unfoldable pub input_rule : List ℕ → List ℕ → Verdict
input_rule kit text = refuse (ltb most-input (length kit)) 13 1 then refuse (ltb most-input (length text)) 13 2

-- "A refusal prints `refused place` and the two."
unfoldable pub printed : Verdict → List ℕ → List ℕ
printed accepted out = out
printed (refused n p) out = refusal_text n p

unfoldable pub judged : List ℕ → List ℕ → Verdict → Verdict → List ℕ → List ℕ
judged kit text text_rule call out = printed (input_rule kit text then scan_kit kit then text_rule then call) out

-- ---- frame

-- the call that `frame` makes, on the kit and the blocks that the two texts show; the redundancy it lends is zero
unfoldable pub frame_call : List ℕ → List ℕ → Encoded
frame_call kit text =
    let s : Params = kit_params kit in
    let L : ℕ = block_count (head_number kit 2) text in
    encode_call (head_number kit 0) (head_number kit 1) (head_number kit 2) 0 L (self_of kit) (parity_of kit) (inverse_of kit)
    (block_info (head_number kit 2) text) (replicate (red_length s L) 0) (kit_work s)

-- "It prints `group self parity`, then number, Y, P."
unfoldable pub frame_output : List ℕ → List ℕ → List ℕ
frame_output kit text =
    let M : ℕ = head_number kit 2 in
    judged kit text (block_rule M text) (frame_call kit text).verdict
    (group_text (order (kit_params kit)) (groups (block_count M text)) (frame_call kit text).red)

-- ---- mend

-- "and decodes with rounds 0"
unfoldable pub mend_call : List ℕ → List ℕ → Corrected
mend_call kit text =
    let M : ℕ = head_number kit 2 in
    let r : ℕ = head_number kit 0 * head_number kit 1 in
    decode_call (head_number kit 0) (head_number kit 1) M 0 (frame_count M r text) 0 (self_of kit) (parity_of kit) (frame_info M r text) (frame_red M r text)
    (decoder_work (kit_params kit) (frame_count M r text))

-- "it prints both mended, then `rounds turned outside` and the three numbers."
unfoldable pub mend_text : ℕ → ℕ → ℕ → Corrected → List ℕ
mend_text M n L c =
    block_text (M * M) L c.frame.info
    ++ (group_text n (groups L) c.frame.red ++ counts_text c.counts.rounds c.counts.turned c.counts.outside)

unfoldable pub mend_output : List ℕ → List ℕ → List ℕ
mend_output kit text =
    let M : ℕ = head_number kit 2 in
    let r : ℕ = head_number kit 0 * head_number kit 1 in
    judged kit text (frame_rule M r text) (mend_call kit text).verdict (mend_text M (order (kit_params kit)) (frame_count M r text) (mend_call kit text))
