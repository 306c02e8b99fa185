-- `frame` and `mend` one after the other: block text followed by what `frame` prints is frame text, which `mend` reads. The theorem is
-- `frame_then_mend` in proofs/FrameThenMend.antt.
--   frame_verdict      the rules of `frame`; where they accept it prints group text, else the two lines of the refusal
--   sent              block text followed by what `frame` prints
--   kit_of             the kit that a kit text shows
--   made_frame, copy_frame   the frame of the blocks and the encoder's redundancy, and the one that a frame text shows
--   FrameThenMend     the claim
-- Assumes nothing.
use Rattle.std.specs.Prelude.{◌≡◌, List, ◌++◌, ℕ, ◌*◌, ◌≤◌, ◌<◌, length}
use Rattle.bch.specs.Code.{distance}
use Rattle.staircase.specs.Frame.{Frame, frame_of, read}
use Rattle.staircase.specs.LineErrors.{line_errors}
use Rattle.staircase.specs.Rules.{Verdict, ◌then◌}
use Rattle.staircase.specs.Rules.Verdict.{accepted}
use Rattle.staircase.specs.Demand3.{Kit, sizes, lists, EachWord}
use Rattle.text.specs.Programs.{counts_text, refusal_text, most-input, input_rule, frame_call, frame_output, mend_output}
use Rattle.text.specs.KitReader.{head_number, scan_kit, self_of, parity_of, inverse_of}
use Rattle.text.specs.FrameText.{frame_bytes}
use Rattle.text.specs.FrameReader.{block_rule, block_count, block_info, frame_rule, frame_count, frame_info, frame_red}

unfoldable pub frame_verdict : List ℕ → List ℕ → Verdict
frame_verdict kit text = input_rule kit text then scan_kit kit then block_rule (head_number kit 2) text then (frame_call kit text).verdict

-- "block text followed by group text in that form"
abbrev pub sent : List ℕ → List ℕ → List ℕ
sent kit text = text ++ frame_output kit text

abbrev pub kit_of : List ℕ → Kit
kit_of kit =
    record {
      m = head_number kit 0;
      t = head_number kit 1;
      M = head_number kit 2;
      col = 0;
      self = self_of kit;
      parity = parity_of kit;
      inverse = inverse_of kit;
    }

-- M and r of the kit
abbrev pub kit_m : List ℕ → ℕ
kit_m kit = head_number kit 2

abbrev pub kit_r : List ℕ → ℕ
kit_r kit = head_number kit 0 * head_number kit 1

-- the blocks that `frame` reads, with the redundancy that the encoder makes
abbrev pub made_frame : List ℕ → List ℕ → Frame
made_frame kit text = frame_of (block_info (kit_m kit) text) (frame_call kit text).red

-- the blocks and groups that `mend` reads
abbrev pub copy_frame : List ℕ → List ℕ → Frame
copy_frame kit copy = frame_of (frame_info (kit_m kit) (kit_r kit) copy) (frame_red (kit_m kit) (kit_r kit) copy)

pub record FrameThenMend (kit text : List ℕ) : Type 0 where
  -- it is frame text, with the blocks' bits as information and the encoder's redundancy
  pub reads : frame_rule (kit_m kit) (kit_r kit) (sent kit text) ≡ accepted
  pub count : frame_count (kit_m kit) (kit_r kit) (sent kit text) ≡ block_count (kit_m kit) text
  pub info : frame_info (kit_m kit) (kit_r kit) (sent kit text) ≡ block_info (kit_m kit) text
  pub red : frame_red (kit_m kit) (kit_r kit) (sent kit text) ≡ (frame_call kit text).red
  -- how long it is, by the sizes of the kit and the number of blocks
  pub bytes : length (sent kit text) ≡ frame_bytes (kit_m kit * kit_m kit) (kit_m kit * kit_r kit) (block_count (kit_m kit) text)
  -- `mend` prints the same blocks and groups, and the counts of one idle round
  pub mends : length (sent kit text) ≤ most-input → mend_output kit (sent kit text) ≡ sent kit text ++ counts_text 1 0 0
  -- or refuses it by rule 13
  pub refuses : most-input < length (sent kit text) → mend_output kit (sent kit text) ≡ refusal_text 13 2
  -- demand 3: of a frame text of the same length, with at most t wrong bits in each word, `mend` prints the blocks and groups that were sent, and
  -- counts the wrong bits and no word outside
  pub restores : (copy : List ℕ) → length copy ≡ length (sent kit text) → length copy ≤ most-input → frame_rule (kit_m kit) (kit_r kit) copy ≡ accepted
      → EachWord (sizes (kit_of kit)) (lists (kit_of kit)) (block_count (kit_m kit) text)
      (λ x. distance (read (made_frame kit text) x.sites) (read (copy_frame kit copy) x.sites) ≤ (kit_of kit).t)
      → (rounds : ℕ) × (mend_output kit copy ≡ sent kit text ++ counts_text rounds (line_errors (copy_frame kit copy) (made_frame kit text)) 0)
