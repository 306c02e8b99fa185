-- What `mend` prints of any frame text that it does not refuse: a frame text of the same length, and the counts. So its output, without the last two lines,
-- can be given to `mend` again. The theorem is `mend_prints` in proofs/MendPrints.antt.
--   mend_verdict     the rules of `mend`
--   mended          the blocks and groups that it prints
--   MendPrints      the claim
-- Assumes nothing.
use Rattle.std.specs.Prelude.{◌≡◌, List, ◌++◌, ℕ, ◌*◌, length}
use Rattle.staircase.specs.Design.{order}
use Rattle.staircase.specs.Frame.{groups}
use Rattle.staircase.specs.Rules.{Verdict, ◌then◌}
use Rattle.staircase.specs.Rules.Verdict.{accepted}
use Rattle.text.specs.KitReader.{kit_params, scan_kit}
use Rattle.text.specs.FrameText.{block_text, group_text}
use Rattle.text.specs.FrameReader.{frame_rule, frame_count, frame_info, frame_red}
use Rattle.text.specs.Programs.{counts_text, input_rule, mend_call, mend_output}
use Rattle.text.specs.FrameThenMend.{kit_m, kit_r}

unfoldable pub mend_verdict : List ℕ → List ℕ → Verdict
mend_verdict kit copy = input_rule kit copy then scan_kit kit then frame_rule (kit_m kit) (kit_r kit) copy then (mend_call kit copy).verdict

abbrev pub mended : List ℕ → List ℕ → List ℕ
mended kit copy =
    block_text (kit_m kit * kit_m kit) (frame_count (kit_m kit) (kit_r kit) copy) (mend_call kit copy).frame.info
    ++ group_text (order (kit_params kit)) (groups (frame_count (kit_m kit) (kit_r kit) copy)) (mend_call kit copy).frame.red

pub record MendPrints (kit copy : List ℕ) : Type 0 where
  pub prints : mend_output kit copy ≡ mended kit copy ++ counts_text (mend_call kit copy).counts.rounds (mend_call kit copy).counts.turned
      (mend_call kit copy).counts.outside
  pub long : length (mended kit copy) ≡ length copy
  pub reads : frame_rule (kit_m kit) (kit_r kit) (mended kit copy) ≡ accepted
  pub count : frame_count (kit_m kit) (kit_r kit) (mended kit copy) ≡ frame_count (kit_m kit) (kit_r kit) copy
  pub info : frame_info (kit_m kit) (kit_r kit) (mended kit copy) ≡ (mend_call kit copy).frame.info
  pub red : frame_red (kit_m kit) (kit_r kit) (mended kit copy) ≡ (mend_call kit copy).frame.red
  -- where no word was left outside, `mend` finds nothing more to do
  pub again : (mend_call kit copy).counts.outside ≡ 0 → mend_output kit (mended kit copy) ≡ mended kit copy ++ counts_text 1 0 0
