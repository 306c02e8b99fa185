-- `makekit` and `frame` one after the other: what `makekit` prints for a list text that it does not refuse is a kit text that `frame` and `mend` read. The
-- theorem is `makekit_then_frame` in proofs/MakeKitThenFrame.antt.
--   MakeKitThenFrame   the claim
-- Assumes nothing.
use Rattle.std.specs.Prelude.{◌≡◌, List, ℕ, ◌≤◌, length}
use Rattle.staircase.specs.Rules.{kit_work}
use Rattle.staircase.specs.Rules.Verdict.{accepted}
use Rattle.staircase.specs.Calls.{kit_verdict}
use Rattle.text.specs.KitReader.{head_number, kit_params, scan_kit, self_of, parity_of, inverse_of}
use Rattle.text.specs.FrameReader.{block_rule}
use Rattle.text.specs.Programs.{most-input}
use Rattle.text.specs.FrameThenMend.{frame_verdict, kit_m}
use Rattle.text.specs.MakeKit.{self_shown, parity_shown, make_kit_call, make_kit_output}

pub record MakeKitThenFrame (s : List ℕ) : Type 0 where
  -- it is a kit text, and no longer than a program's input may be
  pub reads : scan_kit (make_kit_output s) ≡ accepted
  pub short : length (make_kit_output s) ≤ most-input
  -- of the same design, with the lists of the list text and the inverse that the maker made
  pub first : head_number (make_kit_output s) 0 ≡ head_number s 0
  pub second : head_number (make_kit_output s) 1 ≡ head_number s 1
  pub third : head_number (make_kit_output s) 2 ≡ head_number s 2
  pub self : self_of (make_kit_output s) ≡ self_shown s
  pub parity : parity_of (make_kit_output s) ≡ parity_shown s
  pub inverse : inverse_of (make_kit_output s) ≡ (make_kit_call s).inverse
  -- "A made kit passes the checker", as `frame` reads it
  pub passes : kit_verdict (head_number (make_kit_output s) 0) (head_number (make_kit_output s) 1) (head_number (make_kit_output s) 2) 0
      (self_of (make_kit_output s)) (parity_of (make_kit_output s)) (inverse_of (make_kit_output s)) (kit_work (kit_params (make_kit_output s))) ≡ accepted
  -- so that under it `frame` refuses no block text that is short enough
  pub frames : (text : List ℕ) → length text ≤ most-input → block_rule (kit_m (make_kit_output s)) text ≡ accepted
      → frame_verdict (make_kit_output s) text ≡ accepted
