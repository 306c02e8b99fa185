-- An output begins with the letter of a refusal exactly where a program refuses: its exit status by what it prints is that by its rules.
--   printed_status                              of any verdict, where the text of accepted inputs begins with another letter
--   frame_status, mend_status, makekit_status   the three programs
-- Assumes nothing.
use mathlib.Core.Path.{◌≡◌, refl}
use mathlib.Core.List.{List}
use Prim.Native.Nat.{ℕ}
use Rattle.staircase.specs.Rules.{Verdict}
use Rattle.staircase.specs.Rules.Verdict.{accepted, refused}
use Rattle.staircase.specs.Calls.{Corrected}
use Rattle.text.specs.KitText.{kit_bytes}
use Rattle.text.specs.FrameText.{block_text, group_text}
use Rattle.text.specs.Programs.{refusal_text, printed, judged, frame_output, mend_text, mend_output}
use Rattle.text.specs.FrameThenMend.{frame_verdict}
use Rattle.text.specs.MendPrints.{mend_verdict}
use Rattle.text.specs.MakeKit.{make_kit_verdict, make_kit_output}
use Rattle.text.specs.ExitStatus.{verdict_status, output_status}

printed_status : (v : Verdict) (out : List ℕ) → output_status out ≡ 0 → output_status (printed v out) ≡ verdict_status v
unfolding printed refusal_text verdict_status output_status
printed_status accepted out h = h
printed_status (refused n p) out h = refl

-- ---- what is printed for accepted inputs: group text, block text, kit text

group_status : (n G : ℕ) (red : List ℕ) → output_status (group_text n G red) ≡ 0
unfolding group_text output_status
group_status n G red = refl

mend_text_status : (M n L : ℕ) (c : Corrected) → output_status (mend_text M n L c) ≡ 0
unfolding mend_text block_text output_status
mend_text_status M n L c = refl

kit_status : (m t M : ℕ) (self parity w : List ℕ) → output_status (kit_bytes m t M self parity w) ≡ 0
unfolding kit_bytes output_status
kit_status m t M self parity w = refl

-- ---- the programs

pub frame_status : (kit text : List ℕ) → output_status (frame_output kit text) ≡ verdict_status (frame_verdict kit text)
unfolding frame_output judged frame_verdict
frame_status kit text = printed_status (frame_verdict kit text) _ (group_status _ _ _)

pub mend_status : (kit text : List ℕ) → output_status (mend_output kit text) ≡ verdict_status (mend_verdict kit text)
unfolding mend_output judged mend_verdict
mend_status kit text = printed_status (mend_verdict kit text) _ (mend_text_status _ _ _ _)

pub makekit_status : (s : List ℕ) → output_status (make_kit_output s) ≡ verdict_status (make_kit_verdict s)
unfolding make_kit_output
makekit_status s = printed_status (make_kit_verdict s) _ (kit_status _ _ _ _ _ _)
