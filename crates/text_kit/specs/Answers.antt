-- What the answers of the scan and of the reader say: a design; a refusal by one of the rules 1 to 3 and 6; or the place of rule 11.
--   kit_scan_verdict    the verdict
--   KitDesign         the design of an accepted text is that of its second line, and allowed
-- Assumes nothing.
use Rattle.std.specs.Prelude.{◌≡◌, List, ℕ, Result, Ok, Err}
use Rattle.staircase.specs.Rules.{Verdict}
use Rattle.staircase.specs.Rules.Verdict.{accepted}
use Rattle.design.specs.Answers.{Allowed}
use Rattle.text.specs.KitReader.{head_number}
use Rattle.design.specs.declared.Design.{Design}
use Rattle.answers.specs.declared.TextError.{TextError}
use Rattle.text_items.specs.Answers.{error_verdict}

unfoldable pub kit_scan_verdict : Result Design TextError → Verdict
kit_scan_verdict (Ok d) = accepted
kit_scan_verdict (Err e) = error_verdict 11 e

-- the design of an accepted text is that of its second line, and allowed
unfoldable pub KitDesign : Result Design TextError → List ℕ → Type 0
KitDesign (Ok d) s = (d.m ≡ head_number s 0) × (d.t ≡ head_number s 1) × (d.size ≡ head_number s 2) × (d.col ≡ 0) × Allowed d
KitDesign (Err e) s = Unit
