-- After p lines: what the lines from p on say at q is what all of them say.
use mathlib.Core.Path.{◌≡◌}
use Prim.Native.Nat.{◌-◌}
use Rattle.text_formats.specs.Items.{walk}
use Rattle.text_items.specs.Answers.{step_of}
use Rattle.text.specs.KitText.{pair_lines}
use Rattle.text_kit_scan.proofs.pairs.Given as goal

abbrev pub invariant-loop-place : goal.invariant-loop-place
invariant-loop-place l = step_of (walk (pair_lines 0 l.n) l.s l.at) ≡ step_of (walk (pair_lines l.place (l.n - l.place)) l.s l.q)
