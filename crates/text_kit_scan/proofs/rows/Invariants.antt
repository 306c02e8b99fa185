-- After p lines: what the lines from p on say at q is what all of them say.
use mathlib.Core.Path.{◌≡◌}
use Prim.Native.Nat.{◌-◌}
use Rattle.text_formats.specs.Items.{walk, bits_lines}
use Rattle.text_items.specs.Answers.{step_of}
use Rattle.text_kit_scan.proofs.rows.Given as goal

abbrev pub invariant-loop-row : goal.invariant-loop-row
invariant-loop-row l = step_of (walk (bits_lines l.n 0 l.n) l.s l.at) ≡ step_of (walk (bits_lines l.n l.row (l.n - l.row)) l.s l.q)
