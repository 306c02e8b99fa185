-- After i bits: what the others say at q is what all of them say.
use Rattle.text_items.specs.Answers.{step_of}
use Rattle.text_formats.specs.Items.{bits, walk}
use mathlib.Core.Path.{◌≡◌}
use Prim.Native.Nat.{◌-◌}
use Rattle.text_items.proofs.bit_run.Given as goal

abbrev pub invariant-loop-i : goal.invariant-loop-i
invariant-loop-i l = step_of (walk (bits l.n) l.s l.at) ≡ step_of (walk (bits (l.n - l._i)) l.s l.q)
