-- After i bytes: what those from i on say at q is what all of them say.
use mathlib.Core.Path.{◌≡◌}
use lib.ListN.{drop}
use Rattle.text_formats.specs.Items.{walk, lits}
use Rattle.text_items.proofs.literal.Given as goal

abbrev pub invariant-loop-b : goal.invariant-loop-b
invariant-loop-b l = walk (lits l.pat) l.s l.at ≡ walk (lits (drop l.b-index l.pat)) l.s l.q
