-- What the steps of a call say to each other.
--   frame_rules           rules 4 and 6, for the frame of an allowed design
--   HasStretch n k l     l has stretch k of n bytes, counted from 1
--   HasPart s p info red the buffer that holds a block or a group has it whole
-- Assumes nothing.
use Rattle.std.specs.Prelude.{List, ℕ, ◌*◌, ◌≤◌, length}
use Rattle.staircase.specs.Design.{Params, order}
use Rattle.staircase.specs.Rules.{Verdict, ◌then◌, Part, count_rule, part_rule, frame_lengths}
use Rattle.staircase.specs.Rules.Part.{block, group}

-- "showing 1 to 4 and 6", past the design's rules
unfoldable pub frame_rules : Params → ℕ → Part → List ℕ → List ℕ → Verdict
frame_rules s L part info red = count_rule L then part_rule L part then frame_lengths s L info red

pub record HasStretch (n k : ℕ) (l : List ℕ) : Type 0 where
  pub number : 1 ≤ k
  pub within : k * n ≤ length l

unfoldable pub HasPart : Params → Part → List ℕ → List ℕ → Type 0
HasPart s (block b) info red = HasStretch (s.M * s.M) b info
HasPart s (group i) info red = HasStretch (2 * order s) i red
