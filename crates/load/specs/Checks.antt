-- Steps of the code: the rules of the calls after the design's.
--   fill_rules   rules 4 and 6 of the call that fills
--   turn_rules   rules 4, 6 and 10 of the two calls that turn
-- Assumes nothing.
use Rattle.std.specs.Prelude.{List, ℕ, length}
use Rattle.staircase.specs.Design.{Params}
use Rattle.staircase.specs.Rules.{Verdict, ◌then◌, count_rule, length_rule, info_length, frame_lengths, frame_bits}

unfoldable pub fill_rules : Params → ℕ → List ℕ → Verdict
fill_rules s L info = count_rule L then length_rule 4 (length info) (info_length s L)

unfoldable pub turn_rules : Params → ℕ → List ℕ → List ℕ → Verdict
turn_rules s L info red = count_rule L then frame_lengths s L info red then frame_bits info red
