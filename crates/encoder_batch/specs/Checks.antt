-- The rules of a batch after the design's.
--   frames_rules    rules 4, 17 and 6, then 7, 8, 10 and 9
-- Assumes nothing.
use Rattle.std.specs.Prelude.{List, ℕ}
use Rattle.staircase.specs.Design.{Params}
use Rattle.staircase.specs.Rules.{Verdict, ◌then◌, interleavers, content_rules}
use Rattle.rules.specs.Lengths.{lengths_of, kit_due, batch_rules}

unfoldable pub frames_rules : Params → ℕ → ℕ → List ℕ → List ℕ → List ℕ → List ℕ → List ℕ → ℕ → Verdict
frames_rules s L n self parity w info red work =
    batch_rules s L n (lengths_of self parity w info red work) (kit_due s) then content_rules s (interleavers s self parity) w info
