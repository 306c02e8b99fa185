-- The rules on a received frame after the design's.
--   received_rules   rules 4 to 7 and 10, with k rounds; the word checker, which has no rule 5, has 0, which passes it
--   ListsAsked      the lists of a kit are due, no inverse, and a working byte for each entry of a list
-- Assumes nothing.
use Rattle.std.specs.Prelude.{◌≡◌, List, [], ℕ, ◌*◌, ◌≤◌}
use Rattle.staircase.specs.Design.{Params, most-blocks}
use Rattle.staircase.specs.Rules.{Verdict, ◌then◌, interleavers}
use Rattle.design.specs.declared.Design.{Design}
use Rattle.design.specs.Sizes.{order_of}
use Rattle.rules.specs.declared.lengths.Lengths.{Lengths}
use Rattle.rules.specs.Lengths.{lengths_of, frame_rules}
use Rattle.rules.specs.Bytes.{byte_rules}
use Rattle.words.specs.declared.Asked.{Asked}

unfoldable pub received_rules : Params → ℕ → ℕ → Lengths → List ℕ → List ℕ → List ℕ → List ℕ → ℕ → Verdict
received_rules s L k due self parity info red work =
    frame_rules s L k (lengths_of self parity [] info red work) due then byte_rules s (interleavers s self parity) [] info red

-- where rule 4 accepts the number of blocks
abbrev pub ListsAsked : Design → Asked → Type 0
ListsAsked d a =
    a.blocks ≤ most-blocks
    → (a.due.own ≡ 2 * order_of d) × (a.due.parity ≡ 2 * order_of d) × (a.due.inverse ≡ 0) × (order_of d ≤ a.due.work)
