-- Demand 1: "refused by document 01's table". `Table` of Demand1.antt leaves any call every place of rules 4 and 10, and each place of rule 6; here a call
-- has those of its own slices, numbers and bytes alone. The laws are in proofs/Places.antt, those of other calls in the crates that define them.
--   OutOfRange     a place of rule 4: a number that is 0 or above its limit
--   OfBlocks       of a number of blocks
--   OfPart         of that, or of the block or the group to be shown
--   NoCount        of a call that has no rule 4
--   Places         the claim about a call: the slices that it is lent, the places of its rule 4, and how many bytes it judges by rule 10
-- Assumes nothing.
use Rattle.std.specs.Prelude.{◌≡◌, true, ◌⊎◌, List, ℕ, ◌<◌}
use Rattle.staircase.specs.Design.{most-blocks}
use Rattle.staircase.specs.Frame.{groups}
use Rattle.staircase.specs.Rules.{Verdict, Part}
use Rattle.staircase.specs.Rules.Verdict.{refused}
use Rattle.staircase.specs.Rules.Part.{block, group}
use Rattle.staircase.specs.Demand1.{among}

-- "4 count: the number; .. out of range"
abbrev pub OutOfRange : ℕ → ℕ → ℕ → Type 0
OutOfRange most n p = (p ≡ n) × (0 < p → most < p)

-- "L": of a call that is given a number of blocks
abbrev pub OfBlocks : ℕ → ℕ → Type 0
OfBlocks L p = OutOfRange most-blocks L p

-- "L, else the block or group to be shown, out of range"
abbrev pub OfPart : ℕ → Part → ℕ → Type 0
OfPart L (block b) p = OfBlocks L p ⊎ OutOfRange L b p
OfPart L (group i) p = OfBlocks L p ⊎ OutOfRange (groups L) i p

abbrev pub NoCount : ℕ → Type 0
NoCount p = ⊥

pub record Places (slices : List ℕ) (counts : ℕ → Type 0) (bytes : ℕ) (v : Verdict) : Type 0 where
  -- "first slice of a wrong length": one that the call is lent
  pub slice : (p : ℕ) → v ≡ refused 6 p → among p slices ≡ true
  pub count : (p : ℕ) → v ≡ refused 4 p → counts p
  -- "byte; for redundancy plus the information length"; 0 bytes where a call has no rule 10
  pub byte : (p : ℕ) → v ≡ refused 10 p → p < bytes
