-- Demand 1: "A kit, a frame or a received copy, with any content and any lengths, is either worked or refused by document 01's table; a refused one
-- leaves all that was lent unchanged but for working bytes."
--   Table n p      a number of document 01's table or of document 02, and a place that it can have
--   among          one of some numbers
--   ByTable        a verdict that accepts, or that refuses by one of a call's rules
--   Demand1        the claim about a call: its rules, its verdict, the buffers that it was lent to write on, and what it leaves there
-- The laws of the calls on kits and frames are in proofs/Demand1.antt, those of the others in the crates that define them; docs/PROMISES.md has the list,
-- and a call that is added adds its line there. What a call is lent to read, it cannot change.
-- Assumes nothing.
use Rattle.std.specs.Prelude.{◌≡◌, Bool, true, false, ◌||◌, ◌≢◌, List, [], ◌∷◌, ℕ, ◌*◌, ◌≤◌, ◌<◌, eqb}
use Rattle.staircase.specs.Design.{most-m, most-t, most-M, most-order, most-rounds}
use Rattle.staircase.specs.Rules.{Verdict}
use Rattle.staircase.specs.Rules.Verdict.{accepted, refused}
use Rattle.staircase.specs.Batch.{most-frames}
use Rattle.staircase.specs.Window.{most-window}

-- "Returned", "Place". A place that is a number of blocks or of a byte may be any number, and each slice has its place; which of these a call has, its law
-- of Places.antt says.
pub data Table (n p : ℕ) : Type 0 where
  -- "1, 2, 3 for m, t, M"; document 02: "rule 1 gains place 4"
  size : n ≡ 1 → 1 ≤ p → p ≤ 4 → Table n p
  -- "n above 2^m - 1", and m is at least 4
  long : n ≡ 2 → 15 < p → Table n p
  -- "M × r .. above 4,096"
  large : n ≡ 3 → most-order < p → Table n p
  count : n ≡ 4 → Table n p
  -- "above 64"
  rounds : n ≡ 5 → most-rounds < p → Table n p
  -- "1 self, 2 parity, 3 inverse, 4 information, 5 redundancy, 6 working"; document 02: "rule 6 gains place 7, a text buffer"
  length : n ≡ 6 → 1 ≤ p → p ≤ 7 → Table n p
  -- "the entry's position in its list; for parity plus M × r"
  entry : n ≡ 7 → p < 2 * most-order → Table n p
  -- "row"
  spare : n ≡ 8 → p < most-order → Table n p
  -- "row × M × r + column"
  inverse : n ≡ 9 → p < most-order * most-order → Table n p
  bit : n ≡ 10 → Table n p
  kit_text : n ≡ 11 → Table n p
  block_text : n ≡ 12 → Table n p
  -- "1 kit, 2 blocks"
  input : n ≡ 13 → 1 ≤ p → p ≤ 2 → Table n p
  -- document 02: "14 singular .. the first column of A that is a sum of earlier columns"
  singular : n ≡ 14 → p < most-order → Table n p
  -- document 02: "15 narrow .. the place is M"
  narrow : n ≡ 15 → p ≤ most-M → Table n p
  -- document 02: "17 batch .. when the number of frames is 0 or above 256; the place is that number"
  batch : n ≡ 17 → (0 < p → most-frames < p) → Table n p
  -- document 02: "16 full .. the place is the first such total's position in the order above, from 1"
  full : n ≡ 16 → 1 ≤ p → p ≤ 6 → Table n p
  -- document 02: the bytes of a report that a host in C lends "are place 8 of rule 6"
  report : n ≡ 6 → p ≡ 8 → Table n p
  -- a tally that a host in C lends as a slice, behind the places of documents 01 and 02 (docs/DECISIONS.md)
  tally : n ≡ 6 → p ≡ 9 → Table n p
  -- document 02: "18 window .. when V is 0 or above 64; the place is V"
  window : n ≡ 18 → (0 < p → most-window < p) → Table n p
  -- document 02: "19 thin .. the place is r"
  thin : n ≡ 19 → p ≤ most-m * most-t → Table n p

abbrev pub among : ℕ → List ℕ → Bool
among n [] = false
among n (m ∷ ms) = eqb n m || among n ms

pub data ByTable (rules : List ℕ) (v : Verdict) : Type 0 where
  worked : v ≡ accepted → ByTable rules v
  refused_by : (n p : ℕ) → v ≡ refused n p → among n rules ≡ true → Table n p → ByTable rules v

pub record Demand1 (rules : List ℕ) (v : Verdict) (lent left : List (List ℕ)) : Type 0 where
  pub by_table : ByTable rules v
  pub untouched : v ≢ accepted → left ≡ lent
