-- How far a changed block of an original staircase frame reaches: to the parity of its own block and of the next one, and no further. Of one changed block
-- it says more than `reach` of specs/Demand.antt, which leaves every later block open. The theorem is `original_next` in proofs/Next.antt. Blocks are
-- counted from 0.
--   OutsideBlocks     a byte outside the n blocks from block c on
--   SameInfoBut       two buffers have the same information in every block but block c
--   OriginalNext      the claim
-- Assumes nothing.
use Rattle.std.specs.Prelude.{◌≡◌, ◌⊎◌, List, ℕ, ◌+◌, ◌-◌, ◌*◌, ◌%◌, ◌≤◌, ◌<◌, get_or}
use Rattle.staircase.specs.Design.{Params, params}
use Rattle.original.specs.Calls.{original_encode_call}
use Rattle.original.specs.Demand.{OriginalGiven}

-- byte k is before block c, or in block c + n or a later one
abbrev pub OutsideBlocks : Params → ℕ → ℕ → ℕ → Type 0
OutsideBlocks s c n k = (k < c * (s.M * s.M)) ⊎ ((c + n) * (s.M * s.M) ≤ k)

abbrev pub SameInfoBut : Params → ℕ → List ℕ → List ℕ → Type 0
SameInfoBut s c l v = (k : ℕ) → OutsideBlocks s c 1 k → k % s.M < s.M - s.r → get_or l k 0 ≡ get_or v k 0

-- "a changed block may alter its own and every later parity, never an earlier one": of the later ones it alters the next one's alone. Information that
-- differs in no block but block c changes no byte outside blocks c and c + 1, whatever the parity of either buffer held
abbrev pub OriginalNext : ℕ → ℕ → ℕ → ℕ → ℕ → Type 0
OriginalNext m t M col L =
    (l l₂ : List ℕ) → OriginalGiven m t M col L l → OriginalGiven m t M col L l₂ → (c : ℕ) → SameInfoBut (params m t M col) c l l₂
    → (k : ℕ) → OutsideBlocks (params m t M col) c 2 k → get_or (original_encode_call m t M col L l).buffer k 0 ≡ get_or (original_encode_call m t M col L l₂).buffer k 0
