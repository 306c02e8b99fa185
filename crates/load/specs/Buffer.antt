-- The test load on a plain buffer of bits, without a design: what the call that turns bits answers and leaves, for every argument.
--   errors_buffer   its verdict, the buffer and the last state
-- Assumes nothing.
use Rattle.std.specs.Prelude.{List, ℕ, ◌*◌, length}
use Rattle.staircase.specs.Rules.{bit_rule}
use Rattle.staircase.specs.Load.{Filled, filled_by, state_after, random_turns, turned_where}

-- "one draw of 16 steps per bit, and the bit turns when the drawn number is below a given limit"; rule 10 is the only one that can refuse
unfoldable pub errors_buffer : ℕ → ℕ → List ℕ → Filled
errors_buffer seed limit l = filled_by (bit_rule 0 l) l (turned_where (random_turns seed limit) l) (state_after seed (16 * length l))
