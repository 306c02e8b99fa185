-- What the answer of a call that starts from a seed says.
--   load_state     the last state; a refused call has none, and 0 stands for it
-- Assumes nothing.
use Rattle.answers.specs.declared.Refusal.{Refusal}
use Rattle.std.specs.Prelude.{ℕ, Err, Ok, Result}

unfoldable pub load_state : Result ℕ Refusal → ℕ
load_state (Ok s) = s
load_state (Err r) = 0
