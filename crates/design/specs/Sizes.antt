-- The sizes and lists of a design that the code holds.
--   params_of, order_of   its sizes, and M × r
--   lists_of             the two lists, from their bytes
-- Assumes nothing.
use Rattle.std.specs.Prelude.{List, ℕ}
use Rattle.staircase.specs.Design.{Params, Interleavers, params, order}
use Rattle.staircase.specs.Rules.{interleavers}
use Rattle.design.specs.declared.Design.{Design}

abbrev pub params_of : Design → Params
params_of d = params d.m d.t d.size d.col

abbrev pub order_of : Design → ℕ
order_of d = order (params_of d)

abbrev pub lists_of : Design → List ℕ → List ℕ → Interleavers
lists_of d own parity = interleavers (params_of d) own parity
