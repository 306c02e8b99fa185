-- The length is that of the definition, at most 64 tables of 256 sums.
use mathlib.Core.Path.{refl}
use native.Mathlib.Omega.{arith}
use Rattle.words_tables.specs.Tables.{table_length}
use Rattle.words_tables.proofs.table_length.Goals as goal

pub returns : goal.returns
unfolding table_length
returns c = (refl, omega arith)
