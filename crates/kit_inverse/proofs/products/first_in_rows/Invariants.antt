-- The loop's invariant: the rows before `e` have no wrong entry.
use mathlib.Core.Path.{◌≡◌}
use mathlib.Core.Bool.{Bool, false}
use mathlib.Core.List.{List}
use Prim.Native.Nat.{ℕ, ◌*◌, ◌/◌, ◌%◌, ◌<◌}
use lib.ListN.{length, get_or}
use Rattle.staircase.specs.Rules.{entries}
use Rattle.kit_system.specs.Rows.{unstack_of, row_entry}
use Rattle.kit_inverse.specs.Products.{wrong_in}
use Rattle.kit_inverse.proofs.products.first_in_rows.Given as goal

-- entry x of row e is wrong
abbrev pub wrong : (own : List ℕ) (n : ℕ) (columns part : List ℕ) (size : ℕ) (t preimages : List ℕ) → ℕ → ℕ → Bool
wrong own n columns part size t preimages e = wrong_in (row_entry columns part (entries n own) size (get_or preimages (unstack_of size (length part) e) 0) e) t n e

abbrev pub invariant-loop-e : goal.invariant-loop-e
invariant-loop-e l = (i : ℕ) → i < l.e * l.n → wrong l.own l.n l.columns l.part l.size l.t l.preimages (i / l.n) (i % l.n) ≡ false
