-- The loop's invariant: the words before `e` are added to, the others as they were.
use mathlib.Core.Path.{◌≡◌}
use Prim.Native.Nat.{◌*◌, ◌≤◌}
use lib.ListN.{length, get_or}
use Rattle.bch_remainders.proofs.Powers.{Added}
use Rattle.encoder_solution.specs.Words.{row_product}
use Rattle.encoder_solution.proofs.rows.multiply_in.Given as goal

abbrev pub invariant-loop-e : goal.invariant-loop-e
invariant-loop-e l =
    (l.e-end ≡ length l.initial.products) × (l.e ≤ length l.initial.products) × (length l.products ≡ length l.initial.products)
    × Added l.initial.products (λ i. row_product l.inverse l.w (λ k. get_or l.constants k 0) i (8 * l.w)) l.e l.products
