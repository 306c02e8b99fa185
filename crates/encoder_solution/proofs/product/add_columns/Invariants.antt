-- The loop's invariant: the words before `e` are added to, the others as they were.
use mathlib.Core.Path.{◌≡◌}
use Prim.Native.Nat.{◌+◌, ◌*◌, ◌≤◌}
use lib.ListN.{length, get_or}
use Rattle.bch.specs.Powers.{xor_sum}
use Rattle.bch_remainders.proofs.Powers.{Added}
use Rattle.encoder_solution.proofs.product.add_columns.Given as goal

abbrev pub invariant-loop-e : goal.invariant-loop-e
invariant-loop-e l =
    (l.e-end ≡ length l.initial.products) × (l.e ≤ length l.initial.products) × (length l.products ≡ length l.initial.products)
    × Added l.initial.products (λ i. xor_sum l.c (λ j. get_or l.tables (256 * j + get_or l.inverse (i * l.w + l.b + j) 0) 0)) l.e l.products
