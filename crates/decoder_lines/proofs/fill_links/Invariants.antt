-- The loop's invariant: the entries of places below `q` are filled, and those that name them.
use mathlib.Core.Path.{◌≡◌}
use Prim.Native.Nat.{◌*◌, ◌≤◌}
use lib.ListN.{length}
use Rattle.design.specs.Sizes.{params_of, order_of, lists_of}
use Rattle.decoder_lines.proofs.Links.{HalfFilled}
use Rattle.decoder_lines.proofs.fill_links.Given as goal

abbrev pub invariant-loop-q : goal.invariant-loop-q
invariant-loop-q l =
    (l.half ≡ 2 * order_of l.d) × (l.q ≤ l.half) × (length l.links ≡ 4 * order_of l.d) × HalfFilled (params_of l.d) (lists_of l.d l.own l.parity) l.links l.q
