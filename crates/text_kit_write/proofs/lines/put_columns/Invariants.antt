-- `Copied` of proofs/Storing.antt of `text_lines`, of the characters.
use Prim.Native.Nat.{◌+◌, ◌-◌, ◌/◌, ◌%◌, ◌^◌, ◌≤◌}
use lib.ListN.{get_or}
use Rattle.staircase.specs.Lists.{tabulate}
use Rattle.text_lines.proofs.Storing.{Copied}
use Rattle.text_kit_write.proofs.lines.put_columns.Given as goal

abbrev pub invariant-loop-j : goal.invariant-loop-j
invariant-loop-j l =
    (l.j ≤ l.n) × Copied l.initial.out (tabulate l.n (λ i. 48 + get_or l.inverse (l.from + i / 8) 0 / 2 ^ (i % 8) % 2)) l.at l.out l.j

abbrev pub decreases-loop-j : goal.decreases-loop-j
decreases-loop-j l = l.n - l.j
