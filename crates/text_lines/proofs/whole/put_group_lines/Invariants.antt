-- Each line is written behind the one before; what is left of the text is the lines of the groups that are left.
use Prim.Native.Nat.{◌+◌, ◌-◌, ◌*◌}
use lib.ListN.{drop}
use Rattle.text_lines.specs.Written.{group_lines_text}
use Rattle.text_lines.proofs.Lines.{Rest}
use Rattle.text_lines.proofs.whole.put_group_lines.Given as goal

abbrev pub invariant-loop-i : goal.invariant-loop-i
invariant-loop-i l =
    Rest l.initial.out l.at (group_lines_text l.n 1 l.count l.red) l.out l.q (group_lines_text l.n (l.i + 1) (l.count - l.i) (drop (l.i * (2 * l.n)) l.red))
