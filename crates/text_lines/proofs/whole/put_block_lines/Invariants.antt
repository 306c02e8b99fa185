-- Each line is written behind the one before; what is left of the text is the lines of the blocks that are left.
use Prim.Native.Nat.{◌+◌, ◌-◌, ◌*◌}
use lib.ListN.{drop}
use Rattle.text_lines.specs.Written.{block_lines_text}
use Rattle.text_lines.proofs.Lines.{Rest}
use Rattle.text_lines.proofs.whole.put_block_lines.Given as goal

abbrev pub invariant-loop-i : goal.invariant-loop-i
invariant-loop-i l =
    Rest l.initial.out l.at (block_lines_text l.area 1 l.count l.info) l.out l.q (block_lines_text l.area (l.i + 1) (l.count - l.i) (drop (l.i * l.area) l.info))
