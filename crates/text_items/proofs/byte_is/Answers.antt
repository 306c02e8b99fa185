-- No byte at the position, another byte, and the byte.
use Rattle.text_formats.proofs.Walking.{walk_end, walk_other, this_byte}
use mathlib.Core.List.{[]}
use mathlib.Core.Path.{sym}
use borrow.Author.Rules.{rules}
use Rattle.text_items.proofs.byte_is.Goals as goal

pub returns-then-s-at : goal.returns-then-s-at
returns-then-s-at c = sym (walk_end _ [] _ _ (search rules) c.if-s-at.true)

pub returns-then-s-at-2 : goal.returns-then-s-at-2
returns-then-s-at-2 c = sym (walk_other _ [] _ _ c.if-s-at.false c.if-s-at-2.true)

pub returns : goal.returns
returns c = sym (this_byte _ _ _ c.if-s-at.false c.if-s-at-2.false)
