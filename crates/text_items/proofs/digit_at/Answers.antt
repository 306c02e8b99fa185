-- No byte at the position, a byte below the digits, a byte above them, and a digit.
use Rattle.text_items.proofs.Numbers.{digit_at_out, low_read, high_read, digit-read}
use mathlib.Core.Path.{◌∙◌}
use Rattle.text_items.proofs.digit_at.Goals as goal

pub returns-then-s-i : goal.returns-then-s-i
returns-then-s-i c = digit_at_out _ _ c.if-s-i.true

pub returns-then-c-lt48 : goal.returns-then-c-lt48
returns-then-c-lt48 c = low_read _ _ c.if-s-i.false c.if-c-lt48.true

pub returns-then-c-gt57 : goal.returns-then-c-gt57
returns-then-c-gt57 c = high_read _ _ c.if-s-i.false c.if-c-gt57.true

pub returns : goal.returns
returns c = c.from.ensures ∙ digit-read _ _ c.if-s-i.false c.if-c-lt48.false c.if-c-gt57.false
