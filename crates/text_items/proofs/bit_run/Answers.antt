use Rattle.text_items.proofs.Lines.{bits-done, bits-end, bits-low, bits-high, bits-step}
use Rattle.text_items.specs.Answers.{step_of}
use mathlib.Core.Path.{sym, ap, ◌∙◌}
use Rattle.text_items.proofs.bit_run.Goals as goal

pub returns-then-s-q : goal.returns-then-s-q
returns-then-s-q c = sym (c.loop-i.invariant ∙ ap step_of (bits-end _ _ _ _ c.loop-i-test.true c.if-s-q.true))

pub returns-then-c-lt48 : goal.returns-then-c-lt48
returns-then-c-lt48 c = sym (c.loop-i.invariant ∙ ap step_of (bits-low _ _ _ _ c.loop-i-test.true c.if-s-q.false c.if-c-lt48.true))

pub returns-then-c-gt49 : goal.returns-then-c-gt49
returns-then-c-gt49 c = sym (c.loop-i.invariant ∙ ap step_of (bits-high _ _ _ _ c.loop-i-test.true c.if-s-q.false c.if-c-gt49.true))

pub loop-i-preserved : goal.loop-i-preserved
loop-i-preserved c = c.loop-i.invariant ∙ bits-step _ _ _ _ c.loop-i-test.true c.if-s-q.false c.if-c-lt48.false c.if-c-gt49.false

pub returns : goal.returns
returns c = sym (c.loop-i.invariant ∙ ap step_of (bits-done _ _ _ _ c.loop-i-test.false))
