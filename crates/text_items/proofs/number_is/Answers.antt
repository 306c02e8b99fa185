-- The digits are written into an array, and compared as fixed bytes.
use native.Mathlib.Omega.{arith}
use mathlib.Core.List.{List}
use mathlib.Core.Path.{sym, ap, ◌∙◌}
use Prim.Native.Nat.{ℕ}
use lib.Seq.{length-take-le}
use Rattle.text_formats.specs.Items.{walk, lits}
use Rattle.text_lines.proofs.Decimal.{dec-short}
use Rattle.text_items.proofs.Fields.{written-front}
use Rattle.text_items.proofs.number_is.Goals as goal

pub slice_bounds-text-end : goal.slice_bounds-text-end
slice_bounds-text-end c = omega (arith, c.put_number-n.ensures.value, dec-short c.args.p)

pub slice_bounds-literal-end : goal.slice_bounds-literal-end
slice_bounds-literal-end c = sym (length-take-le _ _ (omega (arith, c.put_number-n.ensures.value, dec-short c.args.p)))

pub returns : goal.returns
returns c = c.literal.ensures ∙ ap (λ (l : List ℕ). walk (lits l) c.args.s.now c.args.at) (written-front _ _ _ c.args.p c.put_number-n.ensures.value c.put_number-n.ensures.out_after (omega arith))
