use mathlib.Core.Path.{◌≡◌, sym, ◌∙◌}
use native.Mathlib.Omega.{arith}
use lib.ListN.{length}
use Rattle.staircase.specs.Lists.{sum_bits}
use Rattle.staircase.specs.Rules.{entries}
use Rattle.matrix.proofs.Packed.{packed_bit-zeros}
use Rattle.kit_system.specs.Rows.{power_digit, row_term, row_entry}
use Rattle.kit_system.proofs.Terms.{sized, sum_more}
use Rattle.kit_system.proofs.system_row.Goals as goal

pub loop-b-init : goal.loop-b-init
unfolding sum_bits
loop-b-init c =
    let a = c.args in
    let h = c.requires in (
      sized a.size (length a.part.now) a.n a.e a.p h.0 h.1 h.2,
      omega arith,
      omega arith,
      λ k. rw (c.fill.ensures.after (λ y h. h)) (packed_bit-zeros (length a.out.now) k),
    )

pub loop-b-preserved : goal.loop-b-preserved
loop-b-preserved c =
    let a = c.args in
    let l = c.loop-b in
    let v = c.digit_at-v.ensures.0 in
    let first = c.add_bit.ensures in
    let w = c.digit_at-w.ensures.0 in
    let place = c.sent-k.ensures.0 in
    let second = c.add_bit-in-loop-b.ensures in (
      l.invariant.0,
      omega arith,
      second.0 ∙ first.0 ∙ l.invariant.2,
      λ k. sum_more (row_term (power_digit a.columns.now) (power_digit a.part.now) (length a.part.now) (entries a.n a.own.now) a.size a.p a.e k) l.b _ _ _ _ _
          (l.invariant.3 k) (first.1 k) (second.1 k) (sym (rw (v, w, place))),
    )

pub returns : goal.returns
unfolding row_entry
returns c =
    let l = c.loop-b in
    let e : l.b ≡ length c.args.part.now = omega arith in
    (omega arith, λ k. rw e at (l.invariant.3 k))
