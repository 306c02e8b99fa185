use mathlib.Core.Path.{◌≡◌, ap, ◌∙◌}
use mathlib.Core.List.{List}
use Prim.Native.Nat.{ℕ}
use native.Mathlib.Omega.{arith}
use lib.Bits.{bit_xor}
use lib.ListN.{get_or}
use lib.Seq.{get_or-take}
use Rattle.staircase.proofs.Fill.{each_more}
use Rattle.bch.specs.Polynomial.{◌⊕◌}
use Rattle.words_tables.proofs.double.Goals as goal

pub loop-v-preserved : goal.loop-v-preserved
unfolding ◌⊕◌
loop-v-preserved c =
    let a = c.args in
    let l = c.loop-v in
    let parts = c.split_at_mut-sums in
    each_more (λ k z. z ≡ get_or a.table.now k 0 ⊕ a.x) l.more l.v _ (omega arith) l.invariant
    (ap (λ (z : ℕ). bit_xor z a.x)
    (ap (λ (z : List ℕ). get_or z l.v 0) parts.ensures.front ∙ get_or-take a.w a.table.now l.v 0 (omega arith)))
