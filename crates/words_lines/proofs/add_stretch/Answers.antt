-- The places are those of X or Q by the list, or those of Y or P.
use mathlib.Core.Path.{subst⁻¹}
use mathlib.Core.Bool.{Bool}
use Prim.Native.Nat.{◌+◌, ◌*◌}
use lib.ListN.{length, get_or}
use Rattle.staircase.specs.Rules.{entries}
use Rattle.words_sums.specs.Listed.{listed_bit}
use Rattle.words_blocks.proofs.Sums.{Adds}
use Rattle.words_lines.specs.Words.{red_place}
use Rattle.words_lines.proofs.add_stretch.Goals as goal

pub returns-then-rows : goal.returns-then-rows
unfolding red_place listed_bit
returns-then-rows c =
    let a = c.args in
    let added = c.add_listed in
    let all =
    subst⁻¹
    (λ (z : Bool). Adds a.part.now (λ w v k j. get_or a.bits.now (red_place z (entries (length a.bits.now) a.list.now) (j * w + k)) 0)
    a.sums.now added.new.sums)
    c.if-rows.true (added.ensures.0, added.ensures.1) in
    (all.0, all.1, added.ensures.2)

pub returns : goal.returns
unfolding red_place
returns c =
    let a = c.args in
    let added = c.add_columns in
    let all =
    subst⁻¹
    (λ (z : Bool). Adds a.part.now (λ w v k j. get_or a.bits.now (red_place z (entries (length a.bits.now) a.list.now) (j * w + k)) 0)
    a.sums.now added.new.sums)
    c.if-rows.false (added.ensures.0, added.ensures.1) in
    (all.0, all.1, added.ensures.2)
