-- A block's number is judged against L, a group's against G.
use mathlib.Core.Path.{sym, ap, ◌∙◌}
use Prim.Native.Nat.{ℕ}
use Rattle.staircase.specs.Rules.{refuse, out_of_range, part_rule}
use Rattle.show.specs.declared.Part.{Part}
use Rattle.show.specs.Answers.{part_of}
use Rattle.show.proofs.check_part.Goals as goal

pub returns-in-Block : goal.returns-in-Block
unfolding part_of
returns-in-Block c =
    let a = c.args in
    c.check_number.ensures ∙ sym (ap (λ (p : Part). part_rule a.blocks (part_of p)) c.in-Block.is)

pub returns-in-Group : goal.returns-in-Group
unfolding part_of
returns-in-Group c =
    let a = c.args in
    let i = c.in-Group.i in
    c.check_number-in-Group.ensures
    ∙ ap (λ (g : ℕ). refuse (out_of_range 1 g i) 4 i) c.group_count-groups.ensures
    ∙ sym (ap (λ (p : Part). part_rule a.blocks (part_of p)) c.in-Group.is)
