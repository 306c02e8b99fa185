-- The rules are those of a buffer of blocks.
use mathlib.Core.Path.{ap, ◌∙◌}
use lib.ListN.{length}
use Rattle.staircase.specs.Rules.{Verdict, ◌then◌, bit_rule}
use Rattle.design.specs.Sizes.{params_of}
use Rattle.rules.specs.Bytes.{buffer_verdict}
use Rattle.original_rows.specs.Rows.{received_rules}
use Rattle.original_rows.proofs.Checked.{buffer-sizes}
use Rattle.original_rows.proofs.check_received.Goals as goal

pub returns : goal.returns
unfolding buffer_verdict received_rules
returns c =
    let a = c.args in
    c.check_buffer.ensures
    ∙ ap (λ (v : Verdict). v then bit_rule 0 a.buffer.now) (buffer-sizes (params_of a.d) a.blocks 0 (length a.buffer.now) c.original_due.ensures)
