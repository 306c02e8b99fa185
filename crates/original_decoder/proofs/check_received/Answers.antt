-- The rules are those of a buffer of blocks, with the decoder's working bytes.
use mathlib.Core.Path.{ap, ◌∙◌}
use lib.ListN.{length}
use Rattle.staircase.specs.Rules.{Verdict, ◌then◌, bit_rule}
use Rattle.design.specs.Sizes.{params_of}
use Rattle.rules.specs.Bytes.{buffer_verdict}
use Rattle.original_decoder.specs.Answers.{decode_rules}
use Rattle.original_decoder.proofs.DecodeCall.{decode-sizes}
use Rattle.original_decoder.proofs.check_received.Goals as goal

pub returns : goal.returns
unfolding buffer_verdict decode_rules
returns c =
    let a = c.args in
    c.check_buffer.ensures
    ∙ ap (λ (v : Verdict). v then bit_rule 0 a.buffer.now)
    (decode-sizes (params_of a.d) a.blocks a.rounds (length a.buffer.now) a.work c.original_decoder_due-due.ensures)
