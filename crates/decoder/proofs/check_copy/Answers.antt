-- The rules are those of a received frame, with the decoder's working length.
use native.Mathlib.Omega.{arith}
use lib.ListN.{length}
use Rattle.staircase.specs.Rules.{word_work, decoder_work}
use Rattle.design.specs.Sizes.{params_of}
use Rattle.rules.specs.Lengths.{decoder_due}
use Rattle.words.proofs.WordsCall.{lists_asked, received_due}
use Rattle.decoder.specs.Answers.{copy_rules}
use Rattle.decoder.proofs.check_copy.Goals as goal

pub check_received-requires : goal.check_received-requires
unfolding decoder_due decoder_work word_work
check_received-requires c = let a = c.args in (c.requires, λ h. lists_asked a.d (decoder_work (params_of a.d) a.blocks) (c.decoder_due.ensures h) (omega arith))

pub returns : goal.returns
unfolding copy_rules
returns c =
    let a = c.args in
    received_due (params_of a.d) a.blocks a.rounds a.own.now a.parity.now a.info.now a.red.now (length a.work.now)
    (decoder_due (params_of a.d) a.blocks) c.decoder_due.ensures c.check_received.ensures
