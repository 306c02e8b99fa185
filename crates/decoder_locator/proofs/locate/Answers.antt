-- One position is looked for, then two, then three: each answer is what is located, and so is none where all have failed.
use native.Mathlib.Omega.{arith}
use Rattle.decoder_locator.specs.Steps.{SingleIs, PairIs, TripleIs}
use Rattle.decoder_locator.proofs.Answers.{answer_zero, answer_one, answer_two, answer_three, answer_none}
use Rattle.decoder_locator.proofs.locate.Goals as goal

pub returns-then-remainder-eq0 : goal.returns-then-remainder-eq0
returns-then-remainder-eq0 c =
    answer_zero c.requires.0.words c.args.remainder c.if-remainder-eq0.true

pub returns-in-Some : goal.returns-in-Some
returns-in-Some c = answer_one c.requires.0.words c.args.remainder _ c.in-Some.ensures

pub returns-then-t-lt2 : goal.returns-then-t-lt2
unfolding SingleIs
returns-then-t-lt2 c =
    answer_none c.requires.0.words c.args.remainder c.if-remainder-eq0.false c.in_default.ensures (λ h. absurd (omega arith)) (λ h. absurd (omega arith))

pub returns-in-Some-two : goal.returns-in-Some-two
returns-in-Some-two c =
    answer_two c.requires.0.words (omega arith) c.args.remainder _ _ c.in-Some-two.ensures

pub returns-then-t-lt3 : goal.returns-then-t-lt3
unfolding SingleIs PairIs
returns-then-t-lt3 c =
    answer_none c.requires.0.words c.args.remainder c.if-remainder-eq0.false c.in_default.ensures (λ h. c.in_default-two.ensures) (λ h. absurd (omega arith))

pub three-requires : goal.three-requires
unfolding SingleIs
three-requires c =
    (omega (arith, c.requires.0.words.t-high), c.values_of-s.ensures, c.in_default.ensures, c.requires.1)

pub returns-in-None : goal.returns-in-None
unfolding SingleIs PairIs TripleIs
returns-in-None c =
    answer_none c.requires.0.words c.args.remainder c.if-remainder-eq0.false c.in_default.ensures (λ h. c.in_default-two.ensures) (λ h. c.in-None.ensures)

pub returns-in-Some-three : goal.returns-in-Some-three
returns-in-Some-three c =
    answer_three c.requires.0.words (omega arith) c.args.remainder _ _ _ c.in-Some-three.ensures
