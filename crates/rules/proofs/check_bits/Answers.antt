-- Where no byte is above 1 the rule accepts; else the search says where it refuses.
use mathlib.Core.Path.{sym}
use native.Mathlib.Nat.{le_trans}
use lib.Dec.{ltb}
use lib.ListN.{length, get_or}
use borrow.Author.Tests.{le-ltb}
use Rattle.staircase.specs.Rules.{bit_rule}
use Rattle.staircase.proofs.Rules.{refuse_first-accepted}
use Rattle.answers.specs.Answers.{verdict_of}
use Rattle.rules.proofs.check_bits.Goals as goal

pub returns-then-most-le1 : goal.returns-then-most-le1
unfolding bit_rule verdict_of
returns-then-most-le1 c =
    let a = c.args in
    sym (refuse_first-accepted 10 a.base (length a.bytes.now) (λ k. ltb 1 (get_or a.bytes.now k 0)) (λ k h. le-ltb 1 (get_or a.bytes.now k 0) (le_trans (c.greatest-most.ensures k h) c.if-most-le1.true)))
