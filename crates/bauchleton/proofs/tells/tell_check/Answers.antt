-- A verdict's rule and place.
use mathlib.Core.List.{[]}
use Rattle.rules_verdict.proofs.Stores.{judged-told}
use Rattle.bauchleton.proofs.tells.tell_check.Goals as goal

pub returns : goal.returns
returns c = judged-told [] c.args.answer.now _ c.from.ensures c.tell.ensures
