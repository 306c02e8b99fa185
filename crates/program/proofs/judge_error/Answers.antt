-- A broken text has the rule of its format; a refusal has its own.
use Rattle.rules_verdict.specs.Number.{number, place_of}
use Rattle.program.proofs.judge_error.Goals as goal

pub returns-in-Broken : goal.returns-in-Broken
unfolding number place_of
returns-in-Broken c = rw c.in-Broken.is
