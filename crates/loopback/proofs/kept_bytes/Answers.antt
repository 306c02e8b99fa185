-- The design is allowed, so that it is made.
use mathlib.Core.Path.{ap, ◌∙◌}
use Rattle.staircase.specs.Design.{Params}
use Rattle.staircase.specs.Rules.{kept_work}
use Rattle.design.proofs.Answers.{made-params, made-allowed}
use Rattle.loopback.proofs.TwoCalls.{accepted_ok}
use Rattle.loopback.proofs.kept_bytes.Goals as goal

pub unwrap-d-requires : goal.unwrap-d-requires
unwrap-d-requires c = accepted_ok c.new_col.result (c.new_col.ensures.0 ∙ c.requires.0)

pub kept_work-requires : goal.kept_work-requires
kept_work-requires c = (made-allowed c.unwrap-d.ensures c.new_col.ensures.2, c.requires.1)

pub returns : goal.returns
returns c =
    let a = c.args in (
      c.kept_work.ensures.0
          ∙ ap (λ (s : Params). kept_work s a.blocks) (made-params c.unwrap-d.ensures a.m a.t a.size a.col c.new_col.ensures.1),
      c.kept_work.ensures.1,
    )
