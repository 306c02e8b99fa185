-- Where the sum of the cubes is the cube of the sum there are no two; else the table has the solution, if there is one.
use native.Mathlib.Omega.{arith}
use Rattle.bch.specs.Polynomial.{◌⊕◌}
use Rattle.bch.proofs.Sum.{⊕-below}
use Rattle.decoder_locator.proofs.Fields.{field_is}
use Rattle.decoder_locator.proofs.Roots.{root_none, root_is}
use Rattle.decoder_locator.proofs.Tables.root.Goals as goal

pub returns-then-d-eq0 : goal.returns-then-d-eq0
unfolding ◌⊕◌
returns-then-d-eq0 c =
    let wrap = c.wrap in
    let wrap2 = c.wrap-c in
    let F = field_is c.args.self.now.filled in
    (omega (arith, c.requires.0), root_none F c.count-n.ensures.0 c.args.a wrap.ensures.1 wrap2.ensures.1 c.power_at.ensures.0 c.if-d-eq0.true)

pub log_of-requires : goal.log_of-requires
unfolding ◌⊕◌
log_of-requires c =
    let F = field_is c.args.self.now.filled in
    ⊕-below c.args.self.now.m c.args.cubes c.power_at.result c.requires.1 c.power_at.ensures.1

pub returns : goal.returns
unfolding ◌⊕◌
returns c =
    let wrap = c.wrap in
    let wrap2 = c.wrap-c in
    let power_at = c.power_at in
    let if1 = c.if-d-eq0 in
    let log-of = c.log_of in
    let F = field_is c.args.self.now.filled in
    root_is F c.count-n.ensures.0 c.args.a wrap.ensures.1 wrap2.ensures.1 power_at.ensures.0 wrap2.ensures.0 if1.false
    log-of.ensures c.wrap-v.ensures.1 c.solution_at.ensures
