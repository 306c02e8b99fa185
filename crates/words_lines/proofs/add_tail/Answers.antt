-- A case for each kind.
use Rattle.design.specs.Sizes.{params_of, lists_of}
use Rattle.words_lines.proofs.Tail.{group_lent, group-is, no_tail}
use Rattle.words_lines.proofs.add_tail.Goals as goal

pub add_group-requires : goal.add_group-requires
add_group-requires c =
    group_lent c.requires c.in-FeedForward.is

pub returns-in-FeedForward : goal.returns-in-FeedForward
returns-in-FeedForward c =
    let a = c.args in
    let d = a.line.frames.d in
    let made = c.add_group in
    group-is (params_of d) (lists_of d a.own.now a.parity.now) a.red.now a.positions.now a.line.k c.in-FeedForward.is a.sums.now
    made.new.sums made.ensures

pub returns-in-Original : goal.returns-in-Original
returns-in-Original c =
    let a = c.args in
    let d = a.line.frames.d in
    no_tail (params_of d) (lists_of d a.own.now a.parity.now) a.red.now a.positions.now a.line.k c.in-Original.is a.sums.now
