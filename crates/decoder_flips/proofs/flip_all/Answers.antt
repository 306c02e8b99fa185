-- A flip leaves bits and lengths for the next.
use Rattle.decoder_flips.proofs.Flips.{flip_ready, listed-flips}
use Rattle.decoder_flips.proofs.flip_all.Goals as goal

pub flip_at-requires-2 : goal.flip_at-requires-2
flip_at-requires-2 c =
    let p = c.requires in
    let z = c.flip_at.ensures in
    flip_ready _ _ p.1 p.0.1 z.0 z.1

pub flip_at-requires-3 : goal.flip_at-requires-3
flip_at-requires-3 c =
    let p = c.requires in
    let a = c.args in
    let z = c.flip_at.ensures in
    let y = c.flip_at-2.ensures in
    let g = flip_ready a.s.x _ {marks' = c.flip_at.new.marks} p.1 p.0.0 z.0 z.1 in
    flip_ready _ _ g.1 g.0 y.0 y.1

pub returns : goal.returns
returns c =
    let a = c.args in
    let z = c.flip_at.ensures in
    let y = c.flip_at-2.ensures in
    let x = c.flip_at-3.ensures in
    listed-flips a.s z y x
