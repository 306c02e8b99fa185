-- The groups have room, and so has a refusal.
use Rattle.program.proofs.Printing.{printed-text, refused-prints}
use Rattle.program_frame.proofs.Framing.{groups-room, passed-groups}
use Rattle.program_frame.proofs.put_encoded.Goals as goal

pub put_groups-requires-clause-red_in_bounds : goal.put_groups-requires-clause-red_in_bounds
put_groups-requires-clause-red_in_bounds c =
    groups-room _ _ c.args.red.now c.requires.groups_fit _ _ c.group_count-groups.ensures c.order.ensures.0 _ c.requires.most_output_in_bounds

pub returns-in-Err : goal.returns-in-Err
returns-in-Err c = refused-prints _ _ c.in-Err.is _ _ _ _ (c.put_refused.ensures _)

pub returns-in-Ok : goal.returns-in-Ok
returns-in-Ok c =
    let F = c.requires.groups_fit in
    let r = c.args.red.now in
    let g = c.group_count-groups.ensures in
    let e = c.order.ensures.0 in
    printed-text _ _ _ _ _ (passed-groups _ _ r F _ _ g e _ c.in-Ok.is) (groups-room _ _ r F _ _ g e _ c.requires.most_output_in_bounds)
    c.put_groups.ensures.value c.put_groups.ensures.out_after
