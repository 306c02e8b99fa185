-- Blocks, groups and counts, one after the other.
use native.Mathlib.Omega.{arith}
use Rattle.program_mend.proofs.Mending.{block_room, groups-room, lines-printed}
use Rattle.program_mend.proofs.put_corrected.Goals as goal

pub put_blocks-i-requires-clause-info_in_bounds : goal.put_blocks-i-requires-clause-info_in_bounds
put_blocks-i-requires-clause-info_in_bounds c =
    block_room _ _ c.args.info.now c.args.red.now c.requires.frame_sized _ c.area.ensures.0 _ c.requires.most_output_in_bounds

pub put_groups-j-requires-clause-red_in_bounds : goal.put_groups-j-requires-clause-red_in_bounds
put_groups-j-requires-clause-red_in_bounds c =
    groups-room _ _ c.args.info.now c.args.red.now c.requires.frame_sized _ _ c.group_count-groups.ensures c.order.ensures.0 _ _ c.area.ensures.0
    c.put_blocks-i.ensures.value _ (omega (arith, c.requires.most_output_in_bounds))

pub returns : goal.returns
returns c = lines-printed _ _ c.args.info.now c.args.red.now c.requires.frame_sized _ _ c.group_count-groups.ensures c.order.ensures.0 _ _ _ _ _ _ _ _ _ c.area.ensures.0 c.requires.most_output_in_bounds c.put_blocks-i.ensures.value c.put_blocks-i.ensures.out_after c.put_groups-j.ensures.value c.put_groups-j.ensures.out_after c.count_lines.ensures.value c.count_lines.ensures.out_after
