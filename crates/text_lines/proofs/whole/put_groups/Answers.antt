-- The line of names, then the lines of the groups.
use native.Mathlib.Omega.{arith}
use Rattle.text_lines.proofs.Lines.{group-text_parts, group-text-put}
use Rattle.text_lines.proofs.whole.put_groups.Goals as goal

pub put_bytes-i-requires : goal.put_bytes-i-requires
put_bytes-i-requires c = let a = c.args in omega (arith, group-text_parts a.n a.count a.red.now c.requires.red_len)

pub put_group_lines-requires : goal.put_group_lines-requires
put_group_lines-requires c =
    let a = c.args in
    let p = c.requires in record {
      red_len = p.red_len;
      count_bound = p.count_bound;
      red_in_bounds = omega (arith, p.red_in_bounds, group-text_parts a.n a.count a.red.now p.red_len, c.put_bytes-i.ensures.value);
    }

pub returns : goal.returns
returns c =
    let a = c.args in let t = group-text-put a.out.now a.at a.n a.count a.red.now c.requires.red_len (c.put_bytes-i.ensures.value, c.put_bytes-i.ensures.out_after)
    (c.put_group_lines.ensures.value, c.put_group_lines.ensures.out_after) in record { value = t.0; out_after = t.1 }
