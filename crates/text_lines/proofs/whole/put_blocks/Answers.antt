-- The line of names, then the lines of the blocks.
use native.Mathlib.Omega.{arith}
use Rattle.text_lines.proofs.Lines.{block-text_parts, block-text-put}
use Rattle.text_lines.proofs.whole.put_blocks.Goals as goal

pub put_bytes-i-requires : goal.put_bytes-i-requires
put_bytes-i-requires c = let a = c.args in omega (arith, block-text_parts a.area a.count a.info.now c.requires.info_len)

pub put_block_lines-requires : goal.put_block_lines-requires
put_block_lines-requires c =
    let a = c.args in
    let p = c.requires in record {
      info_len = p.info_len;
      count_bound = p.count_bound;
      info_in_bounds = omega (arith, p.info_in_bounds, block-text_parts a.area a.count a.info.now p.info_len, c.put_bytes-i.ensures.value);
    }

pub returns : goal.returns
returns c =
    let a = c.args in let t = block-text-put a.out.now a.at a.area a.count a.info.now c.requires.info_len (c.put_bytes-i.ensures.value, c.put_bytes-i.ensures.out_after)
    (c.put_block_lines.ensures.value, c.put_block_lines.ensures.out_after) in record { value = t.0; out_after = t.1 }
