-- `m t M`, the line of the three numbers, `place self parity`.
use native.Mathlib.Omega.{arith}
use Rattle.text_kit_write.proofs.Parts.{head_length, head_put}
use Rattle.text_kit_write.proofs.lines.put_head.Goals as goal

pub put_three-j-requires : goal.put_three-j-requires
put_three-j-requires c =
    omega (arith, head_length c.args.m c.args.t c.args.size, c.requires, c.put_bytes-i.ensures.value)

pub put_bytes-requires : goal.put_bytes-requires
put_bytes-requires c =
    omega (arith, head_length c.args.m c.args.t c.args.size, c.requires, c.put_bytes-i.ensures.value, c.put_three-j.ensures.value)

pub returns : goal.returns
returns c =
    let a = c.args in let t = head_put a.out.now a.at a.m a.t a.size (c.put_bytes-i.ensures.value, c.put_bytes-i.ensures.out_after) (c.put_three-j.ensures.value, c.put_three-j.ensures.out_after) (c.put_bytes.ensures.value, c.put_bytes.ensures.out_after) in record { value = t.0; out_after = t.1 }
