-- Each number with the byte behind it, one behind another.
use native.Mathlib.Omega.{arith}
use Rattle.text.proofs.KitSpelled.{three-length}
use Rattle.text_kit_write.proofs.Parts.{three_put}
use Rattle.text_kit_write.proofs.lines.put_three.Goals as goal

pub put_field-i-requires : goal.put_field-i-requires
put_field-i-requires c = let n = c.args in omega (arith, three-length n.a n.b n.c, c.requires)

pub put_field-j-requires : goal.put_field-j-requires
put_field-j-requires c =
    omega (arith, three-length c.args.a c.args.b c.args.c, c.requires, c.put_field-i.ensures.value)

pub put_field-requires : goal.put_field-requires
put_field-requires c =
    omega (arith, three-length c.args.a c.args.b c.args.c, c.requires, c.put_field-i.ensures.value, c.put_field-j.ensures.value)

pub returns : goal.returns
returns c =
    let n = c.args in let t = three_put n.out.now n.at n.a n.b n.c (c.put_field-i.ensures.value, c.put_field-i.ensures.out_after) (c.put_field-j.ensures.value, c.put_field-j.ensures.out_after) (c.put_field.ensures.value, c.put_field.ensures.out_after) in record { value = t.0; out_after = t.1 }
