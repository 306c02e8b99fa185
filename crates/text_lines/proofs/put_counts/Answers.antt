-- The line of names, two numbers with a space behind each, the third with the line feed behind it.
use Rattle.text_lines.proofs.Placing.{counts-put}
use Rattle.text_lines.proofs.put_counts.Goals as goal

pub returns : goal.returns
returns c =
    let a = c.args in let t = counts-put a.out.now a.at a.rounds a.turned a.outside
    (c.put_bytes-i.ensures.value, c.put_bytes-i.ensures.out_after)
    (c.put_field-j.ensures.value, c.put_field-j.ensures.out_after)
    (c.put_field-k.ensures.value, c.put_field-k.ensures.out_after) (c.put_field.ensures.value, c.put_field.ensures.out_after) in record { value = t.0; out_after = t.1 }
