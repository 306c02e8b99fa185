-- The line of names, the number with the space behind it, the place with the line feed behind it.
use Rattle.text_lines.proofs.Placing.{refusal_put}
use Rattle.text_lines.proofs.put_refusal.Goals as goal

pub returns : goal.returns
returns c =
    let a = c.args in let t = refusal_put a.out.now a.at a.rule a.place
    (c.put_bytes-i.ensures.value, c.put_bytes-i.ensures.out_after)
    (c.put_field-j.ensures.value, c.put_field-j.ensures.out_after) (c.put_field.ensures.value, c.put_field.ensures.out_after) in record { value = t.0; out_after = t.1 }
