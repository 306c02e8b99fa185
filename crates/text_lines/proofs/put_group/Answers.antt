-- The number and Y with a space behind each, P with the line feed behind it.
use Rattle.text_lines.proofs.Placing.{group-put}
use Rattle.text_lines.proofs.put_group.Goals as goal

pub returns : goal.returns
returns c =
    let a = c.args in let t = group-put a.out.now a.at a.number a.own.now a.parity.now
    (c.put_field-i.ensures.value, c.put_field-i.ensures.out_after)
    (c.put_run-j.ensures.value, c.put_run-j.ensures.out_after) (c.put_run.ensures.value, c.put_run.ensures.out_after) in record { value = t.0; out_after = t.1 }
