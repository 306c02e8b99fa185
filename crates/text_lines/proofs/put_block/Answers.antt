-- The number with the space behind it, the bits with the line feed behind them.
use Rattle.text_lines.proofs.Placing.{block-put}
use Rattle.text_lines.proofs.put_block.Goals as goal

pub returns : goal.returns
returns c =
    let a = c.args in let t = block-put a.out.now a.at a.number a.bits.now (c.put_field-i.ensures.value, c.put_field-i.ensures.out_after)
    (c.put_run.ensures.value, c.put_run.ensures.out_after) in record { value = t.0; out_after = t.1 }
