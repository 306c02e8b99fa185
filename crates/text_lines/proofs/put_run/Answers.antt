-- The characters, and the byte behind them.
use lib.ListN.{length}
use Rattle.text_lines.proofs.Placing.{put_snoc}
use Rattle.text_lines.specs.Written.{chars}
use Rattle.text_lines.proofs.Chars.{length-chars}
use Rattle.text_lines.proofs.put_run.Goals as goal

pub returns : goal.returns
returns c =
    let a = c.args in let t = put_snoc a.out.now (chars a.bits.now) a.end a.at (length a.bits.now) (length-chars a.bits.now)
    (c.put_bits-i.ensures.value, c.put_bits-i.ensures.out_after) (c.put_byte.ensures.value, c.put_byte.ensures.out_after) in record { value = t.0; out_after = t.1 }
