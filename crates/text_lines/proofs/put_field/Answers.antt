-- The digits, and the byte behind them.
use mathlib.Core.Path.{refl}
use lib.ListN.{length}
use Rattle.text_lines.proofs.Placing.{put_snoc}
use Rattle.text_formats.specs.Format.{dec}
use Rattle.text_lines.proofs.put_field.Goals as goal

pub returns : goal.returns
returns c =
    let a = c.args in let t = put_snoc a.out.now (dec a.v) a.end a.at (length (dec a.v)) refl
    (c.put_digits-i.ensures.value, c.put_digits-i.ensures.out_after) (c.put_byte.ensures.value, c.put_byte.ensures.out_after) in record { value = t.0; out_after = t.1 }
