-- The test is that of the room for the line: digits, space, bits and line feed.
use Rattle.text_lines.proofs.Placing.{bits-length}
use Rattle.text_write.proofs.Room.{told-put, told-kept}
use native.Mathlib.Omega.{arith}
use Rattle.text_lines.proofs.Decimal.{dec-short}
use Rattle.text.specs.FrameText.{bits_text}
use Rattle.text_write.proofs.block_line.Goals as goal

pub overflow_add-n : goal.overflow_add-n
overflow_add-n c = omega (arith, dec-short c.args.number, c.digits-n.ensures)

pub returns-then-room : goal.returns-then-room
returns-then-room c =
    let a = c.args in
    let d = c.digits-n in let t = told-put a.out.now a.at (bits_text a.number a.bits.now) c.has_room-room.ensures
    c.if-room.true
    (omega (arith, bits-length a.number a.bits.now, d.ensures))
    (c.put_block.ensures.value, c.put_block.ensures.out_after) in record { value = t.0; out_after = t.1 }

pub returns : goal.returns
returns c =
    let a = c.args in
    let d = c.digits-n in let t = told-kept a.out.now a.at (bits_text a.number a.bits.now) c.has_room-room.ensures
    c.if-room.false
    (omega (arith, bits-length a.number a.bits.now, d.ensures)) in record { value = t.0; out_after = t.1 }
