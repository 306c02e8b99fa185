-- The test is that of the room for the text.
use Rattle.text_write.proofs.Room.{told-put, told-kept}
use native.Mathlib.Omega.{arith}
use Rattle.text_write.proofs.put_text.Goals as goal

pub returns-then-room : goal.returns-then-room
returns-then-room c =
    let a = c.args in let t = told-put a.out.now a.at a.text.now c.has_room-room.ensures
    c.if-room.true (omega arith) (c.put_bytes.ensures.value, c.put_bytes.ensures.out_after) in record { value = t.0; out_after = t.1 }

pub returns : goal.returns
returns c =
    let a = c.args in let t = told-kept a.out.now a.at a.text.now c.has_room-room.ensures c.if-room.false (omega arith) in record { value = t.0; out_after = t.1 }
