-- The test is that of the room for the two lines: fourteen bytes of names, the digits, the space and the line feed.
use Rattle.text_lines.proofs.Placing.{refusal_length}
use Rattle.text_write.proofs.Room.{told-put, told-kept}
use native.Mathlib.Omega.{arith}
use Rattle.text.specs.Programs.{refusal_text}
use Rattle.text_write.proofs.refusal_lines.Goals as goal

pub returns-then-room : goal.returns-then-room
returns-then-room c =
    let a = c.args in
    let d = c.digits-a in
    let e = c.digits-b in let t = told-put a.out.now a.at (refusal_text a.rule a.place) c.has_room-room.ensures
    c.if-room.true
    (omega (arith, refusal_length a.rule a.place, d.ensures, e.ensures))
    (c.put_refusal.ensures.value, c.put_refusal.ensures.out_after) in record { value = t.0; out_after = t.1 }

pub returns : goal.returns
returns c =
    let a = c.args in
    let d = c.digits-a in
    let e = c.digits-b in let t = told-kept a.out.now a.at (refusal_text a.rule a.place) c.has_room-room.ensures
    c.if-room.false
    (omega (arith, refusal_length a.rule a.place, d.ensures, e.ensures)) in record { value = t.0; out_after = t.1 }
