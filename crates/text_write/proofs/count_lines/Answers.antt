-- The test is that of the room for the two lines: 22 bytes of names, the digits, two spaces and the line feed.
use Rattle.text_lines.proofs.Placing.{counts-length}
use Rattle.text_write.proofs.Room.{told-put, told-kept}
use native.Mathlib.Omega.{arith}
use Rattle.text_lines.proofs.Decimal.{dec-short}
use Rattle.text.specs.Programs.{counts_text}
use Rattle.text_write.proofs.count_lines.Goals as goal

pub overflow_add-a : goal.overflow_add-a
overflow_add-a c = omega (arith, dec-short c.args.rounds, c.digits-a.ensures)

pub returns-then-room : goal.returns-then-room
returns-then-room c =
    let a = c.args in
    let d = c.digits-a in
    let e = c.digits-b in
    let f = c.digits-c in let t = told-put a.out.now a.at (counts_text a.rounds a.turned a.outside) c.has_room-room.ensures
    c.if-room.true
    (omega (arith, counts-length a.rounds a.turned a.outside, d.ensures, e.ensures, f.ensures))
    (c.put_counts.ensures.value, c.put_counts.ensures.out_after) in record { value = t.0; out_after = t.1 }

pub returns : goal.returns
returns c =
    let a = c.args in
    let d = c.digits-a in
    let e = c.digits-b in
    let f = c.digits-c in let t = told-kept a.out.now a.at (counts_text a.rounds a.turned a.outside) c.has_room-room.ensures
    c.if-room.false
    (omega (arith, counts-length a.rounds a.turned a.outside, d.ensures, e.ensures, f.ensures)) in record { value = t.0; out_after = t.1 }
