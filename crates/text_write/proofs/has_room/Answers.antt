-- Each test that refuses leaves the three parts no room; the last test is that of the contract.
use Prim.Native.Nat.{◌+◌}
use native.Mathlib.Omega.{arith}
use Rattle.text_write.proofs.Room.{no_fit, last_fits}
use Rattle.text_write.proofs.has_room.Goals as goal

pub returns-then-len-at : goal.returns-then-len-at
returns-then-len-at c = let a = c.args in no_fit a.len (a.at + (a.a + (a.b + a.c))) (omega arith)

pub returns-then-behind-a : goal.returns-then-behind-a
returns-then-behind-a c = let a = c.args in no_fit a.len (a.at + (a.a + (a.b + a.c))) (omega arith)

pub returns-then-rest-b : goal.returns-then-rest-b
returns-then-rest-b c = let a = c.args in no_fit a.len (a.at + (a.a + (a.b + a.c))) (omega arith)

pub returns : goal.returns
returns c =
    let a = c.args in
    last_fits a.len a.at a.a a.b a.c c.if-len-at.false c.if-behind-a.false c.if-rest-b.false
