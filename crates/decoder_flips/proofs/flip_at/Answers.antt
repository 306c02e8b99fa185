-- Each arm is given which bit it is.
use native.Mathlib.Omega.{arith}
use Rattle.decoder_flips.proofs.Flips.{info-below, red-below, absent_flips, unsent-flips, info-flips, red-flips}
use Rattle.decoder_flips.proofs.flip_at.Goals as goal

pub flip_bit-requires : goal.flip_bit-requires
flip_bit-requires c =
    let p = c.requires in
    let h = info-below p.0 p.1 c.in-Info.is in
    (h, p.1.info_bits, omega (arith, h, p.1.room))

pub overflow_add-n : goal.overflow_add-n
overflow_add-n c =
    let p = c.requires in
    let h = red-below p.0 p.1 c.in-Red.is in
    omega (arith, h, p.1.short)

pub flip_bit-requires-in-Red : goal.flip_bit-requires-in-Red
flip_bit-requires-in-Red c =
    let p = c.requires in
    let h = red-below p.0 p.1 c.in-Red.is in
    (h, p.1.red_bits, omega (arith, h, p.1.room))

pub returns-in-Absent : goal.returns-in-Absent
returns-in-Absent c = absent_flips c.in-Absent.is

pub returns-in-Unsent : goal.returns-in-Unsent
returns-in-Unsent c = unsent-flips c.in-Unsent.is

pub returns-in-Info : goal.returns-in-Info
returns-in-Info c =
    let p = c.requires in
    info-flips p.0 p.1 c.in-Info.is c.flip_bit.ensures.0 c.flip_bit.ensures.1

pub returns-in-Red : goal.returns-in-Red
returns-in-Red c =
    let p = c.requires in
    red-flips p.0 p.1 c.in-Red.is c.flip_bit-in-Red.ensures.0 c.flip_bit-in-Red.ensures.1
