use Rattle.text_frame_fill.proofs.Filling.{bit_there, bit_next, bits-all}
use native.Mathlib.Omega.{arith}
use lib.ListN.{length}
use Rattle.text_frame_fill.proofs.fill_bits.Goals as goal

pub bounds-s-q : goal.bounds-s-q
bounds-s-q c =
    let a = c.args in
    let l = c.loop-b in
    omega (arith, bit_there a.s.now (length a.out.now) l.b-index l.q l.out _ l.invariant (omega arith) c.requires)

pub overflow_sub-b : goal.overflow_sub-b
overflow_sub-b c =
    let a = c.args in
    let l = c.loop-b in
    omega (arith, bit_there a.s.now (length a.out.now) l.b-index l.q l.out _ l.invariant (omega arith) c.requires)

pub overflow_add-q : goal.overflow_add-q
overflow_add-q c =
    let a = c.args in
    let l = c.loop-b in
    omega (arith, bit_there a.s.now (length a.out.now) l.b-index l.q l.out _ l.invariant (omega arith) c.requires)

pub loop-b-preserved : goal.loop-b-preserved
loop-b-preserved c =
    let a = c.args in
    let l = c.loop-b in
    let b = bit_there a.s.now (length a.out.now) l.b-index l.q l.out _ l.invariant (omega arith) c.requires in
    bit_next a.s.now (length a.out.now) l.b-index l.q l.out _ l.invariant (omega arith) l.auto.out b

pub returns : goal.returns
returns c =
    let a = c.args in
    let l = c.loop-b in
    bits-all a.s.now (length a.out.now) l.b-index l.q l.out _ l.invariant (omega arith) l.auto.out
