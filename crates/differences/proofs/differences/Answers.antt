use mathlib.Core.Path.{◌≡◌}
use Prim.Native.Nat.{◌+◌, ◌<◌}
use native.Mathlib.Omega.{arith}
use lib.ListN.{length, drop, length-append}
use Rattle.std.proofs.lemmas.Slice.Zip.{zip_turn, zip_end}
use Rattle.bch.specs.Code.{unlike, distance}
use Rattle.bch.proofs.Distance.{unlike-same, unlike_other}
use Rattle.differences.proofs.Rest.{rest_next, rest-none}
use Rattle.differences.proofs.differences.Goals as goal
use Rattle.differences.proofs.differences.Goals.{In-Some}

-- the pair is that at the place that the loop has come to
turn : (c : In-Some) → let a = c.args.a.now in let b = c.args.b.now in let k = length c.loop-x.yielded in
    (k < length a) × (distance (drop k a) (drop k b) ≡ unlike c.in-Some.x.now c.in-Some.y.now + distance (drop (k + 1) a) (drop (k + 1) b))
turn c =
    let l = c.loop-x in
    let a = c.args.a.now in
    let b = c.args.b.now in
    let k = length l.yielded in
    let t = zip_turn a b l.yielded c.into_iter-x-iterator.result l.x-iterator c.next.new.self _ (cc) (cc) l.yielded_by (c.in-Some.x, c.in-Some.y) c.in-Some.is c.next.ensures.steps in
    (t.0, rw (t.2 0, t.3 0) (rest_next a b k t.0 t.1))

pub loop-x-preserved-then-x-y : goal.loop-x-preserved-then-x-y
loop-x-preserved-then-x-y c =
    let t = turn (goal.at.loop-x-preserved-then-x-y c).In-Some in
    simp length-append (omega arith, omega arith, omega (arith, t.1, unlike_other c.if-x-y.true))

pub loop-x-preserved : goal.loop-x-preserved
loop-x-preserved c =
    let t = turn (goal.at.loop-x-preserved c).In-Some in
    simp length-append (omega arith, omega arith, omega (arith, t.1, unlike-same c.if-x-y.false))

pub returns : goal.returns
returns c =
    let l = c.loop-x in
    let a = c.args.a.now in
    let b = c.args.b.now in
    let e = zip_end a b l.yielded c.into_iter-x-iterator.result l.x-iterator c.next.new.self c.next.result (cc) (cc) l.yielded_by c.in-None.is c.next.ensures.steps in
    omega (arith, l.invariant.2, rest-none a b (length l.yielded) e)
