use mathlib.Core.Path.{ap, ap₂, ◌∙◌}
use Prim.Native.Nat.{ℕ, ◌*◌}
use native.Mathlib.Omega.{arith}
use lib.ListN.{length, length-append}
use Rattle.std.proofs.lemmas.Slice.Zip.{zip_turn, zip_end}
use Rattle.staircase.specs.Lists.{sum_bits}
use Rattle.matrix.specs.Packed.{packed_bit}
use Rattle.matrix.proofs.Packed.{packed_bit-at}
use Rattle.matrix.proofs.Product.{mask_none, mask_byte}
use Rattle.encoder_solution.proofs.rows.shared_odd.Goals as goal

pub loop-x-init : goal.loop-x-init
loop-x-init c = mask_none _

pub loop-x-preserved : goal.loop-x-preserved
loop-x-preserved c =
    let l = c.loop-x in
    let a = c.args.a.now in
    let b = c.args.b.now in
    let i = length l.yielded in
    let t = zip_turn a b l.yielded c.into_iter-x-iterator.result l.x-iterator c.next.new.self _ (cc) (cc) l.yielded_by (c.in-Some.x, c.in-Some.y) c.in-Some.is c.next.ensures.steps in
    let more = mask_byte _ _ _ _ _ (λ r h. ap₂ ◌*◌ (packed_bit-at a i r h) (packed_bit-at b i r h)) l.invariant (c.type_inv.a i).fits in
    rw (length-append, t.2 0, t.3 0) more

pub returns : goal.returns
returns c =
    let l = c.loop-x in
    let a = c.args.a.now in
    let b = c.args.b.now in
    let e = zip_end a b l.yielded c.into_iter-x-iterator.result l.x-iterator c.next.new.self c.next.result (cc) (cc) l.yielded_by c.in-None.is c.next.ensures.steps in
    l.invariant ∙ ap (λ (n : ℕ). sum_bits (8 * n) (λ k. packed_bit a k * packed_bit b k)) (omega (arith, e))
