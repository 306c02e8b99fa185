use mathlib.Core.Path.{◌≡◌, sym, ◌∙◌}
use Prim.Native.Nat.{ℕ, ◌+◌, ◌-◌, ◌*◌, ◌/◌, ◌%◌, ◌<◌}
use native.Mathlib.Omega.{arith}
use borrow.Rule.Slice.PartMut.{same_len_mid}
use lib.ListN.{get_or}
use Rattle.staircase.proofs.Bounds.{stretch-end}
use Rattle.staircase.proofs.Fill.{each_part}
use Rattle.bch_remainders.proofs.Rows.{row-length}
use Rattle.matrix.proofs.Bits.{bit}
use Rattle.encoder_solution.proofs.Masked.{group-byte}
use Rattle.encoder_solution.proofs.rows.pack_groups.Goals as goal

pub pack_group-requires : goal.pack_group-requires
pack_group-requires c =
    let a = c.args in
    let l = c.loop-g in
    let few = row-length l.packed (l.g * a.p) a.p (omega (arith, stretch-end l.g a.count a.p (omega arith))) in
    (omega (arith, few), omega (arith, few), omega arith)

pub loop-g-preserved : goal.loop-g-preserved
loop-g-preserved c =
    let a = c.args in
    let l = c.loop-g in
    let r = c.pack_group in
    let from : ℕ = l.g * a.p in
    let k : ℕ = from + a.p - from in
    let few = row-length l.packed from a.p (omega (arith, stretch-end l.g a.count a.p (omega arith))) in
    let ek : k ≡ a.p = omega arith in
    let next : (l.g + 1) * a.p ≡ from + k = omega arith in (
      omega arith,
      same_len_mid from k l.packed r.new.out r.ensures.0 ∙ l.invariant.1,
      λ q h. each_part (λ q v. (i : ℕ) → i < 8 → bit v i ≡ bit (get_or a.words.now (8 * (q % a.p) + i) 0) (q / a.p)) l.packed r.new.out from k
          (omega (arith, stretch-end l.g a.count a.p (omega arith), l.invariant.1)) (r.ensures.0 ∙ few ∙ sym ek) l.invariant.2
          (λ s m. group-byte a.words.now a.p l.g s _ (omega arith) (λ i o. r.ensures.1 s i (omega (arith, few)) o)) q (omega (arith, next, h)),
    )

pub returns : goal.returns
returns c =
    let a = c.args in
    let l = c.loop-g in
    let e : l.g ≡ a.count = omega arith in
    (omega arith, λ q i h k. l.invariant.2 q (rw e h) i k)
