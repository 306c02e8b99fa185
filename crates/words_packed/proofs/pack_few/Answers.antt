use mathlib.Core.Path.{◌≡◌, sym, ap, ◌∙◌}
use mathlib.Core.List.{List}
use Prim.Native.Nat.{ℕ, ◌+◌, ◌-◌, ◌*◌}
use native.Mathlib.Omega.{arith}
use lib.ListN.{length, get_or, take, drop}
use lib.Pow.{pow_mono, pow_pos}
use Rattle.bch.proofs.Store.{zeros-at}
use Rattle.bch_remainders.proofs.Rows.{row_end, row-length, row_at, row-bits}
use Rattle.words_packed.proofs.Packed.{packs-none, packs-more, doubled_below}
use Rattle.words_packed.proofs.pack_few.Goals as goal

pub loop-i-init : goal.loop-i-init
loop-i-init c =
    let e = c.fill in
    let w = length c.args.packed.now in
    let zero-at : (k : ℕ) → get_or e.new.self k 0 ≡ 0 = λ k. ap (λ (z : List ℕ). get_or z k 0) (e.ensures.after (λ y h. h)) ∙ zeros-at w k in (
      omega arith,
      λ h. absurd (omega arith),
      λ k. rw (zero-at k) (pow_pos (8 - c.args.count)),
      λ k h. packs-none c.args.rows.now w k c.args.count _ c.requires.0 (zero-at k),
    )

pub double_in-reads-requires : goal.double_in-reads-requires
double_in-reads-requires c =
    let l = c.loop-i in
    let r = c.args.rows.now in
    let w = length c.args.packed.now in
    let from = (l.i - 1) * w in
    let end = row_end (l.i - 1) c.args.count w (omega arith) in (
      row-length r from w (omega arith) ∙ sym l.invariant.0,
      row-bits r from (from + w - from) c.requires.3,
      λ k. omega (arith, l.invariant.2 k, pow_mono {i = 8 - l.i} {j = 7} (omega arith)),
    )

pub loop-i-preserved : goal.loop-i-preserved
loop-i-preserved c =
    let l = c.loop-i in
    let d = c.double_in-reads in
    let r = c.args.rows.now in
    let w = length c.args.packed.now in
    let i = l.i - 1 in
    let row = take (i * w + w - i * w) (drop (i * w) r) in (
      d.ensures.0 ∙ l.invariant.0,
      λ h. d.ensures.2 ∙ l.invariant.0,
      doubled_below d.new.packed l.packed row (8 - l.i) (8 - i) d.ensures.0 (row-bits r (i * w) (i * w + w - i * w) c.requires.3) d.ensures.1
          (omega arith) l.invariant.2,
      λ k h. packs-more r w k i l.i (get_or l.packed k 0) (get_or row k 0) _ c.requires.3 (row_at r (i * w) w k h) (omega arith)
          (d.ensures.1 k (omega arith)) (l.invariant.3 k h),
    )
