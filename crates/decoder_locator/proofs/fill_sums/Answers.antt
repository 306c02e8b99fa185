use mathlib.Core.Path.{◌≡◌, sym, ap, ◌∙◌, subst, subst⁻¹}
use mathlib.Core.List.{List, ◌++◌}
use Prim.Native.Nat.{ℕ, ◌+◌, ◌*◌, ◌/◌, ◌%◌, ◌≤◌}
use native.Mathlib.Omega.{arith}
use lib.ListN.{length, take, drop, length-append, length-drop}
use lib.Seq.{length-take-le, take-append_seam, drop-append_seam}
use Rattle.bch.specs.Locator.{SyndromeTable, syndromes}
use Rattle.decoder_locator.specs.Located.{SumTable}
use Rattle.decoder_locator.proofs.Fours.{Filled, four_fits, filled_more, filled-all}
use Rattle.decoder_locator.proofs.fill_sums.Goals as goal

-- as many entries as are filled
part : (r : ℕ) (back : List ℕ) → r ≤ 30 → length back ≡ 128 → length (take (16 * ((r + 3) / 4)) back) ≡ 16 * ((r + 3) / 4)
part r back h b = length-take-le (16 * ((r + 3) / 4)) back (omega arith)

pub values_by_bits-requires : goal.values_by_bits-requires
values_by_bits-requires c =
    let s = c.requires in
    let e = c.split_at_mut-entries.ensures in
    let long = part c.args.r c.split_at_mut-entries.result.1.now s.2 (omega arith) in
    let p = c.loop-p.p in (
      s.0,
      s.1,
      omega (arith, long),
      omega (arith, long, e.front_len),
      (four_fits (p % 16) (4 * (p / 16)) (omega arith) (omega (arith, long))).1,
      subst⁻¹ (SyndromeTable c.args.m) e.front s.5,
    )

pub loop-p-preserved : goal.loop-p-preserved
loop-p-preserved c =
    let a = c.args in
    let l = c.loop-p in
    let long = part a.r c.split_at_mut-entries.result.1.now c.requires.2 (omega arith) in
    filled_more a.m l.p _ l.sum-items (omega arith) l.invariant
    (c.values_by_bits.ensures ∙ ap (syndromes a.m) (four_fits (l.p % 16) (4 * (l.p / 16)) (omega arith) (omega (arith, long))).0)

pub returns : goal.returns
returns c =
    let a = c.args in
    let s = c.requires in
    let l = c.loop-p in
    let e = c.split_at_mut-entries.ensures in
    let count = 16 * ((a.r + 3) / 4) in
    let long = part c.args.r c.split_at_mut-entries.result.1.now s.2 (omega arith) in
    let front = c.split_at_mut-entries.result.0.now in
    let back = c.split_at_mut-entries.result.1.now in
    let rest = l.sum-items ++ drop count back in
    let filled : Filled a.m (length l.sum-items) l.sum-items = subst (λ (z : ℕ). Filled a.m z l.sum-items) (omega (arith, long)) l.invariant in (
      subst⁻¹ (SyndromeTable a.m) (ap (λ (z : ℕ). take z (front ++ rest)) (sym e.front_len) ∙ take-append_seam front rest ∙ e.front) s.5,
      subst⁻¹ (SumTable a.m a.r) (ap (λ (z : ℕ). drop z (front ++ rest)) (sym e.front_len) ∙ drop-append_seam front rest)
          (filled-all a.m a.r l.sum-items (drop count back) (omega (arith, long)) (omega (arith, long)) filled),
      simp (length-append, length-drop) (omega (arith, long, e.front_len, e.back_len)),
    )
