-- The sizes are those of the design and the frame, and fit.
use mathlib.Core.Path.{◌≡◌, ap, ap₂}
use Prim.Native.Nat.{ℕ, ◌+◌, ◌*◌, ◌/◌, ◌≤◌}
use native.Mathlib.Omega.{arith}
use Rattle.staircase.specs.Design.{most-blocks}
use Rattle.staircase.specs.Frame.{groups}
use Rattle.staircase.specs.Rules.{info_length, red_length, kept_work}
use Rattle.design.specs.declared.Design.{Design}
use Rattle.design.specs.Answers.{Allowed}
use Rattle.design.specs.Sizes.{params_of}
use Rattle.rules.specs.declared.lengths.Lengths.{Lengths}
use Rattle.rules.specs.Lengths.{frame_due}
use Rattle.rules.proofs.Accepted.{kept_small}
use Rattle.rules.proofs.lengths.kept_work.Goals as goal

-- by the number of groups, the size of a block and the lengths of the frame's buffers
kept-is : (d : Design) (L g m : ℕ) (x due : Lengths) → Allowed d → L ≤ most-blocks → g ≡ groups L → m ≡ d.size → x ≡ frame_due (params_of d) L due
    → (8 * (g * m) ≤ 16384000) × (8 * (g * m) + (x.info + x.red + 7) / 8 ≡ kept_work (params_of d) L) × (8 * (g * m) + (x.info + x.red) ≤ 1100000000)
unfolding frame_due kept_work
kept-is d L g m x due A h eg em e =
    let p : 8 * (g * m) ≡ 8 * (groups L * d.size) = rw (eg, em) in
    let i : x.info ≡ info_length (params_of d) L = ap (λ (y : Lengths). y.info) e in
    let r : x.red ≡ red_length (params_of d) L = ap (λ (y : Lengths). y.red) e in
    let small = kept_small d L A h in
    let sum = ap₂ ◌+◌ p (ap₂ ◌+◌ i r) in
    (omega (arith, p, small.0), ap₂ (λ (y z : ℕ). y + (z + 7) / 8) p (ap₂ ◌+◌ i r), omega (arith, sum, small.1))

pub overflow_mul-result : goal.overflow_mul-result
overflow_mul-result c =
    let a = c.args in
    let p = c.requires in
    omega (arith, (kept-is a.d a.blocks _ _ _ _ p.0 p.1 c.group_count-count.ensures c.size.ensures (c.frame_due-bits.ensures p.1)).0)

pub overflow_mul-result-2 : goal.overflow_mul-result-2
overflow_mul-result-2 c =
    let a = c.args in
    let p = c.requires in
    omega (arith, (kept-is a.d a.blocks _ _ _ _ p.0 p.1 c.group_count-count.ensures c.size.ensures (c.frame_due-bits.ensures p.1)).0)

pub overflow_add-result : goal.overflow_add-result
overflow_add-result c =
    let a = c.args in
    let p = c.requires in
    omega (arith, (kept-is a.d a.blocks _ _ _ _ p.0 p.1 c.group_count-count.ensures c.size.ensures (c.frame_due-bits.ensures p.1)).2)

pub overflow_add-result-2 : goal.overflow_add-result-2
overflow_add-result-2 c =
    let a = c.args in
    let p = c.requires in
    omega (arith, (kept-is a.d a.blocks _ _ _ _ p.0 p.1 c.group_count-count.ensures c.size.ensures (c.frame_due-bits.ensures p.1)).2)

pub overflow_add-result-3 : goal.overflow_add-result-3
overflow_add-result-3 c =
    let a = c.args in
    let p = c.requires in
    omega (arith, (kept-is a.d a.blocks _ _ _ _ p.0 p.1 c.group_count-count.ensures c.size.ensures (c.frame_due-bits.ensures p.1)).2)

pub returns : goal.returns
returns c =
    let a = c.args in
    let p = c.requires in
    let k = kept-is a.d a.blocks _ _ _ _ p.0 p.1 c.group_count-count.ensures c.size.ensures (c.frame_due-bits.ensures p.1) in
    (k.1, omega (arith, k.2))
