-- The place's row in the table is within it.
use mathlib.Core.Path.{ap, ap₂, ◌∙◌}
use Prim.Native.Nat.{ℕ, ◌+◌, ◌*◌, ◌/◌, ◌%◌}
use lib.ListN.{get_or}
use Rattle.kit_spread.specs.Mixing.{table_to}
use Rattle.kit_spread.proofs.mixing.mixed_to.Goals as goal

pub returns : goal.returns
unfolding table_to
returns c =
    let a = c.args in
    let m = c.size-size in
    ap (λ (z : ℕ). z * m.result + (a.p % m.result + a.by + a.p / m.result) % m.result) c.from-row.ensures
    ∙ ap₂ (λ (m r : ℕ). get_or a.rows.now ((a.p % m + a.by + a.p / m) % m * r + a.p / m) 0 * m + (a.p % m + a.by + a.p / m) % m)
    m.ensures c.r.ensures.0
