-- Pivots are found, the table filled and the columns cleared. Where a column had no pivot, the rows that it lacks are 0 there, and stay.
use mathlib.Core.Path.{◌≡◌, subst}
use Prim.Native.Nat.{ℕ, min, ◌+◌, ◌-◌, ◌*◌, ◌≤◌, ◌<◌}
use native.Mathlib.Omega.{arith}
use Rattle.staircase.specs.Square.{cleared_entry}
use Rattle.matrix_elimination.specs.Steps.{bit_at}
use Rattle.matrix_elimination.proofs.ClearedSteps.{kept_steps, kept_pivots, kept-none, cleared_steps, cleared-units, cleared-none}
use Rattle.matrix_elimination.proofs.StepLaws.{steps_then}
use Rattle.matrix_elimination.proofs.clear_byte.Goals as goal

-- the columns of the byte are not all done
more_left : (n lo most h : ℕ) → most ≡ min (n - lo) 8 → h < 8 → lo + h < n → h < most
more_left n lo most h e l left = omega arith

pub returns : goal.returns
returns c =
    let a = c.args in
    let p = c.requires in
    let most = c.min-most.ensures in
    let f = c.find_pivots-h in
    let t = c.fill_table in
    let r = c.clear_rows in
    let n = a.n in
    let lo = a.lo in
    let h = f.result in
    let m₁ = f.new.m in
    let m₂ = t.new.m in
    let m₃ = r.new.m in
    let room : lo + h ≤ n = omega (arith, f.ensures.upper_bound.0, most) in
    let same = subst (λ (z : ℕ). (i j : ℕ) → i < n → j < 8 * z → bit_at m₂ z i j ≡ bit_at m₁ z i j) p.1 t.ensures.2 in
    let cleared = subst (λ (z : ℕ). (i j : ℕ) → i < n → j < 8 * z → bit_at m₃ z i j ≡ cleared_entry lo h (bit_at m₂ z) (bit_at m₂ z) i j) p.1
    r.ensures.1 in
    let pivots = kept_pivots n m₁ m₂ same lo h room f.ensures.upper_bound.1 in record {
      result_bound = (
        room,
        omega (arith, f.ensures.upper_bound.0, most),
        cleared-units n lo h m₂ m₃ room pivots cleared,
        λ few left.
            cleared-none n lo h m₂ m₃ room pivots cleared
            (kept-none n m₁ m₂ same lo (lo + h) left (f.ensures.upper_bound.2 (more_left n lo _ h most few left))) left,
      );
      row_steps = steps_then n a.m.now m₁ m₃ f.ensures.row_steps
          (steps_then n m₁ m₂ m₃ (kept_steps n m₁ m₂ same t.ensures.0) (cleared_steps n lo h m₂ m₃ room pivots cleared r.ensures.0));
    }
