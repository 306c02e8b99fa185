-- The generator and its degree are those of the code.
use native.Mathlib.Omega.{arith}
use mathlib.Core.Path.{ap, ◌∙◌, subst}
use Prim.Native.Nat.{ℕ, ◌+◌, ◌*◌, ◌/◌, ◌^◌, ◌≤◌, ◌<◌}
use native.Mathlib.Nat.{one-mul, mul-le-mul}
use lib.Pow.{shl_exact}
use Rattle.bch.specs.Powers.{PositionPowers}
use Rattle.bch.proofs.Bch.{Code, degree, degree_positive}
use Rattle.words_positions.proofs.fill_code.Goals as goal

-- what the function asks
code_of : (m t : ℕ) → (4 ≤ m) × (m ≤ 10) × (1 ≤ t) × (t ≤ 3) × (2 * (m * t) + 2 < 2 ^ m) → Code m t
code_of m t h = record { m-low = h.0; m-high = h.1; t-low = h.2; t-high = h.3; fits = h.4 }

r_small : (m t : ℕ) → (4 ≤ m) × (m ≤ 10) × (1 ≤ t) × (t ≤ 3) × (2 * (m * t) + 2 < 2 ^ m) → m * t ≤ 30
r_small m t h = mul-le-mul h.1 h.3

pub overflow_mul-r : goal.overflow_mul-r
overflow_mul-r c = omega (arith, r_small c.args.m c.args.t c.requires)

pub overflow_cast-r : goal.overflow_cast-r
overflow_cast-r c = omega (arith, r_small c.args.m c.args.t c.requires)

pub overflow_shl-r : goal.overflow_shl-r
overflow_shl-r c = omega (arith, r_small c.args.m c.args.t c.requires)

pub fill_positions-requires : goal.fill_positions-requires
fill_positions-requires c =
    let m = c.args.m in
    let t = c.args.t in
    let k = code_of m t c.requires in
    let u : m * t ≤ 30 = r_small m t c.requires in (
      degree_positive m t k,
      u,
      shl_exact {a = 1} 1 (m * t) 32 (omega arith) (omega arith) ∙ one-mul (2 ^ (m * t)),
      ap (λ (g : ℕ). g / 2 ^ (m * t)) c.generator_of-g.ensures.0 ∙ degree m t k,
    )

pub returns : goal.returns
returns c =
    let a = c.args in
    let f = c.fill_positions in
    (subst (λ (g : ℕ). PositionPowers g (a.m * a.t) f.new.table) c.generator_of-g.ensures.0 f.ensures.0, f.ensures.1)
