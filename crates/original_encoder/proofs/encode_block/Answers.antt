-- The digits that are written are those of the remainders.
use mathlib.Core.Path.{◌≡◌, ap, ◌∙◌}
use mathlib.Core.List.{List}
use Prim.Native.Nat.{ℕ, ◌*◌, ◌≤◌}
use native.Mathlib.Omega.{arith}
use lib.ListN.{length, get_or}
use Rattle.staircase.proofs.Bounds.{small_product, stretch-end}
use Rattle.design.specs.Sizes.{params_of}
use Rattle.original_encoder.proofs.Rows.{rows_lent, rows_are}
use Rattle.original_encoder.proofs.Blocks.{rows_named, remainders_long}
use Rattle.original_encoder.proofs.encode_block.Goals as goal

pub line_remainders-requires : goal.line_remainders-requires
line_remainders-requires c =
    let p = c.requires in
    rows_lent c.args.b c.args.positions.now c.args.tables.now p.0 p.1 p.2 p.3 p.4

pub put_rows-requires : goal.put_rows-requires
put_rows-requires c =
    let a = c.args in
    let F = c.requires.0 in
    let M = a.d.size in
    let rows = c.line_remainders in
    let n : length rows.new.sums ≡ M = ap length (rows.ensures.0 ∙ rows_are a.d a.blocks a.buffer.now a.b) ∙ remainders_long (params_of a.d) a.buffer.now a.b in
    let e : a.b * c.area-area.result ≡ a.b * (M * M) = ap (λ (z : ℕ). a.b * z) c.area-area.ensures.0 in
    let q : length rows.new.sums * length rows.new.sums ≡ M * M = ap (λ (z : ℕ). z * z) n in
    let r : a.d.m * a.d.t ≤ 30 = small_product a.d.m a.d.t 10 3 F.allowed.m-high F.allowed.t-high in (
      omega (arith, r, c.r-r.ensures.0),
      omega (arith, c.r-r.ensures.0, n, F.allowed.thin),
      omega (arith, n, F.allowed.M-high),
      omega (arith, stretch-end a.b a.blocks (M * M) c.requires.1, F.long, e, q),
    )

pub returns : goal.returns
returns c =
    let a = c.args in
    let rows = c.line_remainders in
    let n : length rows.new.sums ≡ a.d.size = ap length (rows.ensures.0 ∙ rows_are a.d a.blocks a.buffer.now a.b) ∙ remainders_long (params_of a.d) a.buffer.now a.b in (
      rows_named n c.r-r.ensures.0 (ap (λ (z : ℕ). a.b * z) c.area-area.ensures.0) (ap {B = ℕ → ℕ} (λ (l : List ℕ) (i : ℕ). get_or l i 0) (rows.ensures.0 ∙ rows_are a.d a.blocks a.buffer.now a.b)) c.put_rows.ensures,
      omega (arith, n, c.requires.3),
    )
