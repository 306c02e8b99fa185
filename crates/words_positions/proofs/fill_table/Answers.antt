-- The code is that of an allowed design.
use mathlib.Core.Path.{subst₂}
use Prim.Native.Nat.{ℕ, ◌*◌}
use Rattle.bch.specs.Code.{generator}
use Rattle.bch.specs.Powers.{PositionPowers}
use Rattle.design.proofs.Allowed.{code_of}
use Rattle.words_positions.proofs.fill_table.Goals as goal

pub fill_code-requires : goal.fill_code-requires
fill_code-requires c =
    let k = code_of c.args.d c.requires in
    rw (c.m-m.ensures, c.t-t.ensures) (k.m-low, k.m-high, k.t-low, k.t-high, k.fits)

pub returns : goal.returns
returns c =
    let f = c.fill_code in (
      subst₂ (λ (m t : ℕ). PositionPowers (generator m t) (m * t) f.new.positions) c.m-m.ensures c.t-t.ensures f.ensures.0,
      f.ensures.1,
    )
