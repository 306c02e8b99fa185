-- The list by the table is the list of the seed.
use mathlib.Core.Path.{ap, ◌∙◌}
use mathlib.Core.List.{List}
use Prim.Native.Nat.{ℕ}
use Rattle.staircase.specs.Spread.{list_bytes}
use Rattle.staircase.proofs.BchCode.{proper_of}
use Rattle.design.specs.Sizes.{params_of, order_of}
use Rattle.kit_spread.specs.Mixing.{table_to}
use Rattle.kit_spread.proofs.MixedEntries.{table_bytes}
use Rattle.kit_spread.proofs.mixing.mix_by.Goals as goal

pub returns : goal.returns
returns c =
    let a = c.args in
    let drawn = c.draw_columns-s in (
      c.fill_mixed.ensures
          ∙ ap (λ (rows : List ℕ). list_bytes (order_of a.d) (table_to (params_of a.d) a.by rows)) drawn.ensures.0
          ∙ table_bytes (params_of a.d) (proper_of c.requires.0) a.seed a.by,
      drawn.ensures.1,
    )
