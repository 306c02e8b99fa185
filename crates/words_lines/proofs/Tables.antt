-- The table of powers of x for words that are read forwards, and for those that are read backwards.
--   ahead_table, back_table   a table of powers of x, and the same from its end
--   parts_asked, parts_of     the sizes of the tables of sums, as they are asked for where they are made, and the tables
-- Assumes nothing.
use mathlib.Core.Path.{◌≡◌, sym, ap, ◌∙◌, subst, subst₂}
use mathlib.Core.Bool.{true, false}
use mathlib.Core.List.{List}
use Prim.Native.Nat.{ℕ, ◌+◌, ◌-◌, ◌*◌, ◌≤◌, ◌<◌}
use native.Mathlib.Omega.{arith}
use lib.ListN.{length, get_or}
use Rattle.bch.specs.Powers.{power_mod, PositionPowers}
use Rattle.staircase.specs.Design.{Params}
use Rattle.design.specs.declared.Design.{Design}
use Rattle.design.specs.Sizes.{params_of}
use Rattle.layout.specs.declared.Shape.{Shape}
use Rattle.layout.specs.Layouts.{bits_in, tail_in, AllowedIn}
use Rattle.layout.proofs.Layouts.{size_highest, r_highest, tail-most, word_parts}
use Rattle.words_tables.specs.Tables.{table_length, MayParts}
use Rattle.words_lines.specs.Words.{ReadTable}

module _ (z : Shape) (s : Params) where
  pub ahead_table : (t : List ℕ) → PositionPowers s.g s.r t → length t ≡ bits_in z s → ReadTable z s false t
  ahead_table t P long =
      record {
        long = long;
        powers = λ j h. P j (subst (λ (n : ℕ). j < n) (sym long) h) ∙ ap (λ (n : ℕ). power_mod s.g s.r (n - 1 - j)) long;
      }

  pub back_table : {t out : List ℕ} → ReadTable z s false t → length out ≡ length t
      → ((j : ℕ) → j < length t → get_or out j 0 ≡ get_or t (length t - 1 - j) 0) → ReadTable z s true out
  back_table {t} {out} T same back =
      record {
        long = same ∙ T.long;
        powers = λ j h.
            let hj : j < length t = subst (λ (n : ℕ). j < n) (sym T.long) h in
            back j hj ∙ ap (λ (n : ℕ). get_or t (n - 1 - j) 0) T.long ∙ T.powers (bits_in z s - 1 - j) (omega (arith, h));
      }

-- they are made, in a slice of n entries
pub parts_asked : (z : Shape) (d : Design) (positions : List ℕ) {size r due n : ℕ} → AllowedIn z d → length positions ≡ bits_in z (params_of d) → size ≡ d.size
    → r ≡ tail_in z (params_of d) → due ≡ 2 * table_length d.size + 2 * table_length (tail_in z (params_of d)) → n ≡ due
    → (size ≤ 500) × (r ≤ 32) × (length positions ≡ 2 * size + 2 * r) × (n ≡ 2 * table_length size + 2 * table_length r)
parts_asked z d positions A long es er ed en = (
  omega (arith, size_highest z d A, es),
  omega (arith, r_highest z d A, tail-most z (params_of d), er),
  omega (arith, long, word_parts z (params_of d), es, er),
  omega (arith, en, ed, ap table_length es, ap table_length er),
)

pub parts_of : (z : Shape) (d : Design) (positions tables : List ℕ) {size r : ℕ} → size ≡ d.size → r ≡ tail_in z (params_of d) → MayParts positions size r tables
    → MayParts positions d.size (tail_in z (params_of d)) tables
parts_of z d positions tables es er = subst₂ (λ (n q : ℕ). MayParts positions n q tables) es er
