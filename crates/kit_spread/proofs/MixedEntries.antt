-- Laws of mixed lists, as the code meets them.
--   shuffle_none, shuffle_draw     the shuffle of what is left: of nothing, and one draw more
--   draw_none-left, draw_steps      the steps of what is left
--   part_length                     the table's part for a column word
--   rows_by, rows-by, rows-wide      the rows of a column word by r alone
--   rows_next, state_next           the rows of one column word more, and the state after them
--   table_bytes                     a list by the table of the rows of all column words
-- Assumes nothing.
use mathlib.Core.Path.{◌≡◌, sym, ap, ap₂, ◌∙◌}
use mathlib.Core.List.{List, [], ◌∷◌}
use Prim.Native.Nat.{ℕ, zero, suc, ◌+◌, ◌-◌, ◌*◌, ◌/◌, ◌%◌, ◌≤◌, ◌<◌}
use native.Mathlib.Nat.{mul-suc, add-sub_cancel_left}
use native.Mathlib.Numerals.{add-one}
use native.Mathlib.Omega.{arith}
use lib.ListN.{length, take, drop, length-drop}
use lib.Seq.{length-take-le}
use Rattle.staircase.specs.Lists.{tabulate, concat}
use Rattle.staircase.specs.Design.{Params, order}
use Rattle.staircase.specs.Spread.{list_bytes}
use Rattle.staircase.specs.Load.{state_after, drawn}
use Rattle.staircase.specs.Mixed.{swapped, shuffled, rows_in, column_to, mixed_to}
use Rattle.staircase.proofs.System.{Proper, row-of, column-of}
use Rattle.staircase.proofs.Tabulate.{tabulate-length, concat-same, concat-at}
use Rattle.staircase.proofs.Mixed.{shuffled-length, rows-length}
use Rattle.generator.proofs.States.{after_none, after-add}
use Rattle.kit_spread.specs.Mixing.{table_to}

-- ---- a shuffle

pub shuffle_none : (s i : ℕ) (l : List ℕ) → 0 ≡ i → l ≡ shuffled s i l
unfolding shuffled
shuffle_none s i l e = ap (λ (k : ℕ). shuffled s k l) e

pub draw_none-left : (s i : ℕ) → 0 ≡ i → s ≡ state_after s (16 * i)
draw_none-left s i e = after_none s ∙ ap (λ (k : ℕ). state_after s (16 * k)) e

pub shuffle_draw : (s i : ℕ) (l : List ℕ) → 0 < i → shuffled s i l ≡ shuffled (state_after s 16) (i - 1) (swapped l i (drawn s % (i + 1)))
unfolding shuffled
shuffle_draw s (suc i) l h = ap (λ (k : ℕ). shuffled (state_after s 16) k (swapped l (suc i) (drawn s % (suc i + 1)))) (let e : i ≡ suc i - 1 = omega arith in e)
shuffle_draw s zero l h = absurd (omega (arith, h))

pub draw_steps : (s i : ℕ) → 0 < i → state_after s (16 * i) ≡ state_after (state_after s 16) (16 * (i - 1))
draw_steps s i h = sym (after-add s 16 (16 * (i - 1)) ∙ ap (state_after s) (let e : 16 + 16 * (i - 1) ≡ 16 * i = omega arith in e))

-- ---- column words

pub part_length : (l : List ℕ) (a w : ℕ) → a + w ≤ length l → length (take (a + w - a) (drop a l)) ≡ w
part_length l a w h = rw (add-sub_cancel_left a w) (length-take-le w (drop a l) (omega (arith, length-drop a l)))

-- the rows of column word c, which go by r alone
abbrev pub rows_by : ℕ → ℕ → ℕ → List ℕ
rows_by r seed c = shuffled (state_after seed (16 * ((r - 1) * c))) (r - 1) (tabulate r (λ j. j))

pub rows-by : (s : Params) (seed n r : ℕ) → n ≡ s.M → r ≡ s.r → concat n (rows_by r seed) ≡ concat s.M (rows_in s seed)
unfolding rows_in
rows-by s seed n r e f = ap₂ (λ (x y : ℕ). concat x (rows_by y seed)) e f

pub rows-wide : (r seed c : ℕ) → length (rows_by r seed c) ≡ r
rows-wide r seed c = shuffled-length (state_after seed (16 * ((r - 1) * c))) (r - 1) (tabulate r (λ j. j)) ∙ tabulate-length r (λ j. j)

module _ (r seed c n state : ℕ) (e : n ≡ r) (h : state ≡ state_after seed (16 * ((r - 1) * c))) where
  pub rows_next : shuffled state (n - 1) (tabulate n (λ j. j)) ≡ rows_by r seed c
  rows_next = ap₂ (λ (x k : ℕ). shuffled x (k - 1) (tabulate k (λ j. j))) h e

  pub state_next : state_after state (16 * (n - 1)) ≡ state_after seed (16 * ((r - 1) * (c + 1)))
  state_next =
      ap₂ (λ (x k : ℕ). state_after x (16 * (k - 1))) h e ∙ after-add seed (16 * ((r - 1) * c)) (16 * (r - 1))
      ∙ ap (state_after seed)
      (let f : (r - 1) * (c + 1) ≡ (r - 1) * c + (r - 1) = ap (λ (z : ℕ). (r - 1) * z) (add-one c) ∙ mul-suc (r - 1) c in
      let g : 16 * ((r - 1) * c) + 16 * (r - 1) ≡ 16 * ((r - 1) * (c + 1)) = omega (arith, f) in g)

-- ---- the table

module _ (s : Params) (ok : Proper s) (seed : ℕ) where
  table-entry : (by p : ℕ) → p < order s → table_to s by (concat s.M (rows_in s seed)) p ≡ mixed_to s by seed p
  unfolding table_to mixed_to
  table-entry by p h =
      ap (λ (z : ℕ). z * s.M + column_to s by p)
      (concat-at s.M s.r (rows_in s seed) (rows-length s seed) (column_to s by p) (p / s.M) (column-of s ok (p % s.M + by + p / s.M)) (row-of s ok p h))

  pub table_bytes : (by : ℕ) → list_bytes (order s) (table_to s by (concat s.M (rows_in s seed))) ≡ list_bytes (order s) (mixed_to s by seed)
  unfolding list_bytes
  table_bytes by =
      concat-same (order s) (λ p. table_to s by (concat s.M (rows_in s seed)) p % 256 ∷ table_to s by (concat s.M (rows_in s seed)) p / 256 % 256 ∷ [])
      (λ p. mixed_to s by seed p % 256 ∷ mixed_to s by seed p / 256 % 256 ∷ []) (λ p h. ap (λ (z : ℕ). z % 256 ∷ z / 256 % 256 ∷ []) (table-entry by p h))
