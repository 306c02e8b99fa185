-- The rows of original staircase frames as words of one code, block by block.
--   block_rows            the sites of the rows of a block
--   row_words-plain       the words of all rows
-- Assumes nothing.
use mathlib.Core.Path.{◌≡◌, refl, sym, ap, ◌∙◌}
use mathlib.Core.List.{List, ◌++◌, map, map-append}
use Prim.Native.Nat.{ℕ, zero, suc}
use Rattle.staircase.specs.Lists.{tabulate, concat}
use Rattle.staircase.specs.Design.{Params}
use Rattle.staircase.specs.Frame.{Site, word, plain}
use Rattle.original.specs.Systematic.{whole}
use Rattle.original.specs.Frame.{row_of, rows, row_sites, row_words}
use Rattle.staircase.proofs.Tabulate.{tabulate-map, concat-same}

abbrev pub block_rows : Params → ℕ → List (List Site)
block_rows s b = tabulate s.M (row_sites s b)

map-concat : {A B : Type 0} (φ : A → B) (n : ℕ) (F : ℕ → List A) → map φ (concat n F) ≡ concat n (λ b. map φ (F b))
unfolding concat
map-concat φ zero F = refl
map-concat φ (suc n) F = map-append φ (F zero) (concat n (λ k. F (suc k))) ∙ ap (λ l. map φ (F zero) ++ l) (map-concat φ n (λ k. F (suc k)))

block-plain : (s : Params) (b : ℕ) → map whole (tabulate s.M (row_of s b)) ≡ plain s (block_rows s b)
unfolding row_of
block-plain s b = tabulate-map whole s.M (row_of s b) ∙ sym (tabulate-map (word s) s.M (row_sites s b))

pub row_words-plain : (s : Params) (L : ℕ) → row_words s L ≡ plain s (concat L (block_rows s))
unfolding row_words rows
row_words-plain s L =
    map-concat whole L (λ b. tabulate s.M (row_of s b))
    ∙ concat-same L (λ b. map whole (tabulate s.M (row_of s b))) (λ b. plain s (block_rows s b)) (λ b h. block-plain s b)
    ∙ sym (map-concat (word s) L (block_rows s))
