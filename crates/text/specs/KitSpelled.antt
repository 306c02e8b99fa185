-- The text of a kit line by line, as it is written.
--   three_text              a line of three numbers
--   pair_at, pairs_text      a line of the lists, and their lines
--   row_chars, row_text      a row of the inverse in characters, and its line
--   rows_text               the lines of the rows
-- A byte is a number below 256; 10 is the line feed, 32 the space and 48 the character `0`. n is M × r.
-- Assumes nothing: these are definitions.
use Rattle.std.specs.Prelude.{ℕ, ◌+◌, List, [], ◌∷◌, ◌++◌, get_or}
use Rattle.text_formats.specs.Format.{dec}
use Rattle.staircase.specs.Lists.{tabulate, concat}
use Rattle.staircase.specs.System.{inverse_entry}
use Rattle.staircase.specs.Rules.{entries}

-- "one space between, a line feed after each line": a line of three numbers.
unfoldable pub three_text : ℕ → ℕ → ℕ → List ℕ
three_text a b c = dec a ++ (32 ∷ (dec b ++ (32 ∷ (dec c ++ (10 ∷ [])))))

-- The line of place p of two lists of n entries: the place and both entries.
unfoldable pub pair_at : ℕ → List ℕ → List ℕ → ℕ → List ℕ
pair_at n self parity p = three_text p (get_or (entries n self) p 0) (get_or (entries n parity) p 0)

unfoldable pub pairs_text : ℕ → List ℕ → List ℕ → List ℕ
pairs_text n self parity = concat n (pair_at n self parity)

-- "`inverse` has M × r characters, column 0 first": row i of the packed matrix w.
unfoldable pub row_chars : ℕ → List ℕ → ℕ → List ℕ
row_chars n w i = tabulate n (λ j. 48 + inverse_entry w n i j)

-- The line of row i.
unfoldable pub row_text : ℕ → List ℕ → ℕ → List ℕ
row_text n w i = dec i ++ (32 ∷ (row_chars n w i ++ (10 ∷ [])))

unfoldable pub rows_text : ℕ → List ℕ → List ℕ
rows_text n w = concat n (row_text n w)
