-- What a lent buffer holds once a text is written into it at a position where there is room for it, and where there is not.
--   puts, after   the bytes, and the position after the text
-- Assumes nothing: these are definitions.
use Rattle.std.specs.Prelude.{ℕ, ◌+◌, cond, List, length, leb}
use Rattle.std.proofs.lemmas.List.Edits.{sets}

-- The bytes o once the text t is written from the position `at` on: where it has no room, they stay as they were.
unfoldable pub puts : List ℕ → ℕ → List ℕ → List ℕ
puts o at t = cond (leb (at + length t) (length o)) (sets o at t) o

-- The position after the text t, written into o from the position `at` on: where it has no room, `at`.
unfoldable pub after : List ℕ → ℕ → List ℕ → ℕ
after o at t = cond (leb (at + length t) (length o)) (at + length t) at
