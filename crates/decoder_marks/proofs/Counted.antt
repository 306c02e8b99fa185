-- Marks counted from the front.
--   set_marks-none, set_marks-empty, set_marks-append    no marks, and those of bytes that are joined
--   set_marks-more                     of one byte more
--   ones_eight                        the ones of a byte are those of its eight bits
-- Assumes nothing.
use mathlib.Core.Path.{◌≡◌, refl, sym, ap, ◌∙◌}
use mathlib.Core.List.{List, [], ◌∷◌, ◌++◌}
use Prim.Native.Nat.{ℕ, ◌+◌, ◌<◌}
use native.Mathlib.Nat.{add-zero, zero-add, add_assoc}
use native.Mathlib.Numerals.{add-one}
use native.Mathlib.Omega.{arith}
use lib.Count.{ones_in, ones}
use lib.ListN.{length, get_or, take}
use lib.Seq.{take-suc}
use Rattle.staircase.specs.Lists.{tabulate}
use Rattle.matrix.proofs.Block.{agree}
use Rattle.decoder_marks.specs.Marks.{set_marks}

pub set_marks-none : 0 ≡ set_marks []
unfolding set_marks
set_marks-none = refl

pub set_marks-append : (v w : List ℕ) → set_marks (v ++ w) ≡ set_marks v + set_marks w
unfolding set_marks
set_marks-append [] w = sym (zero-add (set_marks w))
set_marks-append (b ∷ v) w = ap (λ (n : ℕ). ones_in 8 b + n) (set_marks-append v w) ∙ sym (add_assoc (ones_in 8 b) (set_marks v) (set_marks w))

-- the check computes both tables
pub ones_eight : (b : ℕ) → b < 256 → ones b ≡ ones_in 8 b
unfolding ones ones_in tabulate
ones_eight = agree 256 ones (ones_in 8) refl

pub set_marks-empty : (v : List ℕ) → length v ≡ 0 → set_marks v ≡ 0
unfolding set_marks
set_marks-empty [] e = refl
set_marks-empty (b ∷ v) e = absurd (omega arith)

pub set_marks-more : (v : List ℕ) (k : ℕ) → k < length v → set_marks (take (k + 1) v) ≡ set_marks (take k v) + ones_in 8 (get_or v k 0)
unfolding set_marks
set_marks-more v k h =
    rw (add-one, take-suc v k 0 h)
    (set_marks-append (take k v) (get_or v k 0 ∷ []) ∙ ap (λ (n : ℕ). set_marks (take k v) + n) (add-zero (ones_in 8 (get_or v k 0))))
