-- Lines that each have a number, by a law for the line of a number. Of N lines the code has left i behind, and the next has the number p.
--   lines_none, lines-first            after the last line, and the next one before those that follow it
--   lines-whole, lines_end, lines-walk the walk before the first line, after the last, and through the next
--   lines_tidy, lines-take             the lines are tidy, and how many values they take
-- Assumes nothing.
use Prim.Native.Nat.{ℕ, zero, suc, ◌+◌, ◌-◌, ◌*◌, ◌≤◌, ◌<◌}
use mathlib.Core.Path.{◌≡◌, sym, ap, ◌∙◌}
use mathlib.Core.List.{List, [], ◌++◌}
use native.Mathlib.Omega.{arith}
use native.Mathlib.Nat.{zero-mul, suc-mul}
use native.Mathlib.Numerals.{add-one}
use Rattle.text_formats.specs.Format.{Item}
use Rattle.text_formats.specs.Items.{lines_from, past, walk, onward}
use Rattle.text_formats.proofs.Walking.{walk-append}
use Rattle.text_formats.proofs.Spelling.{Tidy, tidy_append}
use Rattle.text_formats.proofs.Takes.{takes, takes_append}

module _ (line : ℕ → List Item) where
  pub lines_none : (p N i : ℕ) → N ≤ i → lines_from line p (N - i) ≡ []
  unfolding lines_from
  lines_none p N i h = let e : N - i ≡ 0 = omega arith in ap (lines_from line p) e

  pub lines-first : (p N i : ℕ) → i < N → lines_from line p (N - i) ≡ line p ++ lines_from line (p + 1) (N - (i + 1))
  unfolding lines_from
  lines-first p N i h = let e : N - i ≡ suc (N - (i + 1)) = omega arith in rw (e, add-one p)

  pub lines-whole : (p N : ℕ) (s : List ℕ) (q : ℕ) → walk (lines_from line p N) s q ≡ walk (lines_from line p (N - 0)) s q
  lines-whole p N s q = let e : N ≡ N - 0 = omega arith in ap (λ (k : ℕ). walk (lines_from line p k) s q) e

  pub lines_end : (p N i : ℕ) (s : List ℕ) (q : ℕ) → N ≤ i → walk (lines_from line p (N - i)) s q ≡ past [] q
  unfolding walk
  lines_end p N i s q h = ap (λ (is : List Item). walk is s q) (lines_none p N i h)

  pub lines-walk : (p N i : ℕ) (s : List ℕ) (q : ℕ) → i < N
      → walk (lines_from line p (N - i)) s q ≡ onward (walk (line p) s q) (λ r. walk (lines_from line (p + 1) (N - (i + 1))) s r)
  lines-walk p N i s q h =
      ap (λ (is : List Item). walk is s q) (lines-first p N i h) ∙ walk-append (line p) (lines_from line (p + 1) (N - (i + 1))) s q

  pub lines_tidy : (k p : ℕ) → p + k ≤ 10000 → ((q : ℕ) → q < 10000 → Tidy (line q)) → Tidy (lines_from line p k)
  unfolding lines_from
  lines_tidy zero p h t = tt
  lines_tidy (suc k) p h t = tidy_append (line p) (lines_from line (suc p) k) (t p (omega arith)) (lines_tidy k (suc p) (omega arith) t)

  pub lines-take : (w k p : ℕ) → ((q : ℕ) → takes (line q) ≡ w) → takes (lines_from line p k) ≡ k * w
  unfolding lines_from takes
  lines-take w zero p t = sym (zero-mul w)
  lines-take w (suc k) p t = takes_append (line p) (lines_from line (suc p) k) ∙ sum (takes (line p)) (takes (lines_from line (suc p) k)) (t p) (lines-take w k (suc p) t)
    where
      sum : (a b : ℕ) → a ≡ w → b ≡ k * w → a + b ≡ suc k * w
      sum a b e f = omega (arith, suc-mul k w)
