-- How many values items take.
--   takes, fit_length        the number of values
--   spell-long, fit-long     a text has a byte at least for each item, and for each value
--   takes_append             of two lists of items
--   takes_lits, takes_bits   of fixed bytes and of bits
--   passed_length            the values that a walk passes with
--   part-takes .. line-takes those of a space and bits, with a line feed too, and of the line of a number and bits
-- Assumes nothing.
use Prim.Native.Nat.{ℕ, zero, suc, ◌+◌, ◌≤◌, ◌<◌}
use mathlib.Core.Path.{◌≡◌, refl, sym, ap, ◌∙◌}
use mathlib.Core.List.{List, [], ◌∷◌, ◌++◌}
use native.Mathlib.Omega.{arith}
use native.Mathlib.Nat.{zero-add, suc-add}
use lib.ListN.{length, length-append}
use Rattle.text_formats.specs.Format.{Item, byte, num, bit, dec}
use Rattle.text_formats.specs.Items.{lits, bits, bits_line, past, walk, spell, Fit}
use Rattle.text_formats.proofs.Items.{dec-long}
use Rattle.text_formats.proofs.Spelling.{Tidy, tidy_oks, walk-sound}

unfoldable pub takes : List Item → ℕ
takes [] = 0
takes (byte b ∷ is) = takes is
takes (num ∷ is) = suc (takes is)
takes (bit ∷ is) = suc (takes is)

pub fit_length : (is : List Item) (vs : List ℕ) → Fit is vs → length vs ≡ takes is
unfolding takes
fit_length [] [] f = refl
fit_length [] (v ∷ vs) f = absurd f
fit_length (byte b ∷ is) vs f = fit_length is vs f
fit_length (num ∷ is) [] f = absurd f
fit_length (num ∷ is) (v ∷ vs) f = ap suc (fit_length is vs f.1)
fit_length (bit ∷ is) [] f = absurd f
fit_length (bit ∷ is) (v ∷ vs) f = ap suc (fit_length is vs f.1)

long-append : (n : ℕ) (p q : List ℕ) → 0 < length p → n ≤ length q → suc n ≤ length (p ++ q)
long-append n p q h k = omega (arith, length-append p q)

pub spell-long : (is : List Item) (vs : List ℕ) → Fit is vs → length is ≤ length (spell is vs)
spell-long [] [] f = omega arith
spell-long [] (v ∷ vs) f = absurd f
spell-long (byte b ∷ is) vs f = let h = spell-long is vs f in omega arith
spell-long (num ∷ is) [] f = absurd f
spell-long (num ∷ is) (v ∷ vs) f = long-append (length is) (dec v) (spell is vs) (dec-long v) (spell-long is vs f.1)
spell-long (bit ∷ is) [] f = absurd f
spell-long (bit ∷ is) (v ∷ vs) f = let h = spell-long is vs f.1 in omega arith

takes_few : (is : List Item) → takes is ≤ length is
unfolding takes
takes_few [] = omega arith
takes_few (byte b ∷ is) = let h = takes_few is in omega arith
takes_few (num ∷ is) = let h = takes_few is in omega arith
takes_few (bit ∷ is) = let h = takes_few is in omega arith

pub fit-long : (is : List Item) (vs : List ℕ) → Fit is vs → length vs ≤ length (spell is vs)
fit-long is vs f = omega (arith, fit_length is vs f, takes_few is, spell-long is vs f)

pub takes_append : (is js : List Item) → takes (is ++ js) ≡ takes is + takes js
unfolding takes
takes_append [] js = sym (zero-add (takes js))
takes_append (byte b ∷ is) js = takes_append is js
takes_append (num ∷ is) js = ap suc (takes_append is js) ∙ sym (suc-add (takes is) (takes js))
takes_append (bit ∷ is) js = ap suc (takes_append is js) ∙ sym (suc-add (takes is) (takes js))

pub takes_lits : (bs : List ℕ) → takes (lits bs) ≡ 0
unfolding takes
takes_lits [] = refl
takes_lits (b ∷ bs) = takes_lits bs

pub takes_bits : (n : ℕ) → takes (bits n) ≡ n
unfolding takes
takes_bits zero = refl
takes_bits (suc n) = ap suc (takes_bits n)

pub passed_length : (is : List Item) (s : List ℕ) (at : ℕ) (ys : List ℕ) (q : ℕ) → Tidy is → past ys q ≡ walk is s at → length ys ≡ takes is
passed_length is s at ys q h e = fit_length is ys (walk-sound is s at ys q (tidy_oks is h) (sym e)).fit

-- a space and bits
pub part_takes : (n : ℕ) → takes (byte 32 ∷ bits n) ≡ n
unfolding takes
part_takes n = takes_bits n

-- a space, bits and a line feed
pub end_takes : (n : ℕ) → takes ((byte 32 ∷ bits n) ++ (byte 10 ∷ [])) ≡ n
unfolding takes
end_takes n = omega (arith, takes_append (bits n) (byte 10 ∷ []), takes_bits n)

pub line_takes : (n p : ℕ) → takes (bits_line n p) ≡ n
unfolding bits_line
line_takes n p = omega (arith, takes_append (lits (dec p)) ((byte 32 ∷ bits n) ++ (byte 10 ∷ [])), takes_lits (dec p), end_takes n)
