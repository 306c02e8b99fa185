-- Items without numbers: their values are bits.
--   AllBits, bits-take, bits-drop   every value is 0 or 1; of a part of them too
--   Bare, fit-bits, bits_fit        no number among the items, so the values are bits, and any bits are values
--   bare_length                     each item shows in one byte
--   bare-append .. bare-bits        of two lists of items, of fixed bytes, of bits
--   part-bare .. line-bare          of a space and bits, with a line feed too, and of the line of a number and bits
--   lines_bare                      of lines that each have a number, by a law for the line of a number
-- Assumes nothing.
use Prim.Native.Nat.{ℕ, zero, suc, ◌+◌, ◌<◌}
use mathlib.Core.Path.{◌≡◌, refl, ap}
use mathlib.Core.List.{List, [], ◌∷◌, ◌++◌}
use native.Mathlib.Omega.{arith}
use native.Mathlib.Decide.{dec_lt}
use lib.ListN.{length, get_or, take, drop, length-take, get_or-eq_default}
use lib.Seq.{get_or-take, get_or-drop}
use Rattle.text_formats.specs.Format.{Item, byte, num, bit, dec}
use Rattle.text_formats.specs.Items.{lits, bits, lines_from, bits_line, spell, Fit}
use Rattle.text_formats.proofs.Takes.{takes}

abbrev pub AllBits : List ℕ → Type 0
AllBits l = (k : ℕ) → get_or l k 0 < 2

pub bits-drop : (n : ℕ) (l : List ℕ) → AllBits l → AllBits (drop n l)
bits-drop n l h k = rw (get_or-drop n l k 0) (h (n + k))

pub bits-take : (n : ℕ) (l : List ℕ) → AllBits l → AllBits (take n l)
bits-take n l h k = go (dec_lt k n)
  where
    go : Dec (k < n) → get_or (take n l) k 0 < 2
    go (yes a) = rw (get_or-take n l k 0 a) (h k)
    go (no a) = rw (get_or-eq_default (take n l) 0 {n = k} (omega (arith, length-take n l))) (omega arith)

abbrev pub Bare : List Item → Type 0
Bare [] = Unit {0}
Bare (byte b ∷ is) = Bare is
Bare (num ∷ is) = ⊥
Bare (bit ∷ is) = Bare is

pub fit-bits : (is : List Item) (vs : List ℕ) → Bare is → Fit is vs → AllBits vs
fit-bits [] [] b f k = omega arith
fit-bits [] (v ∷ vs) b f k = absurd f
fit-bits (byte x ∷ is) vs b f k = fit-bits is vs b f k
fit-bits (num ∷ is) vs b f k = absurd b
fit-bits (bit ∷ is) [] b f k = absurd f
fit-bits (bit ∷ is) (v ∷ vs) b f zero = f.0
fit-bits (bit ∷ is) (v ∷ vs) b f (suc k) = fit-bits is vs b f.1 k

pub bits_fit : (is : List Item) (vs : List ℕ) → Bare is → AllBits vs → length vs ≡ takes is → Fit is vs
unfolding takes
bits_fit [] [] b a e = tt
bits_fit [] (v ∷ vs) b a e = absurd (omega arith)
bits_fit (byte x ∷ is) vs b a e = bits_fit is vs b a e
bits_fit (num ∷ is) vs b a e = absurd b
bits_fit (bit ∷ is) [] b a e = absurd (omega arith)
bits_fit (bit ∷ is) (v ∷ vs) b a e = (a 0, bits_fit is vs b (bits-drop 1 (v ∷ vs) a) (omega arith))

pub bare_length : (is : List Item) (vs : List ℕ) → Bare is → Fit is vs → length (spell is vs) ≡ length is
bare_length [] [] b f = refl
bare_length [] (v ∷ vs) b f = absurd f
bare_length (byte x ∷ is) vs b f = ap suc (bare_length is vs b f)
bare_length (num ∷ is) vs b f = absurd b
bare_length (bit ∷ is) [] b f = absurd f
bare_length (bit ∷ is) (v ∷ vs) b f = ap suc (bare_length is vs b f.1)

pub bare_append : (is js : List Item) → Bare is → Bare js → Bare (is ++ js)
bare_append [] js b c = c
bare_append (byte x ∷ is) js b c = bare_append is js b c
bare_append (num ∷ is) js b c = absurd b
bare_append (bit ∷ is) js b c = bare_append is js b c

pub bare_lits : (bs : List ℕ) → Bare (lits bs)
bare_lits [] = tt
bare_lits (b ∷ bs) = bare_lits bs

bare_bits : (n : ℕ) → Bare (bits n)
bare_bits zero = tt
bare_bits (suc n) = bare_bits n

pub part_bare : (n : ℕ) → Bare (byte 32 ∷ bits n)
part_bare n = bare_bits n

pub end_bare : (n : ℕ) → Bare ((byte 32 ∷ bits n) ++ (byte 10 ∷ []))
end_bare n = bare_append (byte 32 ∷ bits n) (byte 10 ∷ []) (part_bare n) tt

pub line_bare : (n p : ℕ) → Bare (bits_line n p)
unfolding bits_line
line_bare n p = bare_append (lits (dec p)) ((byte 32 ∷ bits n) ++ (byte 10 ∷ [])) (bare_lits (dec p)) (end_bare n)

pub lines_bare : (line : ℕ → List Item) (k p : ℕ) → ((q : ℕ) → Bare (line q)) → Bare (lines_from line p k)
unfolding lines_from
lines_bare line zero p b = tt
lines_bare line (suc k) p b = bare_append (line p) (lines_from line (suc p) k) (b p) (lines_bare line k (suc p) b)
