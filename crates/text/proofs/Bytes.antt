-- The bytes of a list and of an inverse: how many they are.
--   halves                        the two lists of n pairs
--   packs-length, length-pack, pack_rows-length   the bytes of a list, of a row, of rows
--   entry-at                      two bytes of a list are an entry
-- Assumes nothing.
use Prim.Native.Nat.{ℕ, zero, suc, ◌+◌, ◌*◌, ◌<◌}
use mathlib.Core.Path.{◌≡◌, refl, sym, ap}
use mathlib.Core.List.{List, [], ◌∷◌}
use native.Mathlib.Omega.{arith}
use lib.ListN.{length, get_or, take, drop, length-append}
use Rattle.staircase.specs.System.{row_bytes}
use Rattle.staircase.specs.Rules.{entries}
use Rattle.staircase.proofs.Tabulate.{tabulate-at}
use Rattle.text.specs.KitReader.{firsts, seconds, packs, pack, pack_rows}

-- of pairs: how many there are, and one more
pub halves : (k : ℕ) (l : List ℕ) → length l ≡ 2 * k → (length (firsts l) ≡ k) × (length (seconds l) ≡ k)
unfolding firsts seconds
halves zero [] e = (refl, refl)
halves zero (a ∷ l) e = absurd (omega arith)
halves (suc k) [] e = absurd (omega arith)
halves (suc k) (a ∷ []) e = absurd (omega arith)
halves (suc k) (a ∷ b ∷ l) e = let i = halves k l (omega arith) in (ap suc i.0, ap suc i.1)

pub packs-length : (ds : List ℕ) → length (packs ds) ≡ 2 * length ds
unfolding packs
packs-length [] = refl
packs-length (d ∷ ds) = let e = packs-length ds in omega arith

pub length-pack : (b : ℕ) (vs : List ℕ) → length (pack b vs) ≡ b
unfolding pack
length-pack zero vs = refl
length-pack (suc b) vs = ap suc (length-pack b (drop 8 vs))

pub pack_rows-length : (n k : ℕ) (vs : List ℕ) → length (pack_rows n k vs) ≡ k * row_bytes n
unfolding pack_rows
pack_rows-length n zero vs = omega arith
pack_rows-length n (suc k) vs =
    let i = pack_rows-length n k (drop n vs) in
    omega (arith, length-append (pack (row_bytes n) (take n vs)) (pack_rows n k (drop n vs)), length-pack (row_bytes n) (take n vs))

pub entry-at : (n : ℕ) (b : List ℕ) (p : ℕ) → p < n → get_or b (2 * p) 0 + 256 * get_or b (2 * p + 1) 0 ≡ get_or (entries n b) p 0
unfolding entries
entry-at n b p h = sym (tabulate-at n (λ p. get_or b (2 * p) 0 + 256 * get_or b (2 * p + 1) 0) 0 p h)
