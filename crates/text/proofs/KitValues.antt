-- The values of a kit text, by the lists and the inverse that the reader leaves.
--   values-small, rows-bits       the values are numbers below 10,000, and bits
--   pairs_joined, rows_joined     the values of the lists' lines by pairs, those of the rows' lines by rows
--   entry_of                      an entry of a packed list is the value
--   entry-bit                     an entry of packed rows is a bit
--   inverse-of, entry-wide        a bit of the packed rows is the value; a spare one too
-- Assumes nothing.
use Prim.Native.Nat.{ℕ, zero, suc, ◌+◌, ◌*◌, ◌/◌, ◌%◌, ◌^◌, ◌<◌}
use mathlib.Core.Path.{◌≡◌, refl, sym, ap, ap₂, ◌∙◌}
use mathlib.Core.List.{List, [], ◌∷◌, ◌++◌}
use native.Mathlib.Omega.{arith}
use native.Mathlib.Nat.{not-suc-le-zero, le_of_suc-le-suc, pow-succ', div-le_self, div-div-eq-div-mul}
use lib.ListN.{length, get_or, take, drop, get_or-append, take-append-drop, length-drop}
use lib.Seq.{ext_get_or, length-take-le, get_or-take, get_or-drop, get_or-append-add, drop-drop}
use Rattle.text_formats.specs.Items.{Fit, lines_from, bits_line, bits_lines}
use Rattle.text_formats.proofs.Bare.{AllBits, bits-take, bits-drop, fit-bits, line_bare, lines_bare}
use Rattle.text_formats.proofs.Parts.{fit-split}
use Rattle.staircase.specs.Lists.{tabulate, concat}
use Rattle.staircase.specs.System.{row_bytes, inverse_entry}
use Rattle.staircase.specs.Rules.{entries}
use Rattle.staircase.proofs.Tabulate.{tabulate-length, tabulate-at, tabulate-same, concat-same}
use Rattle.text.proofs.Bytes.{entry-at, length-pack}
use Rattle.text.specs.KitText.{pair_line, pair_lines}
use Rattle.text.specs.KitReader.{firsts, seconds, packs, binary, pack, pack_rows}
use Rattle.text.proofs.KitCounting.{pair_is}

-- ---- the lists' lines

pub values-small : (k p : ℕ) (ws : List ℕ) → Fit (pair_lines p k) ws → (i : ℕ) → (get_or (firsts ws) i 0 < 10000) × (get_or (seconds ws) i 0 < 10000)
unfolding lines_from firsts seconds
values-small zero p [] h i = (omega arith, omega arith)
values-small zero p (w ∷ ws) h i = absurd h
values-small (suc k) p ws h i =
    let S = fit-split (pair_line p) (pair_lines (suc p) k) ws h in
    let P = pair_is p S.us S.left in
    first P.a P.b S.vs (S.all ∙ ap (λ (l : List ℕ). l ++ S.vs) P.both) P.a_small P.b_small (values-small k (suc p) S.vs S.right) i
  where
    first : (a b : ℕ) (vs : List ℕ) → ws ≡ a ∷ b ∷ vs → a < 10000 → b < 10000
        → ((j : ℕ) → (get_or (firsts vs) j 0 < 10000) × (get_or (seconds vs) j 0 < 10000)) → (j : ℕ) → (get_or (firsts ws) j 0 < 10000)
        × (get_or (seconds ws) j 0 < 10000)
    first a b vs e l m r zero = rw e (l, m)
    first a b vs e l m r (suc j) = rw e (r j)

pub pairs_joined : (n : ℕ) (ws : List ℕ) → length ws ≡ 2 * n → ws ≡ concat n (λ i. get_or (firsts ws) i 0 ∷ get_or (seconds ws) i 0 ∷ [])
unfolding concat firsts seconds
pairs_joined zero [] h = refl
pairs_joined zero (a ∷ ws) h = absurd (omega arith)
pairs_joined (suc n) [] h = absurd (omega arith)
pairs_joined (suc n) (a ∷ []) h = absurd (omega arith)
pairs_joined (suc n) (a ∷ b ∷ ws) h = ap (λ (l : List ℕ). a ∷ b ∷ l) (pairs_joined n ws (omega arith))

-- ---- the entries of a list

pub packs-at : (vs : List ℕ) (p : ℕ) → (get_or (packs vs) (2 * p) 0 ≡ get_or vs p 0 % 256) × (get_or (packs vs) (2 * p + 1) 0 ≡ get_or vs p 0 / 256 % 256)
unfolding packs
packs-at [] p = (refl, refl)
packs-at (v ∷ vs) zero = (refl, refl)
packs-at (v ∷ vs) (suc p) =
    let i = packs-at vs p in
    let a : 2 * suc p ≡ suc (suc (2 * p)) = omega arith in
    let b : 2 * suc p + 1 ≡ suc (suc (2 * p + 1)) = omega arith in
    (ap (λ (k : ℕ). get_or (packs (v ∷ vs)) k 0) a ∙ i.0, ap (λ (k : ℕ). get_or (packs (v ∷ vs)) k 0) b ∙ i.1)

pub entry_of : (n : ℕ) (vs : List ℕ) (p : ℕ) → p < n → get_or vs p 0 < 10000 → get_or (entries n (packs vs)) p 0 ≡ get_or vs p 0
entry_of n vs p h s =
    let i = packs-at vs p in
    sym (entry-at n (packs vs) p h) ∙ ap₂ (λ (x y : ℕ). x + 256 * y) i.0 i.1 ∙ join (get_or vs p 0) s
  where
    join : (v : ℕ) → v < 10000 → v % 256 + 256 * (v / 256 % 256) ≡ v
    join v k = omega arith

-- ---- the rows' lines

pub rows-bits : (n k p : ℕ) (ws : List ℕ) → Fit (bits_lines n p k) ws → AllBits ws
rows-bits n k p ws h = fit-bits (bits_lines n p k) ws (lines_bare (bits_line n) k p (line_bare n)) h

pub rows_joined : (n k : ℕ) (ws : List ℕ) → length ws ≡ k * n → ws ≡ concat k (λ i. tabulate n (λ j. get_or ws (i * n + j) 0))
unfolding concat
rows_joined n zero [] h = refl
rows_joined n zero (w ∷ ws) h = absurd (omega arith)
rows_joined n (suc k) ws h =
    sym (take-append-drop n ws)
    ∙ ap₂ (λ (x y : List ℕ). x ++ y) first
    (rows_joined n k (drop n ws) (omega (arith, length-drop n ws)) ∙ concat-same k _ (λ i. tabulate n (λ j. get_or ws (suc i * n + j) 0))
    (λ i l. tabulate-same n _ (λ j. get_or ws (suc i * n + j) 0) (λ j m. later i j)))
  where
    first : take n ws ≡ tabulate n (λ j. get_or ws (0 * n + j) 0)
    first =
        let long : length (take n ws) ≡ n = length-take-le n ws (omega arith) in
        ext_get_or 0 (take n ws) (tabulate n (λ j. get_or ws (0 * n + j) 0)) (long ∙ sym (tabulate-length n (λ j. get_or ws (0 * n + j) 0)))
        (λ j l.
        let m : j < n = omega (arith, long) in
        let z : j ≡ 0 * n + j = omega arith in
        get_or-take n ws j 0 m ∙ ap (λ (i : ℕ). get_or ws i 0) z ∙ sym (tabulate-at n (λ i. get_or ws (0 * n + i) 0) 0 j m))

    later : (i j : ℕ) → get_or (drop n ws) (i * n + j) 0 ≡ get_or ws (suc i * n + j) 0
    later i j =
        let z : n + (i * n + j) ≡ suc i * n + j = omega arith in
        get_or-drop n ws (i * n + j) 0 ∙ ap (λ (x : ℕ). get_or ws x 0) z

-- ---- the bits of the inverse

zero_over : (d : ℕ) → 0 / d % 2 ≡ 0
zero_over d = let h = div-le_self 0 d in omega arith

pub binary-at : (l : List ℕ) (r : ℕ) → AllBits l → binary l / 2 ^ r % 2 ≡ get_or l r 0
unfolding binary
binary-at [] r a = zero_over (2 ^ r)
binary-at (v ∷ l) zero a = low v (binary l) (a 0)
  where
    low : (v b : ℕ) → v < 2 → (v + 2 * b) / 1 % 2 ≡ v
    low v b h = omega arith
binary-at (v ∷ l) (suc r) a =
    ap (λ (d : ℕ). (v + 2 * binary l) / d % 2) (pow-succ' 2 r)
    ∙ ap (λ (x : ℕ). x % 2) (sym (div-div-eq-div-mul (v + 2 * binary l) 2 (2 ^ r)))
    ∙ ap (λ (x : ℕ). x / 2 ^ r % 2) (half v (binary l) (a 0))
    ∙ binary-at l r (λ k. a (suc k))
  where
    half : (v b : ℕ) → v < 2 → (v + 2 * b) / 2 ≡ b
    half v b h = omega arith

pub pack-at : (w : ℕ) (vs : List ℕ) (b : ℕ) → b < w → get_or (pack w vs) b 0 ≡ binary (take 8 (drop (8 * b) vs))
unfolding pack
pack-at zero vs b h = absurd (not-suc-le-zero h)
pack-at (suc w) vs zero h = refl
pack-at (suc w) vs (suc b) h =
    let z : 8 + 8 * b ≡ 8 * suc b = omega arith in
    pack-at w (drop 8 vs) b (le_of_suc-le-suc h) ∙ ap (λ (l : List ℕ). binary (take 8 l)) (drop-drop (8 * b) 8 vs ∙ ap (λ (i : ℕ). drop i vs) z)

pub rows_at : (n k : ℕ) (vs : List ℕ) (i b : ℕ) → i < k → b < row_bytes n
    → get_or (pack_rows n k vs) (i * row_bytes n + b) 0 ≡ get_or (pack (row_bytes n) (take n (drop (i * n) vs))) b 0
unfolding pack_rows
rows_at n zero vs i b h l = absurd (not-suc-le-zero h)
rows_at n (suc k) vs zero b h l =
    let g : List ℕ = pack (row_bytes n) (take n vs) in
    let y : 0 * row_bytes n + b ≡ b = omega arith in
    let z : 0 ≡ 0 * n = omega arith in
    ap (λ (j : ℕ). get_or (g ++ pack_rows n k (drop n vs)) j 0) y
    ∙ get_or-append g (pack_rows n k (drop n vs)) 0 b (omega (arith, length-pack (row_bytes n) (take n vs)))
    ∙ ap (λ (j : ℕ). get_or (pack (row_bytes n) (take n (drop j vs))) b 0) z
rows_at n (suc k) vs (suc i) b h l =
    let g : List ℕ = pack (row_bytes n) (take n vs) in
    let y : suc i * row_bytes n + b ≡ length g + (i * row_bytes n + b) = omega (arith, length-pack (row_bytes n) (take n vs)) in
    let z : n + i * n ≡ suc i * n = omega arith in
    ap (λ (j : ℕ). get_or (g ++ pack_rows n k (drop n vs)) j 0) y
    ∙ get_or-append-add g (pack_rows n k (drop n vs)) (i * row_bytes n + b) 0
    ∙ rows_at n k (drop n vs) i b (le_of_suc-le-suc h) l
    ∙ ap (λ (x : List ℕ). get_or (pack (row_bytes n) (take n x)) b 0) (drop-drop (i * n) n vs ∙ ap (λ (j : ℕ). drop j vs) z)

pub entry-bit : (w : List ℕ) (n i j : ℕ) → inverse_entry w n i j < 2
unfolding inverse_entry
entry-bit w n i j = omega arith

-- every bit of a packed row, also a spare one
pub entry-wide : (n : ℕ) (vs : List ℕ) → AllBits vs → (i j : ℕ) → i < n → j < 8 * row_bytes n
    → inverse_entry (pack_rows n n vs) n i j ≡ get_or (take n (drop (i * n) vs)) j 0
unfolding inverse_entry
entry-wide n vs a i j h l =
    let b : ℕ = j / 8 in
    let r : ℕ = j % 8 in
    let x : List ℕ = take n (drop (i * n) vs) in
    let few : r < 8 = omega arith in
    let z : 8 * b + r ≡ j = omega arith in
    ap (λ (y : ℕ). y / 2 ^ r % 2) (rows_at n n vs i b h (omega arith) ∙ pack-at (row_bytes n) x b (omega arith))
    ∙ binary-at (take 8 (drop (8 * b) x)) r (bits-take 8 (drop (8 * b) x) (bits-drop (8 * b) x (bits-take n (drop (i * n) vs) (bits-drop (i * n) vs a))))
    ∙ get_or-take 8 (drop (8 * b) x) r 0 few
    ∙ get_or-drop (8 * b) x r 0
    ∙ ap (λ (k : ℕ). get_or x k 0) z

pub inverse-of : (n : ℕ) (vs : List ℕ) → AllBits vs → (i j : ℕ) → i < n → j < n → inverse_entry (pack_rows n n vs) n i j ≡ get_or vs (i * n + j) 0
inverse-of n vs a i j h l = entry-wide n vs a i j h (omega arith) ∙ get_or-take n (drop (i * n) vs) j 0 l ∙ get_or-drop (i * n) vs j 0
