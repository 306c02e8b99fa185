-- The text of a kit by its lines, and how long it is.
--   spell_pair, spell_row       a line of the lists, a line of the rows, and what follows
--   lines_spelled               lines one after another, and what follows
--   head_spelled                the two lines of a design: `m t M`, and the numbers
--   kit_spelled                 the two lines, `place self parity`, the lines of the lists, `row inverse`, the lines of the rows
--   three-length, chars-length, row-length   the length of a line of three numbers, of a row's characters and of its line
--   length_parts                the length of the text by its parts
--   text-length                 it is the same for every inverse
-- Assumes nothing.
use Prim.Native.Nat.{ℕ, zero, suc, ◌+◌, ◌*◌, ◌%◌, ◌<◌}
use mathlib.Core.Path.{◌≡◌, refl, sym, ap, ap₂, ◌∙◌, subst}
use mathlib.Core.List.{List, [], ◌∷◌, ◌++◌, append-nil, append_assoc}
use native.Mathlib.Omega.{arith}
use native.Mathlib.Nat.{add-zero, zero-add}
use lib.ListN.{length, get_or, length-append}
use Rattle.text_formats.specs.Format.{Item, byte, dec}
use Rattle.text_formats.specs.Items.{bits, lines_from, bits_line, bits_lines, spell}
use Rattle.text_formats.proofs.Parts.{spell_then}
use Rattle.staircase.specs.Lists.{tabulate, concat}
use Rattle.staircase.specs.System.{inverse_entry}
use Rattle.staircase.specs.Rules.{entries}
use Rattle.staircase.proofs.Tabulate.{tabulate-length}
use Rattle.text.specs.KitText.{names, head_bytes, list_names, row_names, pair_tail, pair_line, pair_lines, tail_items, kit_body, kit_values, kit_bytes}
use Rattle.text.specs.KitSpelled.{three_text, pair_at, pairs_text, row_chars, row_text, rows_text}
use Rattle.text.specs.KitWriter.{text_length}
use Rattle.text.proofs.KitValues.{entry-bit}

-- ---- the lines

spell_pair : (p a b : ℕ) (is : List Item) (ws : List ℕ) → spell (pair_line p ++ is) (a ∷ b ∷ ws) ≡ three_text p a b ++ spell is ws
unfolding pair_line three_text
spell_pair p a b is ws = simp append_assoc (spell_then (dec p) (pair_tail ++ is) (a ∷ b ∷ ws))

-- The character of a bit is that of its value.
spell-columns : (n : ℕ) (f : ℕ → ℕ) (is : List Item) (ws : List ℕ) → ((j : ℕ) → f j < 2)
    → spell (bits n ++ is) (tabulate n f ++ ws) ≡ tabulate n (λ j. 48 + f j) ++ spell is ws
unfolding tabulate
spell-columns zero f is ws h = refl
spell-columns (suc n) f is ws h =
    let e : 48 + f zero % 2 ≡ 48 + f zero = omega (arith, h zero) in
    ap₂ (λ (c : ℕ) (t : List ℕ). c ∷ t) e (spell-columns n (λ j. f (suc j)) is ws (λ j. h (suc j)))

spell_row : (n : ℕ) (w : List ℕ) (i : ℕ) (is : List Item) (ws : List ℕ)
    → spell (bits_line n i ++ is) (tabulate n (inverse_entry w n i) ++ ws) ≡ row_text n w i ++ spell is ws
unfolding bits_line row_text row_chars
spell_row n w i is ws =
    simp append_assoc
    (spell_then (dec i) (byte 32 ∷ (bits n ++ (byte 10 ∷ is))) (tabulate n (inverse_entry w n i) ++ ws)
    ∙ ap (λ (t : List ℕ). dec i ++ (32 ∷ t)) (spell-columns n (inverse_entry w n i) (byte 10 ∷ is) ws (entry-bit w n i)))

-- Lines from number p on, one after another, each with its values.
lines_spelled : (line : ℕ → List Item) (k p : ℕ) (values text : ℕ → List ℕ) (is : List Item) (ws : List ℕ)
    → ((i : ℕ) (js : List Item) (vs : List ℕ) → spell (line (i + p) ++ js) (values i ++ vs) ≡ text i ++ spell js vs)
    → spell (lines_from line p k ++ is) (concat k values ++ ws) ≡ concat k text ++ spell is ws
unfolding lines_from concat
lines_spelled line zero p values text is ws one = refl
lines_spelled line (suc k) p values text is ws one =
    let rest : List ℕ = concat k (λ i. values (suc i)) in
    let js : List Item = lines_from line (suc p) k ++ is in
    let first : spell (line p ++ js) (values zero ++ (rest ++ ws)) ≡ text zero ++ spell js (rest ++ ws) =
    subst (λ (q : ℕ). spell (line q ++ js) (values zero ++ (rest ++ ws)) ≡ text zero ++ spell js (rest ++ ws)) (zero-add p)
    (one zero js (rest ++ ws)) in
    ap₂ spell (append_assoc (line p) (lines_from line (suc p) k) is) (append_assoc (values zero) rest ws)
    ∙ first
    ∙ ap (λ (t : List ℕ). text zero ++ t)
    (lines_spelled line k (suc p) (λ i. values (suc i)) (λ i. text (suc i)) is ws
    (λ i js vs.
    let e : suc i + p ≡ i + suc p = omega arith in
    subst (λ (q : ℕ). spell (line q ++ js) (values (suc i) ++ vs) ≡ text (suc i) ++ spell js vs) e (one (suc i) js vs)))
    ∙ sym (append_assoc (text zero) (concat k (λ i. text (suc i))) (spell is ws))

-- ---- the text

-- the two lines
pub head_spelled : (m t M : ℕ) → head_bytes m t M ≡ names ++ three_text m t M
unfolding three_text
head_spelled m t M = refl

-- line by line
pub kit_spelled : (m t M : ℕ) (self parity w : List ℕ) → kit_bytes m t M self parity w
    ≡ head_bytes m t M ++ (list_names ++ (pairs_text (M * (m * t)) self parity ++ (row_names ++ rows_text (M * (m * t)) w)))
unfolding kit_bytes kit_body kit_values pairs_text rows_text pair_at
kit_spelled m t M self parity w =
    let n : ℕ = M * (m * t) in
    let values : ℕ → List ℕ = λ p. get_or (entries n self) p 0 ∷ get_or (entries n parity) p 0 ∷ [] in
    let rows : ℕ → List ℕ = λ i. tabulate n (inverse_entry w n i) in
    let row : (i : ℕ) (js : List Item) (vs : List ℕ) → spell (bits_line n (i + 0) ++ js) (rows i ++ vs) ≡ row_text n w i ++ spell js vs =
    λ i js vs. rw (add-zero i) (spell_row n w i js vs) in
    let pair : (i : ℕ) (js : List Item) (vs : List ℕ) → spell (pair_line (i + 0) ++ js) (values i ++ vs) ≡ pair_at n self parity i ++ spell js vs =
    λ i js vs. rw (add-zero i) (spell_pair i (get_or (entries n self) i 0) (get_or (entries n parity) i 0) js vs) in
    let last : spell (bits_lines n 0 n) (concat n rows) ≡ rows_text n w =
    sym (ap₂ spell (append-nil (bits_lines n 0 n)) (append-nil (concat n rows))) ∙ lines_spelled (bits_line n) n 0 rows (row_text n w) [] [] row
    ∙ append-nil (concat n (row_text n w)) in
    ap (λ (x : List ℕ). head_bytes m t M ++ x)
    (spell_then list_names (pair_lines 0 n ++ tail_items n) (concat n values ++ concat n rows)
    ∙ ap (λ (t : List ℕ). list_names ++ t)
    (lines_spelled pair_line n 0 values (pair_at n self parity) (tail_items n) (concat n rows) pair
    ∙ ap (λ (t : List ℕ). pairs_text n self parity ++ t)
    (spell_then row_names (bits_lines n 0 n) (concat n rows) ∙ ap (λ (t : List ℕ). row_names ++ t) last)))

-- ---- its length

pub three-length : (a b c : ℕ) → length (three_text a b c) ≡ length (dec a) + (length (dec b) + length (dec c)) + 3
unfolding three_text
three-length a b c =
    let first = length-append (dec a) (32 ∷ (dec b ++ (32 ∷ (dec c ++ (10 ∷ []))))) in
    let second = length-append (dec b) (32 ∷ (dec c ++ (10 ∷ []))) in
    omega (arith, first, second, length-append (dec c) (10 ∷ []))

pub chars-length : (n : ℕ) (w : List ℕ) (i : ℕ) → length (row_chars n w i) ≡ n
unfolding row_chars
chars-length n w i = tabulate-length n (λ j. 48 + inverse_entry w n i j)

pub row-length : (n : ℕ) (w : List ℕ) (i : ℕ) → length (row_text n w i) ≡ length (dec i) + n + 2
unfolding row_text
row-length n w i =
    omega (arith, length-append (dec i) (32 ∷ (row_chars n w i ++ (10 ∷ []))), length-append (row_chars n w i) (10 ∷ []), chars-length n w i)

-- lists of the same lengths, one after the other
lengths_same : (n : ℕ) (f g : ℕ → List ℕ) → ((k : ℕ) → length (f k) ≡ length (g k)) → length (concat n f) ≡ length (concat n g)
unfolding concat
lengths_same zero f g h = refl
lengths_same (suc n) f g h =
    omega (
      arith,
      length-append (f zero) (concat n (λ k. f (suc k))),
      length-append (g zero) (concat n (λ k. g (suc k))),
      h zero,
      lengths_same n (λ k. f (suc k)) (λ k. g (suc k)) (λ k. h (suc k)),
    )

rows-length : (n : ℕ) (v w : List ℕ) → length (rows_text n v) ≡ length (rows_text n w)
unfolding rows_text
rows-length n v w = lengths_same n (row_text n v) (row_text n w) (λ i. row-length n v i ∙ sym (row-length n w i))

pub length_parts : (m t M : ℕ) (self parity w : List ℕ) → length (kit_bytes m t M self parity w)
    ≡ length (three_text m t M) + 24 + (length (pairs_text (M * (m * t)) self parity) + 12 + length (rows_text (M * (m * t)) w))
length_parts m t M self parity w =
    let n : ℕ = M * (m * t) in
    let rows : List ℕ = row_names ++ rows_text n w in
    let pairs : List ℕ = pairs_text n self parity ++ rows in
    let h = ap length (head_spelled m t M) ∙ length-append names (three_text m t M) in
    let a = length-append (head_bytes m t M) (list_names ++ pairs) in
    let b = length-append list_names pairs in
    let c = length-append (pairs_text n self parity) rows in
    let d = length-append row_names (rows_text n w) in
    ap length (kit_spelled m t M self parity w) ∙ omega (arith, h, a, b, c, d)

-- "the length of a kit's text", whatever the inverse is
pub text-length : (m t M : ℕ) (self parity w : List ℕ) → length (kit_bytes m t M self parity w) ≡ text_length m t M self parity
unfolding text_length
text-length m t M self parity w =
    omega (arith, length_parts m t M self parity w, length_parts m t M self parity [], rows-length (M * (m * t)) w [])
