-- Lines put together from their parts, and the text from its lines.
--   three_short                       how long the digits of three numbers are at most
--   three_put, head_put, row_put      a line of three numbers, the two lines with the names behind them, the line of a row
--   head_length                       how long the two lines with the names behind them are
--   pair_is                           the line of a place, by the entries that the code reads
--   columns-chars                     the characters that the code makes of a row are those of the row
--   sets-whole                        bytes written over all of a buffer
--   kit-length, parts_length          the length of a kit's text by that of its parts
--   kit-put                           the lines of a kit, one put behind another in a buffer of the text's length, are its text
-- Assumes nothing.
use Prim.Native.Nat.{ℕ, ◌+◌, ◌*◌, ◌/◌, ◌%◌, ◌^◌, ◌≤◌, ◌<◌}
use mathlib.Core.Path.{◌≡◌, refl, sym, ap, ap₂, ◌∙◌, subst₃}
use mathlib.Core.List.{List, [], ◌∷◌, ◌++◌, append-nil, append_assoc}
use native.Mathlib.Omega.{arith}
use lib.ListN.{length, get_or, length-append, drop_of_length-le}
use lib.Seq.{sets, sets-eq}
use Rattle.text_formats.specs.Format.{dec}
use Rattle.staircase.specs.Lists.{tabulate}
use Rattle.staircase.specs.System.{row_bytes, inverse_entry}
use Rattle.text_lines.proofs.Decimal.{dec-short}
use Rattle.text_lines.proofs.Storing.{put_then}
use Rattle.text_lines.proofs.Placing.{put_snoc, put-part, last_part}
use Rattle.text.specs.KitText.{names, head_bytes, list_names, row_names, kit_bytes}
use Rattle.text.specs.KitSpelled.{three_text, pair_at, pairs_text, row_chars, row_text, rows_text}
use Rattle.text.specs.KitWriter.{text_length}
use Rattle.text.proofs.Bytes.{entry-at}
use Rattle.text.proofs.KitSpelled.{kit_spelled, chars-length, length_parts}

-- ---- lines

-- No number has more than twenty digits.
pub three_short : (a b c : ℕ) → length (dec a) + (length (dec b) + length (dec c)) ≤ 60
three_short a b c = omega (arith, dec-short a, dec-short b, dec-short c)

pub three_put : (o : List ℕ) (at a b c : ℕ) {o₁ o₂ o₃ : List ℕ} {i j r : ℕ}
    → (i ≡ at + (length (dec a) + 1)) × (o₁ ≡ sets o at (dec a ++ (32 ∷ [])))
    → (j ≡ i + (length (dec b) + 1)) × (o₂ ≡ sets o₁ i (dec b ++ (32 ∷ [])))
    → (r ≡ j + (length (dec c) + 1)) × (o₃ ≡ sets o₂ j (dec c ++ (10 ∷ [])))
    → (r ≡ at + length (three_text a b c)) × (o₃ ≡ sets o at (three_text a b c))
unfolding three_text
three_put o at a b c {o₁} {o₂} {o₃} {i} {j} {r} p q s =
    put-part o (dec a) 32 at (length (dec a)) (dec b ++ (32 ∷ (dec c ++ (10 ∷ [])))) refl p
    (put-part o₁ (dec b) 32 i (length (dec b)) (dec c ++ (10 ∷ [])) refl q (last_part (dec c) 10 j (length (dec c)) refl s.0, s.1))

pub head_length : (m t M : ℕ) → length (head_bytes m t M ++ list_names) ≡ 6 + length (three_text m t M) + 18
unfolding three_text
head_length m t M = omega (arith, length-append (head_bytes m t M) list_names)

pub head_put : (o : List ℕ) (at m t M : ℕ) {o₁ o₂ o₃ : List ℕ} {i j r : ℕ}
    → (i ≡ at + length names) × (o₁ ≡ sets o at names)
    → (j ≡ i + length (three_text m t M)) × (o₂ ≡ sets o₁ i (three_text m t M))
    → (r ≡ j + length list_names) × (o₃ ≡ sets o₂ j list_names)
    → (r ≡ at + length (head_bytes m t M ++ list_names)) × (o₃ ≡ sets o at (head_bytes m t M ++ list_names))
unfolding three_text
head_put o at m t M p q s = put_then o (names ++ three_text m t M) list_names at (put_then o names (three_text m t M) at p q) s

-- The line of a place with the entries that the code reads there.
pub pair_is : (n : ℕ) (own parity : List ℕ) (p : ℕ) {a b : ℕ} → p < n → a ≡ get_or own (2 * p) 0 + 256 * get_or own (2 * p + 1) 0
    → b ≡ get_or parity (2 * p) 0 + 256 * get_or parity (2 * p + 1) 0 → three_text p a b ≡ pair_at n own parity p
unfolding pair_at
pair_is n own parity p h e f = ap₂ (λ (x y : ℕ). three_text p x y) (e ∙ entry-at n own p h) (f ∙ entry-at n parity p h)

pub columns-chars : (n : ℕ) (w : List ℕ) (i : ℕ) → tabulate n (λ j. 48 + get_or w (i * row_bytes n + j / 8) 0 / 2 ^ (j % 8) % 2) ≡ row_chars n w i
unfolding row_chars inverse_entry
columns-chars n w i = refl

pub row_put : (o : List ℕ) (at n : ℕ) (w : List ℕ) (i : ℕ) {o₁ o₂ o₃ : List ℕ} {p q r : ℕ}
    → (p ≡ at + (length (dec i) + 1)) × (o₁ ≡ sets o at (dec i ++ (32 ∷ [])))
    → (q ≡ p + n) × (o₂ ≡ sets o₁ p (tabulate n (λ j. 48 + get_or w (i * row_bytes n + j / 8) 0 / 2 ^ (j % 8) % 2)))
    → (r ≡ q + 1) × (o₃ ≡ sets o₂ q (10 ∷ []))
    → (r ≡ at + length (row_text n w i)) × (o₃ ≡ sets o at (row_text n w i))
unfolding row_text
row_put o at n w i {o₁} {o₂} {o₃} {p} {q} {r} a b c =
    let long : length (row_chars n w i) ≡ n = chars-length n w i in
    let s = put_snoc o₁ (row_chars n w i) 10 p n long (b.0, b.1 ∙ ap (sets o₁ p) (columns-chars n w i)) c in
    put-part o (dec i) 32 at (length (dec i)) (row_chars n w i ++ (10 ∷ [])) refl a (last_part (row_chars n w i) 10 p n long s.0, s.1)

-- ---- the text

pub sets-whole : (o t : List ℕ) → length o ≡ length t → sets o 0 t ≡ t
sets-whole o t e =
    let h : 0 + length t ≤ length o = omega arith in
    let k : length o ≤ 0 + length t = omega arith in
    sets-eq t o 0 h ∙ ap (λ (l : List ℕ). t ++ l) (drop_of_length-le o k) ∙ append-nil t

-- The numbers x, y, z and n that the code has are those of the design.
module _ (m t M : ℕ) (own parity w : List ℕ) {x y z n : ℕ} (a : x ≡ m) (b : y ≡ t) (c : z ≡ M) (e : n ≡ M * (m * t)) where
  pub kit-length : {p q r : ℕ} → p ≡ length (three_text x y z) → q ≡ length (pairs_text n own parity) → r ≡ length (rows_text n [])
      → p + 24 + (q + 12 + r) ≡ text_length m t M own parity
  unfolding text_length
  kit-length {p} {q} {r} f g h =
      let f' : p ≡ length (three_text m t M) = f ∙ subst₃ (λ (i j k : ℕ). length (three_text x y z) ≡ length (three_text i j k)) a b c refl in
      let g' : q ≡ length (pairs_text (M * (m * t)) own parity) = g ∙ ap (λ (k : ℕ). length (pairs_text k own parity)) e in
      let h' : r ≡ length (rows_text (M * (m * t)) []) = h ∙ ap (λ (k : ℕ). length (rows_text k [])) e in
      omega (arith, f', g', h', length_parts m t M own parity [])

  -- the text by the parts that the code writes
  parts : (head_bytes x y z ++ list_names) ++ (pairs_text n own parity ++ (row_names ++ rows_text n w)) ≡ kit_bytes m t M own parity w
  parts =
      subst₃ (λ (i j k : ℕ). (head_bytes x y z ++ list_names) ++ (pairs_text n own parity ++ (row_names ++ rows_text n w))
      ≡ (head_bytes i j k ++ list_names) ++ (pairs_text n own parity ++ (row_names ++ rows_text n w))) a b c refl
      ∙ ap (λ (k : ℕ). (head_bytes m t M ++ list_names) ++ (pairs_text k own parity ++ (row_names ++ rows_text k w))) e
      ∙ append_assoc (head_bytes m t M) list_names (pairs_text (M * (m * t)) own parity ++ (row_names ++ rows_text (M * (m * t)) w))
      ∙ sym (kit_spelled m t M own parity w)

  pub parts_length : length (head_bytes x y z ++ list_names) + (length (pairs_text n own parity) + (12 + length (rows_text n w)))
      ≡ length (kit_bytes m t M own parity w)
  parts_length =
      let f = length-append (head_bytes x y z ++ list_names) (pairs_text n own parity ++ (row_names ++ rows_text n w)) in
      let g = length-append (pairs_text n own parity) (row_names ++ rows_text n w) in
      let h = length-append row_names (rows_text n w) in
      omega (arith, f, g, h, ap length parts)

  pub kit-put : (o : List ℕ) {o₁ o₂ o₃ o₄ : List ℕ} {i j k l : ℕ} → length o ≡ length (kit_bytes m t M own parity w)
      → (i ≡ 0 + length (head_bytes x y z ++ list_names)) × (o₁ ≡ sets o 0 (head_bytes x y z ++ list_names))
      → (j ≡ i + length (pairs_text n own parity)) × (o₂ ≡ sets o₁ i (pairs_text n own parity))
      → (k ≡ j + length row_names) × (o₃ ≡ sets o₂ j row_names)
      → (l ≡ k + length (rows_text n w)) × (o₄ ≡ sets o₃ k (rows_text n w))
      → o₄ ≡ kit_bytes m t M own parity w
  kit-put o {o₁} {o₂} {o₃} {o₄} {i} {j} {k} {l} long f g h u =
      let rest : List ℕ = pairs_text n own parity ++ (row_names ++ rows_text n w) in
      let all =
      put_then o (head_bytes x y z ++ list_names) rest 0 f
      (put_then o₁ (pairs_text n own parity) (row_names ++ rows_text n w) i g (put_then o₂ row_names (rows_text n w) j h u)) in
      all.1 ∙ ap (sets o 0) parts ∙ sets-whole o (kit_bytes m t M own parity w) long
