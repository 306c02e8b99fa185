-- Block text and group text by their lines, as they are written.
--   blocks-printed, groups-printed    the line of names, and the lines one after another
-- Assumes nothing.
use Prim.Native.Nat.{ℕ, zero, suc, ◌+◌, ◌*◌, ◌%◌, ◌≤◌}
use mathlib.Core.Path.{◌≡◌, refl, ap, ◌∙◌}
use mathlib.Core.List.{List, [], ◌∷◌, ◌++◌, append_assoc}
use native.Mathlib.Omega.{arith}
use lib.ListN.{length, take, drop, length-drop}
use lib.Seq.{drop-drop}
use Rattle.text_formats.specs.Format.{Item, byte, dec}
use Rattle.text_formats.specs.Items.{bits, lines_from, bits_line, bits_lines, spell}
use Rattle.text_formats.proofs.Parts.{spell_then}
use Rattle.text.specs.FrameText.{block_names, group_names, group_line, block_text, group_text}
use Rattle.text_lines.specs.Written.{chars, lines_text, next_block, next_group, block_lines_text, group_lines_text}
use Rattle.text_lines.proofs.Chars.{block-line, group-line}

spell-bits : (n : ℕ) (is : List Item) (vs : List ℕ) → n ≤ length vs → spell (bits n ++ is) vs ≡ chars (take n vs) ++ spell is (drop n vs)
unfolding chars
spell-bits zero is vs h = refl
spell-bits (suc n) is [] h = absurd (omega arith)
spell-bits (suc n) is (v ∷ vs) h = ap (λ (t : List ℕ). (48 + v % 2) ∷ t) (spell-bits n is vs (omega arith))

-- the line of block p, and what follows
block-first : (n p : ℕ) (is : List Item) (vs : List ℕ) → n ≤ length vs → spell (bits_line n p ++ is) vs ≡ next_block n p vs ++ spell is (drop n vs)
unfolding bits_line
block-first n p is vs h =
    rw (block-line p (take n vs))
    (simp append_assoc
    (spell_then (dec p) (byte 32 ∷ (bits n ++ (byte 10 ∷ is))) vs
    ∙ ap (λ (t : List ℕ). dec p ++ (32 ∷ t)) (spell-bits n (byte 10 ∷ is) vs h)))

-- the line of group p, and what follows
group-first : (n p : ℕ) (is : List Item) (vs : List ℕ) → 2 * n ≤ length vs → spell (group_line n p ++ is) vs ≡ next_group n p vs ++ spell is (drop (2 * n) vs)
unfolding group_line
group-first n p is vs h =
    let e : drop n (drop n vs) ≡ drop (2 * n) vs = drop-drop n n vs ∙ ap (λ (k : ℕ). drop k vs) (let q : n + n ≡ 2 * n = omega arith in q) in
    rw (group-line p (take n vs) (take n (drop n vs)))
    (simp append_assoc
    (spell_then (dec p) (byte 32 ∷ (bits n ++ (byte 32 ∷ (bits n ++ (byte 10 ∷ is))))) vs
    ∙ ap (λ (t : List ℕ). dec p ++ (32 ∷ t))
    (spell-bits n (byte 32 ∷ (bits n ++ (byte 10 ∷ is))) vs (omega arith)
    ∙ ap (λ (t : List ℕ). chars (take n vs) ++ (32 ∷ t))
    (spell-bits n (byte 10 ∷ is) (drop n vs) (omega (arith, length-drop n vs))
    ∙ ap (λ (l : List ℕ). chars (take n (drop n vs)) ++ (10 ∷ spell is l)) e))))

-- lines that each take w bits
module _ (line : ℕ → List Item) (text : ℕ → List ℕ → List ℕ) (w : ℕ)
    (one : (p : ℕ) (is : List Item) (vs : List ℕ) → w ≤ length vs → spell (line p ++ is) vs ≡ text p vs ++ spell is (drop w vs)) where
  lines-printed : (k p : ℕ) (vs : List ℕ) → length vs ≡ k * w → spell (lines_from line p k) vs ≡ lines_text text w p k vs
  unfolding lines_from lines_text
  lines-printed zero p vs h = refl
  lines-printed (suc k) p vs h =
      one p (lines_from line (suc p) k) vs (omega arith)
      ∙ ap (λ (t : List ℕ). text p vs ++ t) (lines-printed k (suc p) (drop w vs) (omega (arith, length-drop w vs)))

pub blocks-printed : (area L : ℕ) (info : List ℕ) → length info ≡ L * area → block_text area L info ≡ block_names ++ block_lines_text area 1 L info
unfolding block_text
blocks-printed area L info h =
    spell_then block_names (bits_lines area 1 L) info
    ∙ ap (λ (t : List ℕ). block_names ++ t) (lines-printed (bits_line area) (next_block area) area (λ p is vs l. block-first area p is vs l) L 1 info h)

pub groups-printed : (n G : ℕ) (red : List ℕ) → length red ≡ G * (2 * n) → group_text n G red ≡ group_names ++ group_lines_text n 1 G red
unfolding group_text
groups-printed n G red h =
    spell_then group_names (lines_from (group_line n) 1 G) red
    ∙ ap (λ (t : List ℕ). group_names ++ t) (lines-printed (group_line n) (next_group n) (2 * n) (λ p is vs l. group-first n p is vs l) G 1 red h)
