-- The characters of bits, and the lines by their parts.
--   length-chars, chars-at     how many characters there are, and each of them
--   spell_run                  a run of bits, and what follows
--   block-line, group-line     the line of a block and of a group
-- Assumes nothing.
use Prim.Native.Nat.{ℕ, zero, suc, ◌+◌, ◌%◌, ◌<◌}
use mathlib.Core.Path.{◌≡◌, refl, sym, ap, ◌∙◌}
use mathlib.Core.List.{List, [], ◌∷◌, ◌++◌, append-nil}
use native.Mathlib.Omega.{arith}
use lib.ListN.{length, get_or}
use Rattle.text_formats.specs.Format.{Item, byte, dec}
use Rattle.text_formats.specs.Items.{bits, fields, spell}
use Rattle.text_formats.proofs.Parts.{spell_then}
use Rattle.text.specs.FrameText.{bits_text, group_line_text}
use Rattle.text_lines.specs.Written.{chars}

pub length-chars : (vs : List ℕ) → length (chars vs) ≡ length vs
unfolding chars
length-chars [] = refl
length-chars (v ∷ vs) = ap suc (length-chars vs)

pub chars-at : (vs : List ℕ) (i : ℕ) → i < length vs → get_or (chars vs) i 0 ≡ 48 + get_or vs i 0 % 2
unfolding chars
chars-at [] i h = absurd (omega arith)
chars-at (v ∷ vs) zero h = refl
chars-at (v ∷ vs) (suc i) h = chars-at vs i (omega arith)

pub spell_run : (vs : List ℕ) (is : List Item) (ws : List ℕ) → spell (bits (length vs) ++ is) (vs ++ ws) ≡ chars vs ++ spell is ws
unfolding chars
spell_run [] is ws = refl
spell_run (v ∷ vs) is ws = ap (λ (t : List ℕ). (48 + v % 2) ∷ t) (spell_run vs is ws)

pub block-line : (p : ℕ) (vs : List ℕ) → bits_text p vs ≡ dec p ++ (32 ∷ (chars vs ++ (10 ∷ [])))
unfolding bits_text
block-line p vs =
    spell_then (dec p) (fields (length vs ∷ [])) vs
    ∙ ap (λ (l : List ℕ). dec p ++ (32 ∷ spell (bits (length vs) ++ (byte 10 ∷ [])) l)) (sym (append-nil vs))
    ∙ ap (λ (t : List ℕ). dec p ++ (32 ∷ t)) (spell_run vs (byte 10 ∷ []) [])

pub group-line : (p : ℕ) (ys ps : List ℕ) → group_line_text p ys ps ≡ dec p ++ (32 ∷ (chars ys ++ (32 ∷ (chars ps ++ (10 ∷ [])))))
unfolding group_line_text
group-line p ys ps =
    spell_then (dec p) (fields (length ys ∷ length ps ∷ [])) (ys ++ ps)
    ∙ ap (λ (t : List ℕ). dec p ++ (32 ∷ t)) (spell_run ys (fields (length ps ∷ [])) ps)
    ∙ ap (λ (l : List ℕ). dec p ++ (32 ∷ (chars ys ++ (32 ∷ spell (bits (length ps) ++ (byte 10 ∷ [])) l)))) (sym (append-nil ps))
    ∙ ap (λ (t : List ℕ). dec p ++ (32 ∷ (chars ys ++ (32 ∷ t)))) (spell_run ps (byte 10 ∷ []) [])
