-- The lines of a kit text: how many values they have, and the lists and the inverse that these make.
--   tidy_pair_line                a line of the lists is tidy
--   PairIs, pair_is              the values of a line of the lists, and its bytes
--   pairs_count, pairs_walked    2 values a line of the lists
--   rows-count                   n values a line of the rows
--   self-shown .. inverse-shown  the lists and the inverse of a text, by the values of its lines
-- Assumes nothing.
use Prim.Native.Nat.{ℕ, ◌*◌, ◌≤◌, ◌<◌}
use mathlib.Core.Path.{◌≡◌, refl, ap, ◌∙◌}
use mathlib.Core.List.{List, [], ◌∷◌, ◌++◌}
use native.Mathlib.Omega.{arith}
use lib.ListN.{length, take}
use lib.Seq.{take_at, drop_at}
use Rattle.text_formats.specs.Format.{is_digit, dec}
use Rattle.text_formats.specs.Items.{lits, past, walk, spell, Fit, bits_line, bits_lines}
use Rattle.text_formats.proofs.Spelling.{Tidy, tidy_append, tidy_dec, tidy_oks, walk-sound, spell-lits}
use Rattle.text_formats.proofs.Takes.{takes, fit_length, takes_append, takes_lits, line_takes}
use Rattle.text_formats.proofs.Lines.{lines_tidy, lines-take}
use Rattle.text_formats.proofs.Parts.{Split, fit-split, fit_none}
use Rattle.text.specs.Rules.{values_of}
use Rattle.staircase.specs.Design.{order}
use Rattle.text.specs.KitText.{pair_tail, pair_line, pair_lines}
use Rattle.text.specs.KitReader.{firsts, seconds, packs, pack_rows, kit_params, body_scan, self_of, parity_of, inverse_of}

-- ---- the lists' lines

pub tidy_pair_line : (p : ℕ) → p < 10000 → Tidy (pair_line p)
unfolding pair_line is_digit
tidy_pair_line p h = tidy_append (lits (dec p)) pair_tail (tidy_dec p h) (omega arith, (refl, omega arith, (refl, omega arith, tt)))

-- the values of a line, and its bytes
pub record PairIs (p : ℕ) (ws : List ℕ) : Type 0 where
  pub a : ℕ
  pub b : ℕ
  pub a_small : a < 10000
  pub b_small : b < 10000
  pub both : ws ≡ a ∷ b ∷ []
  pub spelt : spell (pair_line p) ws ≡ dec p ++ (32 ∷ (dec a ++ (32 ∷ (dec b ++ (10 ∷ [])))))

tail-is : (ws : List ℕ) → Fit pair_tail ws → (a : ℕ) × (b : ℕ) × (a < 10000) × (b < 10000) × (ws ≡ a ∷ b ∷ [])
tail-is [] h = absurd h
tail-is (a ∷ []) h = absurd h.1
tail-is (a ∷ b ∷ []) h = (a, b, h.0, h.1.0, refl)
tail-is (a ∷ b ∷ c ∷ ws) h = absurd h.1.1

pub pair_is : (p : ℕ) (ws : List ℕ) → Fit (pair_line p) ws → PairIs p ws
unfolding pair_line
pair_is p ws h = go (fit-split (lits (dec p)) pair_tail ws h)
  where
    go : Split (lits (dec p)) pair_tail ws → PairIs p ws
    go S =
        let n : S.us ≡ [] = fit_none (dec p) S.us S.left in
        let (a, b, k, l, e) = tail-is S.vs S.right in
        record {
          a = a;
          b = b;
          a_small = k;
          b_small = l;
          both = S.all ∙ ap (λ (z : List ℕ). z ++ S.vs) n ∙ e;
          spelt =
              S.spelt ∙ ap (λ (z : List ℕ). spell (lits (dec p)) z ++ spell pair_tail S.vs) n
              ∙ ap (λ (z : List ℕ). z ++ spell pair_tail S.vs) (spell-lits (dec p))
              ∙ ap (λ (z : List ℕ). dec p ++ spell pair_tail z) e;
        }

pair_takes : (p : ℕ) → takes (pair_line p) ≡ 2
unfolding pair_line takes
pair_takes p = omega (arith, takes_append (lits (dec p)) pair_tail, takes_lits (dec p))

pub pairs_count : (n p : ℕ) (ws : List ℕ) → Fit (pair_lines p n) ws → length ws ≡ 2 * n
pairs_count n p ws h = omega (arith, fit_length (pair_lines p n) ws h, lines-take pair_line 2 n p pair_takes)

pub pairs_walked : (n : ℕ) (s : List ℕ) (at : ℕ) (ws : List ℕ) (q : ℕ) → n ≤ 10000 → walk (pair_lines 0 n) s at ≡ past ws q → length ws ≡ 2 * n
pairs_walked n s at ws q h e =
    pairs_count n 0 ws (walk-sound (pair_lines 0 n) s at ws q (tidy_oks (pair_lines 0 n) (lines_tidy pair_line n 0 (omega arith) tidy_pair_line)) e).fit

-- ---- the rows' lines

pub rows-count : (n k p : ℕ) (ws : List ℕ) → Fit (bits_lines n p k) ws → length ws ≡ k * n
rows-count n k p ws h = fit_length (bits_lines n p k) ws h ∙ lines-take (bits_line n) n k p (line_takes n)

-- ---- the lists and the inverse

-- n is M × r, ps and rs are the values of the lists' lines and of the rows' lines
module _ (s : List ℕ) (n : ℕ) (ps rs : List ℕ) (on : order (kit_params s) ≡ n) (vs : values_of (body_scan s) ≡ ps ++ rs) (count : length ps ≡ 2 * n) where
  lists_shown : take (2 * order (kit_params s)) (values_of (body_scan s)) ≡ ps
  lists_shown = rw (on, vs) (take_at ps rs (2 * n) count)

  pub self-shown : self_of s ≡ packs (firsts ps)
  unfolding self_of
  self-shown = ap (λ (l : List ℕ). packs (firsts l)) lists_shown

  pub parity-shown : parity_of s ≡ packs (seconds ps)
  unfolding parity_of
  parity-shown = ap (λ (l : List ℕ). packs (seconds l)) lists_shown

  pub inverse_shown : inverse_of s ≡ pack_rows n n rs
  unfolding inverse_of
  inverse_shown = rw (on, vs) (ap (pack_rows n n) (drop_at ps rs (2 * n) count))
