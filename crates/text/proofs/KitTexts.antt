-- Texts that are the two lines of a design and some items, as kit texts are: the scan of the rest, after the two lines, is the scan of the whole text of
-- their numbers, and its place is the longest start that such a text of any design shares.
--   tidy_head, oks_head        the two lines are clear
--   Small                      numbers that such a text can have
--   head_place                 the place of the two lines
--   head_three, head_passed    the two lines have three numbers, of one to four digits
--   head_found                 two lines at the start of a text are found there
--   headed, HeadedText         two lines and items, as a format, and the texts of some designs
--   headed_clear, headed_starts, headed_rest   it is clear; its texts start with the two lines; the scan of the rest is that of the whole
--   headed_place               the place of a refusal
--   tidy_body, clear_kit, kit-rest   the same of kit texts
-- Assumes nothing.
use Prim.Native.Nat.{ℕ, ◌+◌, ◌-◌, ◌*◌, ◌≤◌, ◌<◌}
use mathlib.Core.Path.{◌≡◌, refl, sym, ap, ◌∙◌}
use mathlib.Core.List.{List, [], ◌∷◌, ◌++◌, append_assoc}
use native.Mathlib.Omega.{arith}
use native.Mathlib.Decide.{dec_lt}
use lib.ListN.{length, get_or, take, drop}
use lib.Seq.{take-append-add}
use Rattle.text_formats.specs.Format.{is_digit, Item, Format, end, Renders, Text, Shares, Longest, Scan, refused, read, scan, Clear}
use Rattle.text_formats.specs.Items.{lits, seq, Walk, stuck, past, walk, spell, Fit, bits_line, bits_lines, moved, scan_at}
use Rattle.text_formats.proofs.Parts.{fit_none}
use Rattle.text_formats.proofs.Scan.{scan_longest}
use Rattle.text_formats.proofs.Spelling.{renders_seq, Spelt, Tidy, Oks, clear_seq, tidy_append, tidy_bits_line, tidy_oks, oks_bytes, scan-seq, scan-whole, continue, prefix_nil, walk-spell, walk-sound, Passed, spell-lits, fit-lits}
use Rattle.text_formats.proofs.Lines.{lines_tidy}
use Rattle.text.specs.KitText.{head_items, head_format, head_bytes, list_names, row_names, pair_line, pair_lines, kit_body, kit_format, tail_items, rest_format}
use Rattle.text.proofs.KitCounting.{tidy_pair_line}

-- ---- the two lines

pub tidy_head : Tidy head_items
unfolding is_digit
tidy_head =
    (omega arith, (omega arith, (omega arith, (omega arith, (omega arith, (omega arith, (refl, omega arith, (refl, omega arith, (refl, omega arith, tt)))))))))

pub oks_head : Oks head_items
oks_head = tidy_oks head_items tidy_head

clear_head : Clear head_format
clear_head = clear_seq head_items (end 0) tidy_head tt

pub head_place : (s : List ℕ) (q : ℕ) → walk head_items s 0 ≡ stuck q → Longest (Text head_format) s q
head_place s q e =
    scan_longest head_format s q clear_head
    (sym (scan-whole head_format s) ∙ scan-seq head_items (end 0) s 0 ∙ ap (λ (w : Walk). continue w (λ r. scan_at (end 0) s r)) e)

pub head_three : (s ws : List ℕ) (q : ℕ) → walk head_items s 0 ≡ past ws q → ws ≡ get_or ws 0 0 ∷ get_or ws 1 0 ∷ get_or ws 2 0 ∷ []
head_three s ws q e = go ws (walk-sound head_items s 0 ws q oks_head e).fit
  where
    go : (ws : List ℕ) → Fit head_items ws → ws ≡ get_or ws 0 0 ∷ get_or ws 1 0 ∷ get_or ws 2 0 ∷ []
    go [] f = absurd f
    go (a ∷ []) f = absurd f.1
    go (a ∷ b ∷ []) f = absurd f.1.1
    go (a ∷ b ∷ c ∷ []) f = refl
    go (a ∷ b ∷ c ∷ d ∷ ws) f = absurd f.1.1.1

pub head_found : (m t M : ℕ) (x r : List ℕ) → m < 10000 → t < 10000 → M < 10000 → x ≡ head_bytes m t M ++ r
    → walk head_items x 0 ≡ past (m ∷ t ∷ M ∷ []) (0 + length (head_bytes m t M))
head_found m t M x r a b c e = walk-spell head_items (m ∷ t ∷ M ∷ []) r x 0 tidy_head (a, (b, (c, tt))) e

-- ---- the whole format

-- The numbers that a kit text can have.
pub record Small (m t M : ℕ) : Type 0 where
  pub hm : m < 10000
  pub ht : t < 10000
  pub h_m : M < 10000
  pub hn : M * (m * t) ≤ 10000

-- ---- two lines, and items behind them

abbrev pub headed : (ℕ → List Item) → ℕ → ℕ → ℕ → Format
headed body m t M = seq (lits (head_bytes m t M)) (seq (body (M * (m * t))) (end 0))

abbrev pub HeadedText : (ℕ → List Item) → (ℕ → ℕ → ℕ → Type 0) → List ℕ → Type 0
HeadedText body D s = (m : ℕ) × (t : ℕ) × (M : ℕ) × D m t M × Text (headed body m t M) s

-- fixed bytes at the start of a text are passed
lits-pass : (b s : List ℕ) (q : ℕ) → Tidy (lits b) → s ≡ b ++ drop q s → q ≡ 0 + length b → walk (lits b) s 0 ≡ past [] q
lits-pass b s q h e f =
    let z : 0 + length (spell (lits b) []) ≡ q = rw (spell-lits b) (sym f) in
    walk-spell (lits b) [] (drop q s) s 0 h (fit-lits b) (rw (spell-lits b) e) ∙ ap (λ (n : ℕ). past [] n) z

-- a text of fixed bytes and a rest starts with the bytes
lits-text : (b : List ℕ) (F : Format) (L : ℕ) (vs x : List ℕ) → Renders (seq (lits b) F) L vs x → (r : List ℕ) × (x ≡ b ++ r)
lits-text b F L vs x r = go (renders_seq (lits b) F L vs x r)
  where
    go : Spelt (lits b) F L vs x → (r : List ℕ) × (x ≡ b ++ r)
    go (ws, us, t, h, e, f, g) = (t, rw (f, fit_none b ws h, spell-lits b))

-- such a text starts with the two lines of its design
pub headed_starts : (body : ℕ → List Item) (m t M : ℕ) (s : List ℕ) → Text (headed body m t M) s → (r : List ℕ) × (s ≡ head_bytes m t M ++ r)
headed_starts body m t M s (L, vs, r) = lits-text (head_bytes m t M) (seq (body (M * (m * t))) (end 0)) L vs s r

pub headed_clear : (body : ℕ → List Item) (m t M : ℕ) → Small m t M → Tidy (body (M * (m * t))) → Clear (headed body m t M)
headed_clear body m t M k tidy =
    clear_seq (lits (head_bytes m t M)) (seq (body (M * (m * t))) (end 0)) (oks_bytes head_items (m ∷ t ∷ M ∷ []) oks_head (k.hm, (k.ht, (k.h_m, tt))))
    (clear_seq (body (M * (m * t))) (end 0) tidy tt)

-- a start of s that holds its first bytes b goes on from them
start_holds : (b s u : List ℕ) (q j : ℕ) → s ≡ b ++ drop q s → q ≡ 0 + length b → q ≤ j → (r : List ℕ) × (take j s ++ u ≡ b ++ r)
start_holds b s u q j e f h =
    let o : ℕ = j - q in
    let z : j ≡ length b + o = omega arith in (
      take o (drop q s) ++ u,
      ap (λ (n : ℕ). take n s ++ u) z ∙ ap (λ (y : List ℕ). take (length b + o) y ++ u) e ∙ ap (λ (y : List ℕ). y ++ u) (take-append-add b (drop q s) o)
          ∙ append_assoc b (take o (drop q s)) u,
    )

-- ---- the rest, behind two lines that were found

module _ (s : List ℕ) (m t M q : ℕ) (e : walk head_items s 0 ≡ past (m ∷ t ∷ M ∷ []) q) where
  pub head_passed : Passed head_items s 0 (m ∷ t ∷ M ∷ []) q
  head_passed = walk-sound head_items s 0 (m ∷ t ∷ M ∷ []) q oks_head e

  -- the numbers of the two lines have one to four digits
  pub head_small : (m < 10000) × (t < 10000) × (M < 10000)
  head_small = let f = head_passed.fit in (f.0, f.1.0, f.1.1.0)

  head_lits : walk (lits (head_bytes m t M)) s 0 ≡ past [] q
  head_lits =
      lits-pass (head_bytes m t M) s q (oks_bytes head_items (m ∷ t ∷ M ∷ []) oks_head head_passed.fit) head_passed.spelt head_passed.moves

  -- the scan of the rest is that of the whole
  pub headed_rest : (body : ℕ → List Item) → scan (headed body m t M) s ≡ scan_at (seq (body (M * (m * t))) (end 0)) s q
  headed_rest body =
      let F : Format = seq (body (M * (m * t))) (end 0) in
      sym (scan-whole (headed body m t M) s) ∙ scan-seq (lits (head_bytes m t M)) F s 0
      ∙ ap (λ (w : Walk). continue w (λ r. scan_at F s r)) head_lits
      ∙ prefix_nil (scan_at F s q)

  module _ (body : ℕ → List Item) (small : Small m t M) (tidy : Tidy (body (M * (m * t)))) where
    after_head : (x : Scan) (k : ℕ) → moved q x ≡ refused k → q ≤ k
    after_head (refused j) k f = let z : q + j ≡ k = cc in omega arith
    after_head (read l vs) k f = let z : ◌≡◌ {A = ℕ} 0 1 = cc in absurd (omega arith)

    -- The place is the longest start that such a text of any design in D shares.
    pub headed_place : (D : ℕ → ℕ → ℕ → Type 0) → ((m t M : ℕ) → D m t M → Small m t M) → D m t M
        → (k : ℕ) → scan_at (seq (body (M * (m * t))) (end 0)) s q ≡ refused k → Longest (HeadedText body D) s k
    unfolding scan_at
    headed_place D ds d k f =
        record {
          shared = let (l, x) = one.shared in let (u, y) = x in (l, (u, (m, t, M, d, y)));
          most = λ j h. go j h (dec_lt k j);
        }
      where
        one : Longest (Text (headed body m t M)) s k
        one = scan_longest (headed body m t M) s k (headed_clear body m t M small tidy) (headed_rest body ∙ f)

        same : (j : ℕ) (u : List ℕ) (m' t' M' : ℕ) → D m' t' M' → Text (headed body m' t' M') (take j s ++ u) → k < j → Text (headed body m t M) (take j s ++ u)
        same j u m' t' M' d' y o =
            let x : List ℕ = take j s ++ u in
            let n = headed_starts body m' t' M' x y in
            let g = ds m' t' M' d' in
            let w : walk head_items x 0 ≡ past (m' ∷ t' ∷ M' ∷ []) (0 + length (head_bytes m' t' M')) =
            head_found m' t' M' x n.0 g.hm g.ht g.h_m n.1 in
            let p =
            start_holds (head_bytes m t M) s u q j head_passed.spelt head_passed.moves
            (omega (arith, after_head (scan (seq (body (M * (m * t))) (end 0)) (drop q s)) k f)) in
            let v : walk head_items x 0 ≡ past (m ∷ t ∷ M ∷ []) (0 + length (head_bytes m t M)) =
            head_found m t M x p.0 head_small.0 head_small.1 head_small.2 p.1
            in
            let em : m' ≡ m = cc in
            let et : t' ≡ t = cc in
            let e_m : M' ≡ M = cc in
            mathlib.Core.Path.subst₃ (λ (a b c : ℕ). Text (headed body a b c) x) em et e_m y

        go : (j : ℕ) → Shares (HeadedText body D) s j → Dec (k < j) → j ≤ k
        go j h (no o) = omega arith
        go j (l, (u, (m', t', M', d', x))) (yes o) = one.most j (l, (u, same j u m' t' M' d' x o))

-- ---- kit texts

pub tidy_body : (n : ℕ) → n ≤ 10000 → Tidy (kit_body n)
unfolding kit_body
tidy_body n h =
    tidy_append (lits list_names) (pair_lines 0 n ++ tail_items n) (omega arith)
    (tidy_append (pair_lines 0 n) (tail_items n) (lines_tidy pair_line n 0 (omega arith) tidy_pair_line)
    (tidy_append (lits row_names) (bits_lines n 0 n) (omega arith) (lines_tidy (bits_line n) n 0 (omega arith) (tidy_bits_line n))))

pub clear_kit : (m t M : ℕ) → Small m t M → Clear (kit_format m t M)
unfolding kit_format
clear_kit m t M k = headed_clear kit_body m t M k (tidy_body (M * (m * t)) k.hn)

pub kit-rest : (s : List ℕ) (m t M q : ℕ) → walk head_items s 0 ≡ past (m ∷ t ∷ M ∷ []) q → scan (kit_format m t M) s ≡ scan_at (rest_format (M * (m * t))) s q
unfolding kit_format
kit-rest s m t M q e = headed_rest s m t M q e kit_body
