-- Words that share no sent site: correcting one leaves the other's bits.
--   Apart w v             no sent site stands in both words
--   correction_in         a correction flips sent sites of its word
--   correction-apart, correct_words-apart   words that are apart from all corrected ones keep their bits
--   rows_apart, columns-apart              the row words of a group are apart, and so are its column words
--   rows-before-apart, columns-before-apart   a word and those before it
-- Assumes nothing.
use mathlib.Core.Path.{◌≡◌, refl, sym, ap, ◌∙◌, subst}
use mathlib.Core.Bool.{Bool, cond}
use mathlib.Core.Logic.{◌≢◌, inl, inr}
use mathlib.Core.List.{List, [], ◌∷◌, map}
use Prim.Native.Nat.{ℕ, ◌+◌, ◌-◌, ◌*◌, ◌/◌, ◌%◌, ◌≤◌, ◌<◌}
use native.Mathlib.Nat.{add-sub_cancel_left}
use native.Mathlib.Omega.{arith}
use lib.Arith.{digits_lt, digits_div, digits_mod}
use lib.Dec.{ltb}
use lib.ListN.{length, get_or}
use borrow.Author.Tests.{lt-ltb, le-ltb}
use Rattle.staircase.specs.Lists.{tabulate}
use Rattle.staircase.specs.Design.{Params, Interleavers, order}
use Rattle.staircase.specs.Word.{row_info, row_word, column_info, column_word}
use Rattle.staircase.specs.System.{preimage}
use Rattle.staircase.specs.Frame.{Frame, Site, block_at, y_at, p_at, row_sites, column_sites, read}
use Rattle.staircase.specs.Frame.Site.{unsent, in_info, in_red}
use Rattle.staircase.specs.Decoder.{error_positions, correction, flip_all, Progress, correct_word, correct_each, correct_words}
use Rattle.staircase.specs.Demand2.{Permutes}
use Rattle.staircase.proofs.Member.{In, tabulate_in, map_in}
use Rattle.staircase.proofs.Stretches.{four_all}
use Rattle.staircase.proofs.Flip.{Sent, flip_all_other, read_same, read_length, site_in}
use Rattle.staircase.proofs.Occurrences.{permitted_in}
use Rattle.staircase.proofs.Errors.{positions-below, error_positions-positions}
use Rattle.staircase.proofs.Permutation.{preimage-of}
use Rattle.staircase.proofs.System.{Proper, place_lt}
use Rattle.staircase.proofs.Sites.{block-sent}

-- two words share no sent site
abbrev pub Apart : List Site → List Site → Type 0
Apart w v = (y : Site) → Sent y → In y w → ¬ In y v

-- ---- corrections

pub correction_in : (s : Params) (f : Frame) (w : List Site) (y : Site) → In y (correction s f w) → Sent y × In y w
unfolding correction
correction_in s f w y i =
    let e : List ℕ = error_positions s (read f w) in
    let p = permitted_in w (map (λ j. get_or w j unsent) e) y i in
    let q = map_in (λ j. get_or w j unsent) e y p.1 in
    let below : q.0 < length w = subst (λ (n : ℕ). q.0 < n) (read_length f w) (positions-below (error_positions-positions s (read f w)) q.0 q.1) in
    (p.0, subst (λ (x : Site). In x w) (sym q.2) (site_in w q.0 below))

correction-apart : (s : Params) (f : Frame) (w v : List Site) → Apart w v → read (flip_all (correction s f w) f) v ≡ read f v
correction-apart s f w v apart =
    read_same v (flip_all (correction s f w) f) f
    (λ y i. flip_all_other (correction s f w) f y (λ k. let q = correction_in s f w y k in apart y q.0 q.1 i))

pub correct_words-apart : (s : Params) (x : Progress) (ws : List (List Site)) (v : List Site) → ((w : List Site) → In w ws → Apart w v)
    → read (correct_words s x ws).frame v ≡ read x.frame v
unfolding correct_words correct_each correct_word
correct_words-apart s x [] v apart = refl
correct_words-apart s x (w ∷ ws) v apart =
    correct_words-apart s (correct_word s x w) ws v (λ u i. apart u (inr i)) ∙ correction-apart s x.frame w v (apart w (inl refl))

-- ---- the row or the column of a group that a site stands in, from that of a place in a block, in Y and in P

module _ (s : Params) (L i : ℕ) (of_block of_self of_parity : ℕ → ℕ) where
  abbrev start : ℕ
  start = i * (2 * order s)

  abbrev line_of : Site → ℕ
  line_of unsent = 0
  line_of (in_info k) = of_block (k % (s.M * s.M))
  line_of (in_red k) = cond (ltb (k - start) (order s)) (of_self (k - start)) (of_parity (k - (start + order s)))

  block-line : (b k : ℕ) → k < s.M * s.M → Sent (block_at s L b k) → line_of (block_at s L b k) ≡ of_block k
  block-line b k h sent = let p = block-sent s L b k sent in ap line_of p.3 ∙ ap of_block (digits_mod p.0 h)

  self-line : (q : ℕ) → q < order s → line_of (y_at s i q) ≡ of_self q
  self-line q h =
      let other : ℕ = of_parity (start + q - (start + order s)) in
      ap (λ (z : ℕ). cond (ltb z (order s)) (of_self z) other) (add-sub_cancel_left start q) ∙ ap (λ (z : Bool). cond z (of_self q) other) (lt-ltb q (order s) h)

  parity-line : (q : ℕ) → line_of (p_at s i q) ≡ of_parity q
  parity-line q =
      let k : ℕ = start + order s + q in
      ap (λ (z : Bool). cond z (of_self (k - start)) (of_parity (k - (start + order s)))) (le-ltb (k - start) (order s) (omega arith))
      ∙ ap of_parity (add-sub_cancel_left (start + order s) q)

-- words that a line tells apart, and a word and those before it
lines-apart : (line : Site → ℕ) (word : ℕ → List Site) (m : ℕ) → ((a : ℕ) → a < m → (y : Site) → In y (word a) → Sent y → line y ≡ a)
    → (a b : ℕ) → a < m → b < m → a ≢ b → Apart (word a) (word b)
lines-apart line word m h a b ha hb d y sent i j = d (sym (h a ha y i sent) ∙ h b hb y j sent)

before-apart : (word : ℕ → List Site) (m : ℕ) → ((a b : ℕ) → a < m → b < m → a ≢ b → Apart (word a) (word b))
    → (n a : ℕ) → n ≤ a → a < m → (w : List Site) → In w (tabulate n word) → Apart w (word a)
before-apart word m h n a le lt w i =
    let t = tabulate_in n word w i in
    let below : t.0 < n = t.1 in
    subst (λ (v : List Site). Apart v (word a)) (sym t.2) (h t.0 a (omega arith) lt (λ e. omega arith))

module _ (s : Params) (L : ℕ) (l : Interleavers) (ok : Proper s) where
  abbrev column_of : ℕ → Site → ℕ
  column_of i = line_of s L i (λ k. k % s.M) (λ k. k % s.M) (λ k. k % s.M)

  column-line : (i a : ℕ) → a < s.M → (y : Site) → In y (column_sites s L i a) → Sent y → column_of i y ≡ a
  unfolding column_sites column_word column_info
  column-line i a ha =
      let f : ℕ → ℕ = λ k. k % s.M in
      four_all s.M s.r (λ j. block_at s L (2 * i + 1) (j * s.M + a)) (λ j. block_at s L (2 * i + 2) (j * s.M + a))
      (λ b. y_at s i (b * s.M + a)) (λ b. p_at s i (b * s.M + a)) (λ (y : Site). Sent y → column_of i y ≡ a)
      (λ j hj sent. block-line s L i f f f (2 * i + 1) (j * s.M + a) (digits_lt hj ha) sent ∙ digits_mod j ha)
      (λ j hj sent. block-line s L i f f f (2 * i + 2) (j * s.M + a) (digits_lt hj ha) sent ∙ digits_mod j ha)
      (λ b hb sent. self-line s L i f f f (b * s.M + a) (place_lt s ok b a hb ha) ∙ digits_mod b ha)
      (λ b hb sent. parity-line s L i f f f (b * s.M + a) ∙ digits_mod b ha)

  columns-apart : (i a b : ℕ) → a < s.M → b < s.M → a ≢ b → Apart (column_sites s L i a) (column_sites s L i b)
  columns-apart i = lines-apart (column_of i) (column_sites s L i) s.M (column-line i)

  pub columns-before-apart : (i n a : ℕ) → n ≤ a → a < s.M → (w : List Site) → In w (tabulate n (column_sites s L i)) → Apart w (column_sites s L i a)
  columns-before-apart i = before-apart (column_sites s L i) s.M (columns-apart i)

  module _ (ps : Permutes (order s) (λ p. get_or l.self p 0)) (pp : Permutes (order s) (λ p. get_or l.parity p 0)) where
    -- the rows of X and of Q from which the lists send to a place of Y and of P
    abbrev of_self : ℕ → ℕ
    of_self q = preimage l.self (order s) q % s.M

    abbrev of_parity : ℕ → ℕ
    of_parity q = preimage l.parity (order s) q % s.M

    abbrev row_of : ℕ → Site → ℕ
    row_of i = line_of s L i (λ k. k / s.M) of_self of_parity

    row_line : (i a : ℕ) → a < s.M → (y : Site) → In y (row_sites s l L i a) → Sent y → row_of i y ≡ a
    unfolding row_sites row_word row_info
    row_line i a ha =
        let f : ℕ → ℕ = λ k. k / s.M in
        let source : ℕ → ℕ = λ b. b * s.M + a in
        let below : (b : ℕ) → b < s.r → source b < order s = λ b hb. place_lt s ok b a hb ha in
        four_all s.M s.r (λ j. block_at s L (2 * i) (a * s.M + j)) (λ j. block_at s L (2 * i + 1) (a * s.M + j))
        (λ b. y_at s i (get_or l.self (b * s.M + a) 0)) (λ b. p_at s i (get_or l.parity (b * s.M + a) 0)) (λ (y : Site). Sent y → row_of i y ≡ a)
        (λ j hj sent. block-line s L i f of_self of_parity (2 * i) (a * s.M + j) (digits_lt ha hj) sent ∙ digits_div a hj)
        (λ j hj sent. block-line s L i f of_self of_parity (2 * i + 1) (a * s.M + j) (digits_lt ha hj) sent ∙ digits_div a hj)
        (λ b hb sent. self-line s L i f of_self of_parity (get_or l.self (source b) 0) (ps.below (source b) (below b hb))
        ∙ ap (λ (z : ℕ). z % s.M) (preimage-of l.self (order s) ps (source b) (below b hb)) ∙ digits_mod b ha)
        (λ b hb sent. parity-line s L i f of_self of_parity (get_or l.parity (source b) 0)
        ∙ ap (λ (z : ℕ). z % s.M) (preimage-of l.parity (order s) pp (source b) (below b hb)) ∙ digits_mod b ha)

    rows_apart : (i a b : ℕ) → a < s.M → b < s.M → a ≢ b → Apart (row_sites s l L i a) (row_sites s l L i b)
    rows_apart i = lines-apart (row_of i) (row_sites s l L i) s.M (row_line i)

    pub rows-before-apart : (i n a : ℕ) → n ≤ a → a < s.M → (w : List Site) → In w (tabulate n (row_sites s l L i)) → Apart w (row_sites s l L i a)
    rows-before-apart i = before-apart (row_sites s l L i) s.M (rows_apart i)
