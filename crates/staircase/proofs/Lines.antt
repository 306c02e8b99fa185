-- The lines of a frame: their words, and what stands at each position.
--   even-twice, odd_twice, even_next, line_ind   lines are row lines and column lines
--   line_row, line-column                    the lines of a group
--   concat-tabulate                          lists of M entries, one after the other, by the numbers of their entries
--   words_lines, words-numbered              a frame's words, line by line, and by their numbers
--   red-place, partner_y, partner_p, partner-below, partner_back   the places of the redundancy
--   line_first, line_second, line-red        the sites of a word: block k, block k + 1, redundancy
-- Assumes nothing.
use mathlib.Core.Path.{◌≡◌, refl, sym, ap, ap₂, ◌∙◌, subst}
use mathlib.Core.Bool.{Bool, true, false, not, cond}
use mathlib.Core.List.{List, ◌++◌, append_assoc}
use Prim.Native.Nat.{ℕ, zero, suc, ◌+◌, ◌-◌, ◌*◌, ◌/◌, ◌%◌, ◌≤◌, ◌<◌}
use native.Mathlib.Nat.{zero-add, zero-mul, suc-mul, add-mul, mul_comm, mul_assoc, add_assoc}
use native.Mathlib.Decide.{dec_lt}
use native.Mathlib.Numerals.{add-one}
use native.Mathlib.Omega.{arith}
use lib.Arith.{digits_lt, digits_div, digits_mod}
use lib.Dec.{ltb}
use lib.ListN.{length, get_or}
use borrow.Author.Tests.{eq-eqb, ne_eqb, lt-ltb, le-ltb}
use Rattle.staircase.specs.Lists.{tabulate, concat}
use Rattle.staircase.specs.Design.{Params, Interleavers, word_length, order}
use Rattle.staircase.specs.Frame.{Site, groups, block_at, row_sites, column_sites, row_at, column_at, words}
use Rattle.staircase.specs.Frame.Site.{unsent, in_red}
use Rattle.staircase.specs.Demand2.{Permutes}
use Rattle.staircase.specs.Lines.{even, line_sites, line_word, read_sites, read_from, word_count, frame_word, along, partner}
use Rattle.staircase.proofs.Search.{cond-true, cond-false}
use Rattle.staircase.proofs.Tabulate.{tabulate-same, tabulate-length, tabulate-append, concat_last, concat-same}
use Rattle.staircase.proofs.Permutation.{preimage-sent, preimage-of}
use Rattle.staircase.proofs.System.{Proper, place_lt}
use Rattle.staircase.proofs.Positions.{row_at-before, row_at_odd, row_at-self, row_at-parity, column-at_odd, column-at-even, column-at-self, column-at-parity}

-- ---- row lines and column lines

pub even-twice : (i : ℕ) → even (2 * i) ≡ true
even-twice i = eq-eqb (2 * i % 2) 0 (omega arith)

pub odd_twice : (i : ℕ) → even (2 * i + 1) ≡ false
odd_twice i = ne_eqb ((2 * i + 1) % 2) 0 (λ z. omega (arith, z))

pub line_ind : (F : ℕ → Type 0) → ((i : ℕ) → F (2 * i)) → ((i : ℕ) → F (2 * i + 1)) → (k : ℕ) → F k
line_ind F rows columns k = go (k % 2) refl
  where
    go : (z : ℕ) → k % 2 ≡ z → F k
    go zero e = let d : 2 * (k / 2) ≡ k = omega (arith, e) in subst F d (rows (k / 2))
    go (suc z) e = let d : 2 * (k / 2) + 1 ≡ k = omega (arith, e) in subst F d (columns (k / 2))

pub even_next : (k : ℕ) → even (k + 1) ≡ not (even k)
even_next =
    line_ind (λ (k : ℕ). even (k + 1) ≡ not (even k)) (λ i. odd_twice i ∙ ap not (sym (even-twice i)))
    (λ i. let e : 2 * i + 1 + 1 ≡ 2 * (i + 1) = omega arith in ap even e ∙ even-twice (i + 1) ∙ ap not (sym (odd_twice i)))

module _ (s : Params) (l : Interleavers) (L : ℕ) where
  pub line_row : (i a : ℕ) → line_sites s l L (2 * i) a ≡ row_sites s l L i a
  unfolding line_sites
  line_row i a =
      let h : 2 * i / 2 ≡ i = omega arith in
      ap (λ (z : Bool). cond z (row_sites s l L (2 * i / 2) a) (column_sites s L (2 * i / 2) a)) (even-twice i) ∙ ap (λ (j : ℕ). row_sites s l L j a) h

  pub line-column : (i a : ℕ) → line_sites s l L (2 * i + 1) a ≡ column_sites s L i a
  unfolding line_sites
  line-column i a =
      let h : (2 * i + 1) / 2 ≡ i = omega arith in
      ap (λ (z : Bool). cond z (row_sites s l L ((2 * i + 1) / 2) a) (column_sites s L ((2 * i + 1) / 2) a)) (odd_twice i)
      ∙ ap (λ (j : ℕ). column_sites s L j a) h

-- ---- all words

concat_pairs : {A : Type 0} (n : ℕ) (f : ℕ → List A) → concat n (λ i. f (2 * i) ++ f (2 * i + 1)) ≡ concat (2 * n) f
unfolding concat
concat_pairs zero f = refl
concat_pairs {A} (suc n) f =
    let e : 2 * suc n ≡ suc (suc (2 * n)) = omega arith in
    concat_last n (λ i. f (2 * i) ++ f (2 * i + 1))
    ∙ ap (λ (z : List A). z ++ (f (2 * n) ++ f (2 * n + 1))) (concat_pairs n f)
    ∙ sym (append_assoc (concat (2 * n) f) (f (2 * n)) (f (2 * n + 1)))
    ∙ ap₂ (λ (u : List A) (k : ℕ). u ++ f k) (sym (concat_last (2 * n) f)) (add-one (2 * n))
    ∙ sym (concat_last (suc (2 * n)) f) ∙ ap (λ (k : ℕ). concat k f) (sym e)

-- lists of M entries, one after the other
pub concat-tabulate : {A : Type 0} (M n : ℕ) (F : ℕ → ℕ → A) → concat n (λ k. tabulate M (F k)) ≡ tabulate (n * M) (λ w. F (w / M) (w % M))
unfolding concat tabulate
concat-tabulate M zero F = ap (λ (k : ℕ). tabulate k (λ w. F (w / M) (w % M))) (sym (zero-mul M))
concat-tabulate {A} M (suc n) F =
    concat_last n (λ k. tabulate M (F k))
    ∙ ap₂ ◌++◌ (concat-tabulate M n F)
    (tabulate-same M (F n) (λ k. F ((n * M + k) / M) ((n * M + k) % M)) (λ k h. ap₂ F (sym (digits_div n h)) (sym (digits_mod n h))))
    ∙ sym (tabulate-append (n * M) M (λ w. F (w / M) (w % M))) ∙ ap (λ (k : ℕ). tabulate k (λ w. F (w / M) (w % M))) (sym (suc-mul n M))

module _ (s : Params) (l : Interleavers) (L : ℕ) where
  pub word_row : (i a : ℕ) → line_word s l L (2 * i) a ≡ row_at s l L i a
  unfolding line_word
  word_row i a =
      let h : 2 * i / 2 ≡ i = omega arith in
      ap (λ (z : Bool). cond z (row_at s l L (2 * i / 2) a) (column_at s L (2 * i / 2) a)) (even-twice i) ∙ ap (λ (j : ℕ). row_at s l L j a) h

  pub word-column : (i a : ℕ) → line_word s l L (2 * i + 1) a ≡ column_at s L i a
  unfolding line_word
  word-column i a =
      let h : (2 * i + 1) / 2 ≡ i = omega arith in
      ap (λ (z : Bool). cond z (row_at s l L ((2 * i + 1) / 2) a) (column_at s L ((2 * i + 1) / 2) a)) (odd_twice i)
      ∙ ap (λ (j : ℕ). column_at s L j a) h

  pub words_lines : words s l L ≡ concat (2 * groups L) (λ k. tabulate s.M (line_word s l L k))
  unfolding words
  words_lines =
      concat-same (groups L) _ _
      (λ i h. ap₂ ◌++◌ (tabulate-same s.M _ _ (λ a m. sym (word_row i a))) (tabulate-same s.M _ _ (λ a m. sym (word-column i a))))
      ∙ concat_pairs (groups L) (λ k. tabulate s.M (line_word s l L k))

  pub words-length : length (words s l L) ≡ word_count s L
  words-length =
      ap length (words_lines ∙ concat-tabulate s.M (2 * groups L) (line_word s l L))
      ∙ tabulate-length (word_count s L) (λ w. line_word s l L (w / s.M) (w % s.M))

  -- as code reads them, by their numbers
  pub read_numbered : read_from s l L 0 (2 * groups L) ≡ tabulate (word_count s L) (λ w. (frame_word s l L w).sites)
  read_numbered =
      concat-same (2 * groups L) (λ i. tabulate s.M (read_sites s l L (0 + i))) (λ i. tabulate s.M (read_sites s l L i))
      (λ i h. ap (λ (k : ℕ). tabulate s.M (read_sites s l L k)) (zero-add i))
      ∙ concat-tabulate s.M (2 * groups L) (read_sites s l L)

-- ---- the places of the redundancy

pub red-place : (s : Params) (a p : ℕ) → a < s.M → 2 * s.M ≤ p → p < word_length s → (p - 2 * s.M) * s.M + a < 2 * order s
red-place s a p ha low hp =
    let h : (p - 2 * s.M) * s.M + a < (2 * s.r) * s.M = digits_lt {q = p - 2 * s.M} {m = 2 * s.r} (omega arith) ha in
    let c : (2 * s.r) * s.M ≡ 2 * order s = mul_assoc 2 s.r s.M ∙ ap (λ (z : ℕ). 2 * z) (mul_comm s.r s.M) in
    omega (arith, h, c)

module _ (list : List ℕ) (n : ℕ) (P : Permutes n (λ p. get_or list p 0)) where
  along_back : (forth : Bool) (q : ℕ) → q < n → along list n (not forth) (along list n forth q) ≡ q
  along_back true q h = preimage-of list n P q h
  along_back false q h = (preimage-sent list n P q h).1

  along-below : (forth : Bool) (q : ℕ) → q < n → along list n forth q < n
  along-below true q h = P.below q h
  along-below false q h = (preimage-sent list n P q h).0

module _ (s : Params) (l : Interleavers) where
  abbrev n : ℕ
  n = order s

  pub partner_y : (forth : Bool) (q : ℕ) → q < order s → partner s l forth q ≡ along l.self (order s) forth q
  unfolding partner
  partner_y forth q h = cond-true (ltb q n) _ _ (lt-ltb q n h)

  pub partner_p : (forth : Bool) (q x : ℕ) → q ≡ order s + x → partner s l forth q ≡ order s + along l.parity (order s) forth x
  unfolding partner
  partner_p forth q x e =
      let back : q - n ≡ x = omega (arith, e) in
      cond-false (ltb q n) _ _ (le-ltb q n (omega (arith, e))) ∙ ap (λ (z : ℕ). n + along l.parity n forth z) back

  module _ (ps : Permutes (order s) (λ p. get_or l.self p 0)) (pp : Permutes (order s) (λ p. get_or l.parity p 0)) where
    pub partner-below : (forth : Bool) (q : ℕ) → q < 2 * order s → partner s l forth q < 2 * order s
    partner-below forth q h = go (dec_lt q n)
      where
        go : Dec (q < n) → partner s l forth q < 2 * n
        go (yes y) = omega (arith, partner_y forth q y, along-below l.self n ps forth q y)
        go (no y) = omega (arith, partner_p forth q (q - n) (omega arith), along-below l.parity n pp forth (q - n) (omega arith))

    pub partner_back : (forth : Bool) (q : ℕ) → q < 2 * order s → partner s l (not forth) (partner s l forth q) ≡ q
    partner_back forth q h = go (dec_lt q n)
      where
        go : Dec (q < n) → partner s l (not forth) (partner s l forth q) ≡ q
        go (yes y) =
            ap (partner s l (not forth)) (partner_y forth q y)
            ∙ partner_y (not forth) (along l.self n forth q) (along-below l.self n ps forth q y) ∙ along_back l.self n ps forth q y
        go (no y) =
            let x : ℕ = q - n in
            let e : q ≡ n + x = omega arith in
            partner_p (not forth) (partner s l forth q) (along l.parity n forth x) (partner_p forth q x e)
            ∙ ap (λ (z : ℕ). n + z) (along_back l.parity n pp forth x (omega arith)) ∙ sym e

-- ---- what stands at a position

module _ (s : Params) (l : Interleavers) (L : ℕ) where
  abbrev at : ℕ → ℕ → ℕ → Site
  at k a p = get_or (line_sites s l L k a) p unsent

  abbrev cell : Bool → ℕ → ℕ → ℕ
  cell z a j = cond z (a * s.M + j) (j * s.M + a)

  at_row : (i a p : ℕ) → at (2 * i) a p ≡ get_or (row_sites s l L i a) p unsent
  at_row i a p = ap (λ (w : List Site). get_or w p unsent) (line_row s l L i a)

  at-column : (i a p : ℕ) → at (2 * i + 1) a p ≡ get_or (column_sites s L i a) p unsent
  at-column i a p = ap (λ (w : List Site). get_or w p unsent) (line-column s l L i a)

  -- row a of block k for a row word, and column a for a column word
  pub line_first : (k a p : ℕ) → p < s.M → get_or (line_sites s l L k a) p unsent ≡ block_at s L k (cond (even k) (a * s.M + p) (p * s.M + a))
  line_first k a p h =
      line_ind (λ (k : ℕ). at k a p ≡ block_at s L k (cell (even k) a p))
      (λ i. at_row i a p ∙ row_at-before s l L i a p h ∙ ap (λ (z : Bool). block_at s L (2 * i) (cell z a p)) (sym (even-twice i)))
      (λ i. at-column i a p ∙ column-at_odd s L i a p h ∙ ap (λ (z : Bool). block_at s L (2 * i + 1) (cell z a p)) (sym (odd_twice i))) k

  -- of block k + 1
  pub line_second : (k a p : ℕ) → s.M ≤ p → p < 2 * s.M
      → get_or (line_sites s l L k a) p unsent ≡ block_at s L (k + 1) (cond (even k) (a * s.M + (p - s.M)) ((p - s.M) * s.M + a))
  line_second k a p low h =
      line_ind (λ (k : ℕ). at k a p ≡ block_at s L (k + 1) (cell (even k) a (p - s.M)))
      (λ i. at_row i a p ∙ row_at_odd s l L i a p low h ∙ ap (λ (z : Bool). block_at s L (2 * i + 1) (cell z a (p - s.M))) (sym (even-twice i)))
      (λ i.
      let e : 2 * i + 2 ≡ 2 * i + 1 + 1 = omega arith in
      at-column i a p ∙ column-at-even s L i a p low h
      ∙ ap₂ (λ (b : ℕ) (z : Bool). block_at s L b (cell z a (p - s.M))) e (sym (odd_twice i))) k

  -- of Y and P for a column word, and of X and Q for a row word
  module _ (ok : Proper s) (a p : ℕ) (ha : a < s.M) (low : 2 * s.M ≤ p) (hp : p < word_length s) where
    abbrev q : ℕ
    q = (p - 2 * s.M) * s.M + a

    abbrev later : ℕ
    later = (p - (2 * s.M + s.r)) * s.M + a

    in_y : p < 2 * s.M + s.r → q < order s
    in_y h = place_lt s ok (p - 2 * s.M) a (omega arith) ha

    in_p : 2 * s.M + s.r ≤ p → q ≡ order s + later
    in_p h =
        let e : p - 2 * s.M ≡ s.r + (p - (2 * s.M + s.r)) = omega arith in
        ap (λ (z : ℕ). z * s.M + a) e ∙ ap (λ (z : ℕ). z + a) (add-mul s.r (p - (2 * s.M + s.r)) s.M)
        ∙ add_assoc (s.r * s.M) ((p - (2 * s.M + s.r)) * s.M) a ∙ ap (λ (z : ℕ). z + later) (mul_comm s.r s.M)

    row_red : (i : ℕ) → get_or (row_sites s l L i a) p unsent ≡ in_red (i * (2 * order s) + partner s l true q)
    row_red i = go (dec_lt p (2 * s.M + s.r))
      where
        go : Dec (p < 2 * s.M + s.r) → get_or (row_sites s l L i a) p unsent ≡ in_red (i * (2 * order s) + partner s l true q)
        go (yes h) = row_at-self s l L i a p low h ∙ ap (λ (z : ℕ). in_red (i * (2 * order s) + z)) (sym (partner_y s l true q (in_y h)))
        go (no h) =
            let v : ℕ = get_or l.parity later 0 in
            let e : partner s l true q ≡ order s + v = partner_p s l true q later (in_p (omega arith)) in
            row_at-parity s l L i a p (omega arith) hp ∙ ap in_red (omega (arith, e))

    column-red : (i : ℕ) → get_or (column_sites s L i a) p unsent ≡ in_red (i * (2 * order s) + q)
    column-red i = go (dec_lt p (2 * s.M + s.r))
      where
        go : Dec (p < 2 * s.M + s.r) → get_or (column_sites s L i a) p unsent ≡ in_red (i * (2 * order s) + q)
        go (yes h) = column-at-self s L i a p low h
        go (no h) = column-at-parity s L i a p (omega arith) hp ∙ ap in_red (omega (arith, in_p (omega arith)))

    pub line-red : (k : ℕ) → get_or (line_sites s l L k a) p unsent
        ≡ in_red (k / 2 * (2 * order s) + cond (even k) (partner s l true ((p - 2 * s.M) * s.M + a)) ((p - 2 * s.M) * s.M + a))
    line-red =
        line_ind (λ (k : ℕ). at k a p ≡ in_red (k / 2 * (2 * order s) + cond (even k) (partner s l true q) q))
        (λ i.
        let e : i ≡ 2 * i / 2 = omega arith in
        at_row i a p ∙ row_red i ∙ ap₂ (λ (j : ℕ) (z : Bool). in_red (j * (2 * order s) + cond z (partner s l true q) q)) e (sym (even-twice i)))
        (λ i.
        let e : i ≡ (2 * i + 1) / 2 = omega arith in
        at-column i a p ∙ column-red i ∙ ap₂ (λ (j : ℕ) (z : Bool). in_red (j * (2 * order s) + cond z (partner s l true q) q)) e (sym (odd_twice i)))
