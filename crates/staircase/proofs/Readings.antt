-- How many bits of a word are sent.
--   sent-append, sent-same   of lists one after the other, and of sites that are all sent, or none
--   line-counted             M of each of its two blocks that is sent, and 2 r
--   line-sent                n, less M where the word has an unsent block
-- Assumes nothing.
use mathlib.Core.Path.{◌≡◌, refl, sym, ap, ◌∙◌}
use mathlib.Core.Bool.{Bool, true, false, cond, ◌||◌}
use mathlib.Core.List.{List, [], ◌∷◌, ◌++◌}
use Prim.Native.Nat.{ℕ, zero, suc, ◌+◌, ◌-◌, ◌*◌, ◌≤◌, ◌<◌}
use native.Mathlib.Nat.{zero-add, add_assoc, zero-mul, suc-mul}
use native.Mathlib.Decide.{ℕ_discrete, dec_lt}
use native.Mathlib.Omega.{arith}
use lib.Dec.{ltb}
use lib.ListN.{get_or}
use borrow.Author.Tests.{lt-ltb, le-ltb, eq-eqb, ne_eqb}
use Rattle.staircase.specs.Lists.{tabulate}
use Rattle.staircase.specs.Design.{Params, Interleavers, word_length}
use Rattle.staircase.specs.Word.{row_info, row_word, column_info, column_word}
use Rattle.staircase.specs.Frame.{Site, groups, block_at, y_at, p_at, row_sites, column_sites}
use Rattle.staircase.specs.Frame.Site.{unsent, in_info}
use Rattle.staircase.specs.Lines.{line_sites}
use Rattle.staircase.specs.Readings.{is_sent, sent_among, has_unsent, reads_of}
use Rattle.staircase.proofs.Lines.{line_ind, line_row, line-column}

sent-append : (u v : List Site) → sent_among (u ++ v) ≡ sent_among u + sent_among v
unfolding sent_among
sent-append [] v = sym (zero-add (sent_among v))
sent-append (x ∷ u) v = ap (λ (n : ℕ). is_sent x + n) (sent-append u v) ∙ sym (add_assoc (is_sent x) (sent_among u) (sent_among v))

sent-same : (n c : ℕ) (f : ℕ → Site) → ((k : ℕ) → is_sent (f k) ≡ c) → sent_among (tabulate n f) ≡ n * c
unfolding sent_among tabulate
sent-same zero c f h = sym (zero-mul c)
sent-same (suc n) c f h = omega (arith, h zero, sent-same n c (λ k. f (suc k)) (λ k. h (suc k)), suc-mul n c)

-- ---- blocks

module _ (s : Params) (L : ℕ) where
  block_same : (b k : ℕ) → is_sent (block_at s L b k) ≡ is_sent (block_at s L b 0)
  block_same zero k = refl
  block_same (suc b) k = go (ltb b L)
    where
      go : (z : Bool) → is_sent (cond z (in_info (b * (s.M * s.M) + k)) unsent) ≡ is_sent (cond z (in_info (b * (s.M * s.M) + 0)) unsent)
      go true = refl
      go false = refl

  block-sent : (b : ℕ) → 1 ≤ b → b ≤ L → is_sent (block_at s L b 0) ≡ 1
  block-sent zero h l = absurd (omega (arith, h))
  block-sent (suc b) h l = ap (λ (z : Bool). is_sent (cond z (in_info (b * (s.M * s.M) + 0)) unsent)) (lt-ltb b L (omega (arith, l)))

  block-unsent : (b : ℕ) → L < b → is_sent (block_at s L b 0) ≡ 0
  block-unsent zero h = absurd (omega (arith, h))
  block-unsent (suc b) h = ap (λ (z : Bool). is_sent (cond z (in_info (b * (s.M * s.M) + 0)) unsent)) (le-ltb b L (omega (arith, h)))

-- ---- the words of a line

module _ (s : Params) where
  four_sent : (b c y p : ℕ → Site) (u v : ℕ) → ((k : ℕ) → is_sent (b k) ≡ u) → ((k : ℕ) → is_sent (c k) ≡ v) → ((k : ℕ) → is_sent (y k) ≡ 1) → ((k : ℕ) → is_sent (p k) ≡ 1)
      → sent_among (tabulate s.M b ++ tabulate s.M c ++ tabulate s.r y ++ tabulate s.r p) ≡ s.M * u + s.M * v + s.r + s.r
  four_sent b c y p u v hb hc hy hp =
      let B : List Site = tabulate s.M b in
      let C : List Site = tabulate s.M c in
      let Y : List Site = tabulate s.r y in
      let P : List Site = tabulate s.r p in
      omega (
        arith,
        sent-append (B ++ C ++ Y) P,
        sent-append (B ++ C) Y,
        sent-append B C,
        sent-same s.M u b hb,
        sent-same s.M v c hc,
        sent-same s.r 1 y hy,
        sent-same s.r 1 p hp,
      )

  module _ (l : Interleavers) (L : ℕ) where
    abbrev of : ℕ → ℕ
    of b = is_sent (block_at s L b 0)

    row_counted : (i a : ℕ) → sent_among (row_sites s l L i a) ≡ s.M * of (2 * i) + s.M * of (2 * i + 1) + s.r + s.r
    unfolding row_sites row_word row_info
    row_counted i a =
        four_sent (λ j. block_at s L (2 * i) (a * s.M + j)) (λ j. block_at s L (2 * i + 1) (a * s.M + j)) (λ b. y_at s i (get_or l.self (b * s.M + a) 0))
        (λ b. p_at s i (get_or l.parity (b * s.M + a) 0)) (of (2 * i)) (of (2 * i + 1)) (λ j. block_same s L (2 * i) (a * s.M + j))
        (λ j. block_same s L (2 * i + 1) (a * s.M + j)) (λ b. refl) (λ b. refl)

    column-counted : (i a : ℕ) → sent_among (column_sites s L i a) ≡ s.M * of (2 * i + 1) + s.M * of (2 * i + 2) + s.r + s.r
    unfolding column_sites column_word column_info
    column-counted i a =
        four_sent (λ j. block_at s L (2 * i + 1) (j * s.M + a)) (λ j. block_at s L (2 * i + 2) (j * s.M + a)) (λ b. y_at s i (b * s.M + a))
        (λ b. p_at s i (b * s.M + a)) (of (2 * i + 1)) (of (2 * i + 2)) (λ j. block_same s L (2 * i + 1) (j * s.M + a))
        (λ j. block_same s L (2 * i + 2) (j * s.M + a)) (λ b. refl) (λ b. refl)

    pub line-counted : (k a : ℕ) → sent_among (line_sites s l L k a) ≡ s.M * is_sent (block_at s L k 0) + s.M * is_sent (block_at s L (k + 1) 0) + s.r + s.r
    line-counted k a =
        line_ind (λ (k : ℕ). sent_among (line_sites s l L k a) ≡ s.M * of k + s.M * of (k + 1) + s.r + s.r)
        (λ i. ap sent_among (line_row s l L i a) ∙ row_counted i a)
        (λ i.
        let e : 2 * i + 2 ≡ 2 * i + 1 + 1 = omega arith in
        ap sent_among (line-column s l L i a) ∙ column-counted i a ∙ ap (λ (b : ℕ). s.M * of (2 * i + 1) + s.M * of b + s.r + s.r) e) k

    -- with the two blocks told
    told : (k a u v : ℕ) → of k ≡ u → of (k + 1) ≡ v → sent_among (line_sites s l L k a) ≡ s.M * u + s.M * v + s.r + s.r
    told k a u v e d = line-counted k a ∙ ap (λ (x : ℕ). s.M * x + s.M * of (k + 1) + s.r + s.r) e ∙ ap (λ (x : ℕ). s.M * u + s.M * x + s.r + s.r) d

    reads-by : (k : ℕ) (z : Bool) → has_unsent L k ≡ z → cond z (word_length s - s.M) (word_length s) ≡ reads_of s L k
    unfolding reads_of
    reads-by k z e = ap (λ (b : Bool). cond b (word_length s - s.M) (word_length s)) (sym e)

    -- "n, less M where the word has an unsent block"
    pub line-sent : (k a : ℕ) → k < 2 * groups L → sent_among (line_sites s l L k a) ≡ reads_of s L k
    unfolding has_unsent
    line-sent k a h = go (ℕ_discrete k 0) (dec_lt L (k + 1))
      where
        go : Dec (k ≡ 0) → Dec (L < k + 1) → sent_among (line_sites s l L k a) ≡ reads_of s L k
        go (yes e) d =
            let none : of k ≡ 0 = ap of e in
            let n : sent_among (line_sites s l L k a) ≡ word_length s - s.M = omega (arith, told k a 0 1 none (block-sent s L (k + 1) (omega arith) (omega (arith, h, e)))) in
            n ∙ reads-by k true (ap (λ (b : Bool). b || ltb L (k + 1)) (eq-eqb k 0 e))
        go (no e) (yes d) =
            let n : sent_among (line_sites s l L k a) ≡ word_length s - s.M =
            omega (arith, told k a 1 0 (block-sent s L k (omega (arith, e)) (omega (arith, h))) (block-unsent s L (k + 1) d)) in
            n ∙ reads-by k true (ap (λ (b : Bool). b || ltb L (k + 1)) (ne_eqb k 0 e) ∙ lt-ltb L (k + 1) d)
        go (no e) (no d) =
            let n : sent_among (line_sites s l L k a) ≡ word_length s =
            omega (arith, told k a 1 1 (block-sent s L k (omega (arith, e)) (omega (arith, h))) (block-sent s L (k + 1) (omega arith) (omega (arith, d)))) in
            n ∙ reads-by k false (ap (λ (b : Bool). b || ltb L (k + 1)) (ne_eqb k 0 e) ∙ le-ltb L (k + 1) (omega (arith, d)))
