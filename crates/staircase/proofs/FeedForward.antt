-- The words of feed-forward frames as a layout.
--   line-within, read-within    all sent sites of a line's words are bytes of the frame
--   feed_forward_lawful          all that is asked of a kind of frame
-- Assumes nothing.
use mathlib.Core.Path.{◌≡◌, sym, ap, ◌∙◌, subst}
use mathlib.Core.Logic.{◌⊎◌, inl, inr}
use mathlib.Core.List.{List}
use Prim.Native.Nat.{ℕ, ◌+◌, ◌-◌, ◌*◌, ◌/◌, ◌%◌, ◌<◌}
use native.Mathlib.Nat.{mod-lt, div-add-mod'}
use native.Mathlib.Omega.{arith}
use lib.Arith.{digits_lt}
use lib.ListN.{length, get_or}
use Rattle.bch.specs.Powers.{power_mod}
use Rattle.staircase.specs.Design.{Params, Interleavers, word_length, order}
use Rattle.staircase.specs.Word.{row_info, row_word, column_info, column_word}
use Rattle.staircase.specs.Frame.{Frame, Site, groups, block_at, y_at, p_at, row_sites, column_sites}
use Rattle.staircase.specs.Frame.Site.{unsent}
use Rattle.staircase.specs.Demand2.{Permutes}
use Rattle.staircase.specs.Lines.{line_sites, read_sites, Incidence, incidence, read_crossing}
use Rattle.staircase.specs.Layout.{word_at, place_of, feed_forward}
use Rattle.staircase.proofs.Member.{In}
use Rattle.staircase.proofs.Stretches.{four_all}
use Rattle.staircase.proofs.Flip.{Sent, Within}
use Rattle.staircase.proofs.System.{Proper, place_lt}
use Rattle.staircase.proofs.Sites.{block-sent}
use Rattle.staircase.proofs.Weight.{weight, weight_at}
use Rattle.staircase.proofs.Lawful.{Lawful, position-of, word_number, one_elsewhere, one_there}
use Rattle.staircase.proofs.Lines.{line_ind, line_row, line-column}
use Rattle.staircase.proofs.Turned.{read_length, read_distinct, read_in, ReadCrosses, read_crossing_holds, read-only_two}

module _ (s : Params) (L : ℕ) (l : Interleavers) (ok : Proper s) (ps : Permutes (order s) (λ p. get_or l.self p 0))
    (pp : Permutes (order s) (λ p. get_or l.parity p 0)) where
  module _ (f : Frame) (info : length f.info ≡ L * (s.M * s.M)) (red : length f.red ≡ groups L * (2 * order s)) where
    in_block : (b c : ℕ) → c < s.M * s.M → Sent (block_at s L b c) → Within (block_at s L b c) f
    in_block b c h sent =
        let p = block-sent s L b c sent in
        subst (λ (y : Site). Within y f) (sym p.3) (subst (λ (n : ℕ). p.0 * (s.M * s.M) + c < n) (sym info) (digits_lt p.2 h))

    in_group : (i q : ℕ) → i < groups L → q < 2 * order s → i * (2 * order s) + q < length f.red
    in_group i q hi hq = subst (λ (n : ℕ). i * (2 * order s) + q < n) (sym red) (digits_lt hi hq)

    row_within : (i a : ℕ) → i < groups L → a < s.M → (y : Site) → In y (row_sites s l L i a) → Sent y → Within y f
    unfolding row_sites row_word row_info
    row_within i a hi ha =
        four_all s.M s.r (λ j. block_at s L (2 * i) (a * s.M + j)) (λ j. block_at s L (2 * i + 1) (a * s.M + j))
        (λ b. y_at s i (get_or l.self (b * s.M + a) 0)) (λ b. p_at s i (get_or l.parity (b * s.M + a) 0)) (λ (y : Site). Sent y → Within y f)
        (λ j hj sent. in_block (2 * i) (a * s.M + j) (digits_lt ha hj) sent)
        (λ j hj sent. in_block (2 * i + 1) (a * s.M + j) (digits_lt ha hj) sent)
        (λ b hb sent. in_group i (get_or l.self (b * s.M + a) 0) hi (omega (arith, ps.below (b * s.M + a) (place_lt s ok b a hb ha))))
        (λ b hb sent.
        let h = in_group i (order s + get_or l.parity (b * s.M + a) 0) hi (omega (arith, pp.below (b * s.M + a) (place_lt s ok b a hb ha))) in
        omega (arith, h))

    column-within : (i a : ℕ) → i < groups L → a < s.M → (y : Site) → In y (column_sites s L i a) → Sent y → Within y f
    unfolding column_sites column_word column_info
    column-within i a hi ha =
        four_all s.M s.r (λ j. block_at s L (2 * i + 1) (j * s.M + a)) (λ j. block_at s L (2 * i + 2) (j * s.M + a))
        (λ b. y_at s i (b * s.M + a)) (λ b. p_at s i (b * s.M + a)) (λ (y : Site). Sent y → Within y f)
        (λ j hj sent. in_block (2 * i + 1) (j * s.M + a) (digits_lt hj ha) sent)
        (λ j hj sent. in_block (2 * i + 2) (j * s.M + a) (digits_lt hj ha) sent)
        (λ b hb sent. in_group i (b * s.M + a) hi (omega (arith, place_lt s ok b a hb ha)))
        (λ b hb sent. let h = in_group i (order s + (b * s.M + a)) hi (omega (arith, place_lt s ok b a hb ha)) in omega (arith, h))

    pub line-within : (k a : ℕ) → k < 2 * groups L → a < s.M → (y : Site) → Sent y → In y (line_sites s l L k a) → Within y f
    line-within k a hk ha y sent =
        line_ind (λ (k : ℕ). k < 2 * groups L → In y (line_sites s l L k a) → Within y f)
        (λ i hi m. row_within i a (omega arith) ha y (subst (λ (v : List Site). In y v) (line_row s l L i a) m) sent)
        (λ i hi m. column-within i a (omega arith) ha y (subst (λ (v : List Site). In y v) (line-column s l L i a) m) sent) k hk

    pub read-within : (k a : ℕ) → k < 2 * groups L → a < s.M → (y : Site) → Sent y → In y (read_sites s l L k a) → Within y f
    read-within k a hk ha y sent i = line-within k a hk ha y sent (read_in s L l k a y i)

  -- ---- the bit at position p of word a of line k

  module _ (k a p : ℕ) (ha : a < s.M) (hp : p < word_length s) (sent : Sent (get_or (read_sites s l L k a) p unsent)) where
    abbrev y : Site
    y = get_or (read_sites s l L k a) p unsent

    abbrev c : Incidence
    c = read_crossing s l k a p

    x : ReadCrosses s L l ok ps pp k a p c
    x = read_crossing_holds s L l ok ps pp k a p ha hp sent

    -- a word that has the bit is the word itself or the crossing word
    holder : (w : ℕ) → In y (word_at (feed_forward s l L) w).sites → (w ≡ k * s.M + a) ⊎ (w ≡ c.line * s.M + c.word)
    holder w m =
        let t = position-of y (word_at (feed_forward s l L) w).sites m in
        let hq : t.0 < word_length s = subst (λ (n : ℕ). t.0 < n) (read_length s L l ok ps pp (w / s.M) (w % s.M)) t.1 in
        go (read-only_two s L l ok ps pp k a p (w / s.M) (w % s.M) t.0 ha hp sent (mod-lt w ok.mpos) hq t.2)
      where
        number : (q : Incidence) → incidence (w / s.M) (w % s.M) 0 ≡ incidence q.line q.word 0 → w ≡ q.line * s.M + q.word
        number q e = sym (div-add-mod' w s.M) ∙ ap (λ (z : Incidence). z.line * s.M + z.word) e

        go : (incidence (w / s.M) (w % s.M) 0 ≡ incidence k a 0) ⊎ (incidence (w / s.M) (w % s.M) 0 ≡ incidence c.line c.word 0)
            → (w ≡ k * s.M + a) ⊎ (w ≡ c.line * s.M + c.word)
        go (inl e) = inl (number (incidence k a p) e)
        go (inr e) = inr (number c e)

    crossing_weight : (w : ℕ) → w ≡ c.line * s.M + c.word
        → weight s.g s.r y (word_at (feed_forward s l L) w).sites ≡ power_mod s.g s.r (word_length s - 1 - c.position)
    crossing_weight w e =
        let v : List Site = read_sites s l L c.line c.word in
        let long : length v ≡ word_length s = read_length s L l ok ps pp c.line c.word in
        ap (λ (n : ℕ). weight s.g s.r y (word_at (feed_forward s l L) n).sites) e
        ∙ ap (weight s.g s.r y) (word_number (feed_forward s l L) c.line c.word x.word)
        ∙ weight_at s.g s.r y v (read_distinct s L l ok ps pp c.line c.word x.word) c.position
        (subst (λ (n : ℕ). c.position < n) (sym long) x.position) x.holds sent
        ∙ ap (λ (n : ℕ). power_mod s.g s.r (n - 1 - c.position)) long

  pub feed_forward_lawful : Lawful (feed_forward s l L)
  feed_forward_lawful =
      record {
        some = ok.mpos;
        long = λ k a hk ha. read_length s L l ok ps pp k a;
        distinct = λ k a hk ha. read_distinct s L l ok ps pp k a ha;
        within = λ k a hk ha f info red y sent i. read-within f info red k a hk ha y sent i;
        elsewhere = λ k a p hk ha hp sent w hw d e. one_elsewhere (place_of s (word_length s) (read_crossing s l k a p)) w (k * s.M + a) (holder k a p ha hp sent w) d e;
        there = λ k a p hk ha hp sent w hw d e. one_there s (place_of s (word_length s) (read_crossing s l k a p)) w (crossing_weight k a p ha hp sent w) e;
      }
