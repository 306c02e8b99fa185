-- The crossing word and its number.
--   red-place                     a place of the redundancy
--   at_row, at-column             the crossing word of a bit of the redundancy, from the table
--   not_first                     a sent bit of the first stretch is not in the first line
--   crossed_position, crossed_read     the position of the crossing word, and as it is read
--   crossing-word, crossing-position   the word and the position
--   power_added, none_added       the crossing word's number
-- Assumes nothing.
use mathlib.Core.Path.{◌≡◌, refl, sym, ap, ◌∙◌, subst}
use mathlib.Core.Bool.{Bool, true, false, cond}
use mathlib.Core.Logic.{◌≢◌, inl}
use mathlib.Core.List.{List, [], ◌∷◌}
use Prim.Native.Nat.{ℕ, zero, suc, ◌+◌, ◌-◌, ◌*◌, ◌/◌, ◌%◌, ◌^◌, ◌≤◌, ◌<◌}
use native.Mathlib.Nat.{mul-le-mul, le_refl}
use native.Mathlib.Omega.{arith}
use lib.Pow.{pow_mono}
use lib.ListN.{get_or}
use borrow.Author.Tests.{eq-eqb, ne_eqb}
use Rattle.bch.specs.Polynomial.{◌⊕◌}
use Rattle.bch.specs.Powers.{power_mod}
use Rattle.bch.proofs.PowerSum.{power_mod-below}
use Rattle.staircase.specs.Design.{Params, Interleavers, word_length}
use Rattle.staircase.specs.Frame.Site.{unsent}
use Rattle.staircase.specs.Decoder.{all_sent}
use Rattle.staircase.specs.Lines.{even, Incidence, incidence, crossing, partner}
use Rattle.staircase.specs.Layout.{word_total, place_of}
use Rattle.staircase.proofs.Flip.{Sent, all_sent_each}
use Rattle.staircase.proofs.Crossing as feed
use Rattle.staircase.proofs.Turned.{read_crossing_holds}
use Rattle.original.proofs.Crossing as rows
use Rattle.design.specs.declared.Design.{Design}
use Rattle.design.specs.Sizes.{params_of, order_of}
use Rattle.design.proofs.Allowed.{proper_of}
use Rattle.decoder_kept.specs.Numbers.{number_at, OnlyAt}
use Rattle.decoder_kept.specs.Words.{AddedAt}
use Rattle.decoder_kept.proofs.Words.{added_one, added_none}
use Rattle.layout.specs.declared.Shape.{Shape}
use Rattle.layout.specs.declared.Shape.TheVariants.{FeedForward, Original}
use Rattle.layout.specs.declared.Line.{Line}
use Rattle.decoder_lines.specs.declared.WordBit.{WordBit}
use Rattle.decoder_lines.specs.Links.{lists_in, LinksFit, incidence_of}
use Rattle.layout.specs.Layouts.{lines_in, bits_in, turn_in, straight_in, across_in, sites_in, crossing_in, AllowedIn}
use Rattle.decoder_lines.specs.Layouts.{layout_of, LinkedIn, LineFits, line_word, straight_word, places_at, PowersFit}
use Rattle.decoder_lines.proofs.Places.{red-below}
use Rattle.decoder_lines.proofs.Links.{link_row, link_column}
use Rattle.layout.proofs.Layouts.{thin_of, crossing-read}
use Rattle.decoder_lines.proofs.Layouts.{r-high, r_some, g_degree, site_read, site_first}

module _ (d : Design) (k : ℕ) {links : List ℕ} (T : LinksFit d links) (a p q : ℕ) (ha : a < d.size) (low : 2 * d.size ≤ p)
    (hp : p < word_length (params_of d)) (e : q ≡ (p - 2 * d.size) * d.size + a) where
  abbrev s : Params
  s = params_of d

  abbrev l : Interleavers
  l = lists_in d links

  abbrev spot : Bool → ℕ → Incidence
  spot z f = incidence (cond z (k + 1) (k - 1)) (f % s.M) (2 * s.M + f / s.M)

  pub red-place : q < 2 * order_of d
  red-place = omega (arith, e, red-below s.M s.r a p hp low ha)

  by_links : (z : Bool) {f : ℕ} → even k ≡ z → f ≡ partner s l z q → spot z f ≡ crossing s l k a p
  by_links z {f} h g =
      ap (spot z) (g ∙ ap (partner s l z) e) ∙ ap (λ (b : Bool). spot b (partner s l b ((p - 2 * s.M) * s.M + a))) (sym h)
      ∙ sym (feed.crossing-red s l k a p low)

  pub at_row : {f : ℕ} → k % 2 ≡ 0 → f ≡ get_or links (0 + q) 0
      → incidence (k + 1) (f % d.size) (2 * d.size + f / d.size) ≡ crossing (params_of d) (lists_in d links) k a p
  at_row z g = by_links true (eq-eqb (k % 2) 0 z) (g ∙ link_row T q red-place)

  pub at-column : {f : ℕ} → k % 2 ≢ 0 → f ≡ get_or links (2 * order_of d + q) 0
      → incidence (k - 1) (f % d.size) (2 * d.size + f / d.size) ≡ crossing (params_of d) (lists_in d links) k a p
  at-column z g = by_links false (ne_eqb (k % 2) 0 z) (g ∙ link_column T q red-place)

-- ---- the crossing word of a sent bit

there_in : (z : Shape) (d : Design) (links : List ℕ) (L k a p : ℕ) → AllowedIn z d → LinkedIn z d links → a < d.size → p < bits_in z (params_of d)
    → Sent (get_or (sites_in z (params_of d) (lists_in d links) L k a) p unsent)
    → ((crossing_in z (params_of d) (lists_in d links) k a p).word < d.size) × ((crossing_in z (params_of d) (lists_in d links) k a p).position < bits_in z (params_of d))
unfolding AllowedIn LinkedIn sites_in crossing_in bits_in
there_in FeedForward d links L k a p A K ha hp sent =
    let x = read_crossing_holds (params_of d) L (lists_in d links) (proper_of d A) K.self K.parity k a p ha hp sent in (x.word, x.position)
there_in Original d links L k a p A K ha hp sent =
    let thin = thin_of d A in
    let x = rows.crossing_holds (params_of d) thin k a p ha hp (subst Sent (rows.row_at (params_of d) thin k a p hp) sent) in (x.word, x.position)

across-in : (z : Shape) (d : Design) (links : List ℕ) (L k a p : ℕ) → AllowedIn z d → LinkedIn z d links → a < d.size → p < bits_in z (params_of d)
    → Sent (get_or (straight_in z (params_of d) (lists_in d links) L k a) p unsent)
    → (across_in z (params_of d) (lists_in d links) k a p).position < bits_in z (params_of d)
unfolding AllowedIn LinkedIn straight_in across_in bits_in
across-in FeedForward d links L k a p A K ha hp sent =
    (feed.crossing_holds (params_of d) L (lists_in d links) (proper_of d A) K.self K.parity k a p ha hp sent).position
across-in Original d links L k a p A K ha hp sent =
    let thin = thin_of d A in
    (rows.crossing_holds (params_of d) thin k a p ha hp (subst Sent (rows.row_at (params_of d) thin k a p hp) sent)).position

module _ {line : Line} {links : List ℕ} (F : LineFits line links) (a p : ℕ) (ha : a < line.frames.d.size)
    (hp : p < bits_in line.frames.shape (params_of line.frames.d)) (sent : all_sent (get_or (line_word line links a) p unsent ∷ []) ≡ true) where
  abbrev d : Design
  d = line.frames.d

  abbrev n : ℕ
  n = bits_in line.frames.shape (params_of d)

  abbrev c : Incidence
  c = crossing_in line.frames.shape (params_of d) (lists_in d links) line.k a p

  site_sent : Sent (get_or (line_word line links a) p unsent)
  site_sent = all_sent_each (get_or (line_word line links a) p unsent ∷ []) sent _ (inl refl)

  -- the position in the word as it is written
  abbrev q : ℕ
  q = turn_in line.frames.shape (params_of line.frames.d) line.k p

  straight_sent : Sent (get_or (straight_word line links a) q unsent)
  straight_sent = subst Sent (site_read F.frames line.k a p hp) site_sent

  pub not_first : turn_in line.frames.shape (params_of line.frames.d) line.k p < line.frames.d.size → 1 ≤ line.k
  not_first h = go line.k q F.within h straight_sent
    where
      go : (k j : ℕ) → k < lines_in line.frames.shape line.frames.blocks → j < d.size
          → Sent (get_or (straight_in line.frames.shape (params_of d) (lists_in d links) line.frames.blocks k a) j unsent) → 1 ≤ k
      go zero j hk h s = absurd (subst Sent (site_first F.frames 0 a j hk h) s)
      go (suc k) j hk h s = omega arith

  module _ {h : WordBit} (e : incidence_of h ≡ across_in line.frames.shape (params_of line.frames.d) (lists_in line.frames.d links) line.k a
      (turn_in line.frames.shape (params_of line.frames.d) line.k p)) where
    pub crossed_position : turn_in line.frames.shape (params_of line.frames.d) line.k p < bits_in line.frames.shape (params_of line.frames.d)
        → h.position < bits_in line.frames.shape (params_of line.frames.d)
    crossed_position below =
        subst (λ (z : Incidence). z.position < n) (sym e)
        (across-in line.frames.shape d links line.frames.blocks line.k a q F.frames.allowed F.frames.linked ha below straight_sent)

    pub crossed_read : (at : ℕ) → at ≡ turn_in line.frames.shape (params_of line.frames.d) h.line h.position
        → incidence h.line h.word at ≡ crossing_in line.frames.shape (params_of line.frames.d) (lists_in line.frames.d links) line.k a p
    crossed_read at f =
        ap (incidence h.line h.word) f
        ∙ ap (λ (z : Incidence). incidence z.line z.word (turn_in line.frames.shape (params_of d) z.line z.position)) e
        ∙ crossing-read line.frames.shape (params_of d) (lists_in d links) line.k a p

  there : (c.word < d.size) × (c.position < n)
  there = there_in line.frames.shape d links line.frames.blocks line.k a p F.frames.allowed F.frames.linked ha hp site_sent

  module _ {h : WordBit} (e : incidence_of h ≡ crossing_in line.frames.shape (params_of line.frames.d) (lists_in line.frames.d links) line.k a p) where
    pub crossing-word : h.word < line.frames.d.size
    crossing-word = subst (λ (z : Incidence). z.word < d.size) (sym e) there.0

    pub crossing-position : h.position < bits_in line.frames.shape (params_of line.frames.d)
    crossing-position = subst (λ (z : Incidence). z.position < n) (sym e) there.1

    module _ {positions : List ℕ} (P : PowersFit line.frames positions) where
      power-is : get_or positions h.position 0 ≡ power_mod (params_of d).g (params_of d).r (n - 1 - h.position)
      power-is =
          P.powers h.position (subst (λ (n : ℕ). h.position < n) (sym P.long) crossing-position)
          ∙ ap (λ (n : ℕ). power_mod (params_of d).g (params_of d).r (n - 1 - h.position)) P.long

      power_small : get_or positions h.position 0 < 2147483648
      power_small =
          let low = power_mod-below (params_of d).g (params_of d).r (r_some F.frames) (g_degree F.frames) (n - 1 - h.position) in
          let high : 2 ^ (d.m * d.t) ≤ 2 ^ 31 = pow_mono {i = d.m * d.t} {j = 31} (omega (arith, r-high F.frames)) in
          omega (arith, power-is, low, high)

      pub power_added : {b b' : List ℕ} (v : ℕ) → v < word_total (layout_of line.frames links) → v ≡ h.line * line.frames.d.size + h.word
          → OnlyAt b b' v (number_at b v ⊕ get_or positions h.position 0)
          → AddedAt (params_of line.frames.d) (word_total (layout_of line.frames links)) (places_at line links a p) b b'
      power_added {b} {b'} v hv q O =
          subst (λ (c : Incidence). AddedAt (params_of d) (word_total (layout_of line.frames links)) (place_of (params_of d) n c ∷ []) b b') e
          (added_one (params_of d) (word_total (layout_of line.frames links)) (place_of (params_of d) n (incidence_of h)) b hv q power-is power_small O)

    pub none_added : {b : List ℕ} → lines_in line.frames.shape line.frames.blocks ≤ h.line
        → AddedAt (params_of line.frames.d) (word_total (layout_of line.frames links)) (places_at line links a p) b b
    none_added {b} q =
        let N : ℕ = word_total (layout_of line.frames links) in
        let m : N ≤ h.line * d.size = mul-le-mul q (le_refl d.size) in
        subst (λ (c : Incidence). AddedAt (params_of d) N (place_of (params_of d) n c ∷ []) b b) e
        (added_none (params_of d) N (place_of (params_of d) n (incidence_of h)) b (omega (arith, m)))
