-- What is known of frames under a table of links.
--   lawful_of                      all that is asked of a kind of frame
--   t-high, size-high, r-high, bits-high, g-degree ..   its sizes
--   lines-few, info-few, red-few   the lines of a frame and its bits
--   site_read                      words as they are read, from words as they are written
--   tail-allowed .. tail-site      a position behind the blocks is one of a feed-forward frame
--   site_first, site_second        the site at a position of the blocks
-- Assumes nothing.
use mathlib.Core.Path.{◌≡◌, refl, sym, ap, ◌∙◌, subst}
use mathlib.Core.Bool.{true, cond}
use mathlib.Core.List.{List}
use Prim.Native.Nat.{ℕ, ◌+◌, ◌-◌, ◌*◌, ◌/◌, ◌^◌, ◌≤◌, ◌<◌}
use native.Mathlib.Omega.{arith}
use lib.ListN.{get_or}
use Rattle.staircase.specs.Design.{Params, Interleavers, word_length, order}
use Rattle.staircase.specs.Frame.{Site, groups, block_at}
use Rattle.staircase.specs.Frame.Site.{unsent, in_red}
use Rattle.staircase.specs.Lines.{even, partner, crossing}
use Rattle.staircase.proofs.Bounds.{small_product}
use Rattle.staircase.proofs.Lines.{line-red}
use Rattle.staircase.proofs.Lawful.{Lawful}
use Rattle.design.specs.declared.Design.{Design}
use Rattle.design.specs.Answers.{Allowed}
use Rattle.design.specs.Sizes.{params_of}
use Rattle.design.proofs.Allowed.{proper_of}
use Rattle.layout.specs.declared.Shape.{Shape}
use Rattle.layout.specs.declared.Shape.TheVariants.{FeedForward, Original}
use Rattle.layout.specs.declared.Frames.{Frames}
use Rattle.decoder_lines.specs.Links.{lists_in, LinksFit}
use Rattle.layout.specs.Layouts.{PermutesIn, lines_in, bits_in, turn_in, straight_in, across_in, red_in, rows_first, rows_second, AllowedIn}
use Rattle.decoder_lines.specs.Layouts.{layout_of, LinkedIn, FramesFit}
use Rattle.layout.proofs.Layouts.{lawful_in, t_highest, size_highest, r_highest, bits_highest, degree_in, lines-most, red-most, read_in, first_in, second_in}

permutes_in : (z : Shape) (d : Design) (links : List ℕ) → LinkedIn z d links → PermutesIn z (params_of d) (lists_in d links)
unfolding LinkedIn PermutesIn
permutes_in FeedForward d links K = (K.self, K.parity)
permutes_in Original d links K = K

module _ {f : Frames} {links : List ℕ} (F : FramesFit f links) where
  lists_permute : PermutesIn f.shape (params_of f.d) (lists_in f.d links)
  lists_permute = permutes_in f.shape f.d links F.linked

  pub lawful_of : Lawful (layout_of f links)
  lawful_of = lawful_in f.shape f.d (lists_in f.d links) f.blocks F.allowed lists_permute

  pub t-high : f.d.t ≤ 3
  t-high = t_highest f.shape f.d F.allowed

  pub size-high : f.d.size ≤ 500
  size-high = size_highest f.shape f.d F.allowed

  pub r-high : f.d.m * f.d.t ≤ 30
  r-high = r_highest f.shape f.d F.allowed

  pub bits-high : bits_in f.shape (params_of f.d) ≤ 1023
  bits-high = bits_highest f.shape f.d F.allowed

  pub r_some : 0 < f.d.m * f.d.t
  r_some = (degree_in f.shape f.d F.allowed).0

  pub g_degree : (params_of f.d).g / 2 ^ (f.d.m * f.d.t) ≡ 1
  g_degree = (degree_in f.shape f.d F.allowed).1

  pub lines-few : lines_in f.shape f.blocks ≤ 4097
  lines-few = omega (arith, lines-most f.shape f.blocks, F.few-blocks)

  pub info-few : f.blocks * (f.d.size * f.d.size) ≤ 1024000000
  info-few =
      let area = small_product f.d.size f.d.size 500 500 size-high size-high in
      small_product f.blocks (f.d.size * f.d.size) 4096 250000 F.few-blocks area

  pub red-few : red_in f.shape (params_of f.d) f.blocks ≤ 33554432
  red-few = red-most f.shape f.d f.blocks F.allowed F.few-blocks

  -- position p as it is read is the turned position of the word
  pub site_read : (k a p : ℕ) → p < bits_in f.shape (params_of f.d) → get_or ((layout_of f links).sites k a) p unsent
      ≡ get_or (straight_in f.shape (params_of f.d) (lists_in f.d links) f.blocks k a) (turn_in f.shape (params_of f.d) k p) unsent
  site_read k a p h = read_in f.shape f.d (lists_in f.d links) f.blocks k a p F.allowed lists_permute h

-- ---- positions behind the blocks

-- a kind whose words have bits there has links
tail_shape : (z : Shape) (s : Params) (p : ℕ) → 2 * s.M ≤ p → p < bits_in z s → z ≡ FeedForward
unfolding bits_in
tail_shape FeedForward s p low h = refl
tail_shape Original s p low h = absurd (let z : ⊥ = omega (arith, low, h) in z)

feed_part : (z : Shape) (d : Design) (links : List ℕ) → z ≡ FeedForward → AllowedIn z d → LinkedIn z d links → Allowed d × LinksFit d links
unfolding AllowedIn LinkedIn
feed_part z d links e A K = (subst (λ (x : Shape). AllowedIn x d) e A, subst (λ (x : Shape). LinkedIn x d links) e K)

-- the site and the crossing word of a position behind the blocks
feed_red : (z : Shape) (s : Params) (L : ℕ) → z ≡ FeedForward → red_in z s L ≡ groups L * (2 * order s)
unfolding red_in
feed_red z s L e = ap (λ (x : Shape). red_in x s L) e

feed_bits : (z : Shape) (s : Params) → z ≡ FeedForward → bits_in z s ≡ word_length s
unfolding bits_in
feed_bits z s e = ap (λ (x : Shape). bits_in x s) e

feed_lines : (z : Shape) (L : ℕ) → z ≡ FeedForward → lines_in z L ≡ 2 * groups L
unfolding lines_in
feed_lines z L e = ap (λ (x : Shape). lines_in x L) e

feed_crossing : (z : Shape) (s : Params) (l : Interleavers) (k a p : ℕ) → z ≡ FeedForward → crossing s l k a p ≡ across_in z s l k a p
unfolding across_in
feed_crossing z s l k a p e = ap (λ (x : Shape). across_in x s l k a p) (sym e)

feed_site : (z : Shape) (s : Params) (l : Interleavers) (L k a p : ℕ) → z ≡ FeedForward
    → {x : Site} → get_or (straight_in FeedForward s l L k a) p unsent ≡ x → get_or (straight_in z s l L k a) p unsent ≡ x
feed_site z s l L k a p e h = ap (λ (x : Shape). get_or (straight_in x s l L k a) p unsent) e ∙ h

module _ {f : Frames} {links : List ℕ} (F : FramesFit f links) (p : ℕ) (low : 2 * f.d.size ≤ p) (hp : p < bits_in f.shape (params_of f.d)) where
  abbrev s : Params
  s = params_of f.d

  is-feed : f.shape ≡ FeedForward
  is-feed = tail_shape f.shape s p low hp

  pub tail-allowed : Allowed f.d × LinksFit f.d links
  tail-allowed = feed_part f.shape f.d links is-feed F.allowed F.linked

  pub tail-bits : p < word_length (params_of f.d)
  tail-bits = subst (λ (n : ℕ). p < n) (feed_bits f.shape s is-feed) hp

  pub tail-red : red_in f.shape (params_of f.d) f.blocks ≡ groups f.blocks * (2 * order (params_of f.d))
  tail-red = feed_red f.shape s f.blocks is-feed

  pub tail-lines : lines_in f.shape f.blocks ≡ 2 * groups f.blocks
  tail-lines = feed_lines f.shape f.blocks is-feed

  pub tail-crossing : (l : Interleavers) (k a : ℕ) → crossing (params_of f.d) l k a p ≡ across_in f.shape (params_of f.d) l k a p
  tail-crossing l k a = feed_crossing f.shape s l k a p is-feed

  pub tail_site : (k a : ℕ) → a < f.d.size → get_or (straight_in f.shape (params_of f.d) (lists_in f.d links) f.blocks k a) p unsent
      ≡ in_red (k / 2 * (2 * order (params_of f.d))
      + cond (even k) (partner (params_of f.d) (lists_in f.d links) true ((p - 2 * f.d.size) * f.d.size + a)) ((p - 2 * f.d.size) * f.d.size + a))
  unfolding straight_in
  tail_site k a ha =
      feed_site f.shape s (lists_in f.d links) f.blocks k a p is-feed
      (line-red s (lists_in f.d links) f.blocks (proper_of f.d tail-allowed.0) a p ha low tail-bits k)

-- ---- positions in the blocks

module _ {f : Frames} {links : List ℕ} (F : FramesFit f links) (k a p : ℕ) (hk : k < lines_in f.shape f.blocks) where
  pub site_first : p < f.d.size → get_or (straight_in f.shape (params_of f.d) (lists_in f.d links) f.blocks k a) p unsent
      ≡ block_at (params_of f.d) f.blocks k (cond (rows_first f.shape k) (a * f.d.size + p) (p * f.d.size + a))
  site_first h = first_in f.shape f.d (lists_in f.d links) f.blocks k a p F.allowed hk h

  pub site_second : f.d.size ≤ p → p < 2 * f.d.size → get_or (straight_in f.shape (params_of f.d) (lists_in f.d links) f.blocks k a) p unsent
      ≡ block_at (params_of f.d) f.blocks (k + 1)
      (cond (rows_second f.shape k) (a * f.d.size + (p - f.d.size)) ((p - f.d.size) * f.d.size + a))
  site_second low h = second_in f.shape f.d (lists_in f.d links) f.blocks k a p F.allowed hk low h
