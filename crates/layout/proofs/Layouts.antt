-- What is known of frames of every kind.
--   lawful_in                      all that is asked of a kind of frame
--   m-highest .. code_in           its sizes
--   word_parts                     the bits of a word are those of two blocks and of the parts behind them
--   lines-most, red-most           the lines of a frame and the bits of its redundancy
--   turned-even .. turn-not        which lines are read backwards, and where a position is then
--   taken_turned                   the lines of a pass
--   read_in, crossing-read         words as they are read, from words as they are written
--   first_in, second_in            the site at a position of the blocks
--   crossing-first, crossing-second   the crossing word of such a position, as code finds it
-- Assumes nothing.
use mathlib.Core.Path.{◌≡◌, refl, sym, ap, ◌∙◌}
use mathlib.Core.Bool.{Bool, true, false, not, cond, true≢false}
use Prim.Native.Nat.{ℕ, zero, suc, ◌+◌, ◌-◌, ◌*◌, ◌/◌, ◌^◌, ◌≤◌, ◌<◌}
use native.Mathlib.Numerals.{add-one}
use native.Mathlib.Omega.{arith}
use lib.ListN.{get_or}
use borrow.Author.Tests.{lt-ltb}
use lib.Dec.{ltb}
use Rattle.staircase.specs.Design.{Params, Interleavers, most-blocks, order}
use Rattle.staircase.specs.Frame.{groups, block_at}
use Rattle.staircase.specs.Frame.Site.{unsent}
use Rattle.staircase.specs.Lines.{even, line_sites, turn, incidence, crossing, read_crossing}
use Rattle.staircase.proofs.Bounds.{small_product}
use Rattle.staircase.proofs.Search.{cond-true, cond-false}
use Rattle.staircase.proofs.Lines.{line_first, line_second}
use Rattle.staircase.proofs.Crossing as feed
use Rattle.staircase.proofs.Turned.{turned_row, turned-column, read_at}
use Rattle.staircase.proofs.Lawful.{Lawful}
use Rattle.staircase.proofs.FeedForward.{feed_forward_lawful}
use Rattle.original.specs.Frame.{block_site, row_sites}
use Rattle.original.specs.Crossing.{row_crossing}
use Rattle.original.proofs.Rules.{degree_some, degree_of}
use Rattle.original.proofs.Crossing as rows
use Rattle.original.proofs.Lawful.{staircase_rows_lawful}
use Rattle.design.specs.declared.Design.{Design}
use Rattle.design.specs.Sizes.{params_of}
use Rattle.design.proofs.Allowed.{proper_of, bits_small, code_of}
use Rattle.layout.specs.declared.Shape.{Shape}
use Rattle.layout.specs.declared.Shape.TheVariants.{FeedForward, Original}
use Rattle.layout.specs.Layouts.{lines_in, bits_in, tail_in, turns_in, turned_in, turn_in, taken_in, straight_in, across_in, sites_in, crossing_in, red_in, layout_in, rows_first, rows_second, AllowedIn, PermutesIn}

-- ---- sizes

pub thin_of : (d : Design) → AllowedIn Original d → d.m * d.t ≤ d.size
unfolding AllowedIn
thin_of d A = let h = A.thin in omega (arith, h)

some_of : (d : Design) → AllowedIn Original d → 0 < d.size
unfolding AllowedIn
some_of d A = let h = A.thin in omega (arith, h)

pub lawful_in : (z : Shape) (d : Design) (l : Interleavers) (L : ℕ) → AllowedIn z d → PermutesIn z (params_of d) l → Lawful (layout_in z (params_of d) l L)
unfolding AllowedIn PermutesIn lines_in bits_in sites_in crossing_in red_in
lawful_in FeedForward d l L A P = feed_forward_lawful (params_of d) L l (proper_of d A) P.0 P.1
lawful_in Original d l L A P = staircase_rows_lawful (params_of d) L (some_of d A) (thin_of d A)

pub m_highest : (z : Shape) (d : Design) → AllowedIn z d → d.m ≤ 10
unfolding AllowedIn
m_highest FeedForward d A = A.m-high
m_highest Original d A = A.m-high

pub t_highest : (z : Shape) (d : Design) → AllowedIn z d → d.t ≤ 3
unfolding AllowedIn
t_highest FeedForward d A = A.t-high
t_highest Original d A = A.t-high

pub size_highest : (z : Shape) (d : Design) → AllowedIn z d → d.size ≤ 500
unfolding AllowedIn
size_highest FeedForward d A = A.M-high
size_highest Original d A = A.M-high

pub r_highest : (z : Shape) (d : Design) → AllowedIn z d → d.m * d.t ≤ 30
r_highest z d A = small_product d.m d.t 10 3 (m_highest z d A) (t_highest z d A)

pub bits_highest : (z : Shape) (d : Design) → AllowedIn z d → bits_in z (params_of d) ≤ 1023
unfolding AllowedIn bits_in
bits_highest FeedForward d A = bits_small d A
bits_highest Original d A = let h = A.M-high in omega (arith, h)

pub degree_in : (z : Shape) (d : Design) → AllowedIn z d → (0 < d.m * d.t) × ((params_of d).g / 2 ^ (d.m * d.t) ≡ 1)
unfolding AllowedIn
degree_in FeedForward d A = let ok = proper_of d A in (ok.rpos, ok.degree)
degree_in Original d A = (degree_some A, degree_of A)

-- what the tables of a code ask of it
pub code_in : (z : Shape) (d : Design) → AllowedIn z d → (4 ≤ d.m) × (d.m ≤ 10) × (1 ≤ d.t) × (d.t ≤ 3) × (2 * (d.m * d.t) + 2 < 2 ^ d.m)
unfolding AllowedIn
code_in FeedForward d A = let k = code_of d A in (k.m-low, k.m-high, k.t-low, k.t-high, k.fits)
code_in Original d A = let a = A.long in let b = A.thin in (A.m-low, A.m-high, A.t-low, A.t-high, omega (arith, a, b))

pub word_parts : (z : Shape) (s : Params) → bits_in z s ≡ 2 * s.M + 2 * tail_in z s
unfolding bits_in tail_in
word_parts FeedForward s = refl
word_parts Original s = omega arith

pub tail-most : (z : Shape) (s : Params) → tail_in z s ≤ s.r
unfolding tail_in
tail-most FeedForward s = omega arith
tail-most Original s = omega arith

pub lines-most : (z : Shape) (L : ℕ) → lines_in z L ≤ L + 1
unfolding lines_in
lines-most FeedForward L = omega arith
lines-most Original L = omega arith

pub red-most : (z : Shape) (d : Design) (L : ℕ) → AllowedIn z d → L ≤ most-blocks → red_in z (params_of d) L ≤ 33554432
unfolding AllowedIn red_in
red-most FeedForward d L A h =
    let o = A.order-high in
    let x = small_product (groups L) (2 * order (params_of d)) 2049 8192 (omega (arith, h)) (omega (arith, o)) in omega (arith, x)
red-most Original d L A h = omega arith

-- ---- words that are read backwards

pub turned-even : (z : Shape) (s : Params) (k : ℕ) → even k ≡ true → turned_in z s k ≡ false
unfolding turned_in
turned-even FeedForward s k e = turned_row s k e
turned-even Original s k e = refl

pub turned_odd : (z : Shape) (s : Params) (k : ℕ) → even k ≡ false → turned_in z s k ≡ turns_in z s
unfolding turned_in turns_in
turned_odd FeedForward s k e = turned-column s k e
turned_odd Original s k e = refl

-- where no word is read backwards
pub turned_none : (z : Shape) (s : Params) → turns_in z s ≡ false → (k : ℕ) → turned_in z s k ≡ false
turned_none z s none k = go (even k) refl
  where
    go : (b : Bool) → even k ≡ b → turned_in z s k ≡ false
    go true e = turned-even z s k e
    go false e = turned_odd z s k e ∙ none

module _ (z : Shape) (s : Params) (k p : ℕ) where
  pub turn_at : turned_in z s k ≡ true → turn_in z s k p ≡ bits_in z s - 1 - p
  unfolding turn_in
  turn_at e = cond-true (turned_in z s k) (bits_in z s - 1 - p) p e

  pub turn-not : turned_in z s k ≡ false → turn_in z s k p ≡ p
  unfolding turn_in
  turn-not e = cond-false (turned_in z s k) (bits_in z s - 1 - p) p e

-- a pass takes the lines that are read as it reads
pub taken_turned : (z : Shape) (s : Params) (back : Bool) (k : ℕ) → taken_in z s back k ≡ true → back ≡ turned_in z s k
unfolding taken_in
taken_turned z s true k e = sym e
taken_turned z s false k e = go (turned_in z s k) e
  where
    go : (b : Bool) → not b ≡ true → false ≡ b
    go true q = absurd (true≢false (sym q))
    go false q = refl

turn_feed : (s : Params) (k p : ℕ) → turn_in FeedForward s k p ≡ turn s k p
unfolding turn_in turned_in bits_in turn
turn_feed s k p = refl

rows_ahead : (s : Params) (k : ℕ) → turned_in Original s k ≡ false
unfolding turned_in
rows_ahead s k = refl

turn-rows : (s : Params) (k p : ℕ) → turn_in Original s k p ≡ p
turn-rows s k p = turn-not Original s k p (rows_ahead s k)

-- position p as it is read is the turned position of the word
pub read_in : (z : Shape) (d : Design) (l : Interleavers) (L k a p : ℕ) → AllowedIn z d → PermutesIn z (params_of d) l → p < bits_in z (params_of d)
    → get_or (sites_in z (params_of d) l L k a) p unsent ≡ get_or (straight_in z (params_of d) l L k a) (turn_in z (params_of d) k p) unsent
unfolding AllowedIn PermutesIn sites_in straight_in bits_in
read_in FeedForward d l L k a p A P h =
    read_at (params_of d) L l (proper_of d A) P.0 P.1 k a p h
    ∙ ap (λ (j : ℕ). get_or (line_sites (params_of d) l L k a) j unsent) (sym (turn_feed (params_of d) k p))
read_in Original d l L k a p A P h = ap (λ (j : ℕ). get_or (row_sites (params_of d) k a) j unsent) (sym (turn-rows (params_of d) k p))

-- and so it is in the crossing word
pub crossing-read : (z : Shape) (s : Params) (l : Interleavers) (k a p : ℕ) → (let c = across_in z s l k a (turn_in z s k p) in
    incidence c.line c.word (turn_in z s c.line c.position) ≡ crossing_in z s l k a p)
unfolding across_in crossing_in read_crossing
crossing-read FeedForward s l k a p =
    ap (λ (j : ℕ). incidence (crossing s l k a j).line (crossing s l k a j).word (turn_in FeedForward s (crossing s l k a j).line (crossing s l k a j).position))
    (turn_feed s k p)
    ∙ ap (incidence (crossing s l k a (turn s k p)).line (crossing s l k a (turn s k p)).word)
    (turn_feed s (crossing s l k a (turn s k p)).line (crossing s l k a (turn s k p)).position)
crossing-read Original s l k a p =
    ap (λ (j : ℕ). incidence (row_crossing s k a j).line (row_crossing s k a j).word (turn_in Original s (row_crossing s k a j).line (row_crossing s k a j).position))
    (turn-rows s k p)
    ∙ ap (incidence (row_crossing s k a p).line (row_crossing s k a p).word) (turn-rows s (row_crossing s k a p).line (row_crossing s k a p).position)

-- ---- positions in the blocks

block-sent : (s : Params) (L b c : ℕ) → b ≤ L → block_site s b c ≡ block_at s L b c
block-sent s L zero c h = refl
block-sent s L (suc b) c h = sym (cond-true (ltb b L) _ _ (lt-ltb b L h))

pub first_in : (z : Shape) (d : Design) (l : Interleavers) (L k a p : ℕ) → AllowedIn z d → k < lines_in z L → p < d.size
    → get_or (straight_in z (params_of d) l L k a) p unsent
    ≡ block_at (params_of d) L k (cond (rows_first z k) (a * d.size + p) (p * d.size + a))
unfolding straight_in rows_first lines_in
first_in FeedForward d l L k a p A hk h = line_first (params_of d) l L k a p h
first_in Original d l L k a p A hk h =
    rows.row_at (params_of d) (thin_of d A) k a p (omega (arith, h)) ∙ rows.site_first (params_of d) k a p h
    ∙ block-sent (params_of d) L k (p * d.size + a) (omega (arith, hk))

pub second_in : (z : Shape) (d : Design) (l : Interleavers) (L k a p : ℕ) → AllowedIn z d → k < lines_in z L → d.size ≤ p → p < 2 * d.size
    → get_or (straight_in z (params_of d) l L k a) p unsent
    ≡ block_at (params_of d) L (k + 1) (cond (rows_second z k) (a * d.size + (p - d.size)) ((p - d.size) * d.size + a))
unfolding straight_in rows_second lines_in
second_in FeedForward d l L k a p A hk low h = line_second (params_of d) l L k a p low h
second_in Original d l L k a p A hk low h =
    rows.row_at (params_of d) (thin_of d A) k a p h ∙ rows.site_second (params_of d) k a p low
    ∙ block-sent (params_of d) L (suc k) (a * d.size + (p - d.size)) hk
    ∙ ap (λ (n : ℕ). block_at (params_of d) L n (a * d.size + (p - d.size))) (sym (add-one k))

module _ (s : Params) (l : Interleavers) (k a p : ℕ) where
  pub crossing-first : (z : Shape) → p < s.M → across_in z s l k a p ≡ incidence (k - 1) p (s.M + a)
  unfolding across_in
  crossing-first FeedForward h = feed.crossing-first s l k a p h
  crossing-first Original h = rows.crossing-first s k a p h

  pub crossing-second : (z : Shape) → s.M ≤ p → p < 2 * s.M → across_in z s l k a p ≡ incidence (k + 1) (p - s.M) a
  unfolding across_in
  crossing-second FeedForward low h = feed.crossing-second s l k a p low h
  crossing-second Original low h = rows.crossing-second s k a p low
