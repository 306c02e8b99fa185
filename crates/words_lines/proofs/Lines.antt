-- The words of a line of any kind of frame, from the slices that code has.
--   lists_permute, frame-fits, lent_block   the lists, the buffers and the blocks that are lent
--   blocks_of_line            the remainders of its blocks
--   tables-fit, blocks_asked, tail_asked   the tables of sums of the parts of its words, and what its blocks and what is behind them are lent
--   reads-few                 the bits that are read of each word are few
--   line-done                 the remainders of the words, once what is behind the blocks is added, and the bits that are read of each word
-- Assumes nothing.
use mathlib.Core.Path.{◌≡◌, refl, sym, ap, ap₂, ◌∙◌, subst⁻¹}
use mathlib.Core.Bool.{Bool, true, false, not, cond}
use mathlib.Core.List.{List}
use Prim.Native.Nat.{ℕ, zero, suc, ◌+◌, ◌-◌, ◌*◌, ◌≤◌, ◌<◌}
use native.Mathlib.Nat.{mul-zero, mul-one}
use native.Mathlib.Omega.{arith}
use lib.Arith.{digits_lt}
use lib.Dec.{ltb, eqb}
use lib.ListN.{length, get_or}
use lib.Seq.{ext_get_or}
use borrow.Author.Tests.{lt-ltb, ne_eqb}
use Rattle.bch.specs.Polynomial.{Bits, ◌⊕◌, remainder}
use Rattle.staircase.specs.Lists.{tabulate}
use Rattle.staircase.specs.Design.{Params, Interleavers}
use Rattle.staircase.specs.Frame.{block_at, read, frame_of}
use Rattle.staircase.specs.Frame.Site.{unsent, in_info}
use Rattle.staircase.specs.Layout.{Fits}
use Rattle.staircase.specs.Readings.{is_sent}
use Rattle.staircase.proofs.Search.{cond-false}
use Rattle.staircase.proofs.Tabulate.{tabulate-length, tabulate-at}
use Rattle.staircase.proofs.Readings.{line-counted, line-sent}
use Rattle.design.specs.declared.Design.{Design}
use Rattle.design.specs.Sizes.{params_of, lists_of}
use Rattle.layout.specs.declared.Shape.{Shape}
use Rattle.layout.specs.declared.Shape.TheVariants.{FeedForward, Original}
use Rattle.layout.specs.declared.Line.{Line}
use Rattle.layout.specs.declared.Frames.{Frames}
use Rattle.layout.specs.Layouts.{lines_in, bits_in, tail_in, turned_in, rows_first, rows_second, PermutesIn}
use Rattle.layout.proofs.Layouts.{size_highest, bits_highest, word_parts, lawful_in}
use Rattle.words_tables.specs.Tables.{part_of, MayHalves, MayParts, table_length}
use Rattle.words_blocks.specs.Blocks.{sent, block_bytes, BlockLent, block_reads, block_sum}
use Rattle.words_blocks.proofs.Blocks.{sent-none, sent-some, block_none, block-fits, block_lent}
use Rattle.words_blocks.proofs.Sums.{read-few, unread, read_whole}
use Rattle.words_lines.specs.Words.{layout_with, line_remainders, reads_in, line_blocks, tail_sum, ReadTable, ListsIn, TailLent, FramesLent, BlocksLent}
use Rattle.words_lines.proofs.Remainders.{line-is}

-- ---- what is lent

permutes_in : (z : Shape) (d : Design) (own parity : List ℕ) → ListsIn z d own parity → PermutesIn z (params_of d) (lists_of d own parity)
unfolding ListsIn PermutesIn
permutes_in FeedForward d own parity S = (S.own_permutes, S.parity_permutes)
permutes_in Original d own parity S = S

module _ {f : Frames} {own parity info red : List ℕ} (R : FramesLent f own parity info red) where
  pub lists_permute : PermutesIn f.shape (params_of f.d) (lists_of f.d own parity)
  lists_permute = permutes_in f.shape f.d own parity R.tail.lists

  pub frame-fits : Fits (layout_with f own parity) info red
  frame-fits = record { info_length = R.long; red_length = R.tail.long; info_bits = R.bits; red_bits = R.tail.bits }

  pub some_words : 0 < f.d.size
  some_words = (lawful_in f.shape f.d (lists_of f.d own parity) f.blocks R.tail.allowed lists_permute).some

-- a block of it, x, as `block_sums` asks
pub lent_block : {f : Frames} {k size : ℕ} {info positions : List ℕ} → BlocksLent f k size info positions → (x : List ℕ) (b : ℕ)
    → x ≡ block_bytes f.blocks (size * size) info b → BlockLent x (size * size)
lent_block {f} {k} {size} {info} R x b e =
    subst⁻¹ (λ (t : List ℕ). BlockLent t (size * size)) e (block_lent f.blocks (size * size) info b R.blocks R.bits)

pub blocks_of_line : (z : Shape) (positions : List ℕ) (size L : ℕ) (info : List ℕ) (k : ℕ) (x y : List ℕ) (b c : Bool) → x ≡ block_bytes L (size * size) info k
    → y ≡ block_bytes L (size * size) info (k + 1) → b ≡ rows_first z k → c ≡ rows_second z k
    → tabulate size (block_sum (not b) (not c) positions size (λ j. get_or x j 0) (λ j. get_or y j 0)) ≡ tabulate size (line_blocks z positions size L info k)
unfolding line_blocks
blocks_of_line z positions size L info k x y b c ex ey eb ec = rw (ex, ey, eb, ec)

-- ---- the bits that are read

module _ (s : Params) (L : ℕ) (info : List ℕ) (long : length info ≡ L * (s.M * s.M)) (bits : Bits info) (some : 0 < s.M) where
  abbrev area : ℕ
  area = s.M * s.M

  abbrev read_of : ℕ → ℕ
  read_of b = block_reads (block_bytes L area info b) s.M

  none_read : (b : ℕ) → sent L b ≡ false → read_of b ≡ 0
  none_read b e = sym (unread (block_bytes L area info b) s.M (sym (ap length (block_none L area info b e))))

  whole-read : (b : ℕ) → sent L b ≡ true → read_of b ≡ s.M
  whole-read b e =
      let full : length (block_bytes L area info b) ≡ area = (block-fits L area info b long e bits).0 in
      let much : 0 * s.M + 0 < area = digits_lt some some in
      sym (read_whole (block_bytes L area info b) s.M {n = s.M} (λ q. let n : ⊥ = omega (arith, full, q, much) in n) refl)

  -- as many as the sites of the block that are sent
  block_reads_lem : (b : ℕ) → read_of b ≡ s.M * is_sent (block_at s L b 0)
  unfolding sent
  block_reads_lem zero = none_read 0 refl ∙ sym (mul-zero s.M)
  block_reads_lem (suc b) = go (ltb b L) refl
    where
      go : (z : Bool) → ltb b L ≡ z → read_of (suc b) ≡ s.M * is_sent (cond z (in_info (b * area + 0)) unsent)
      go true e = whole-read (suc b) e ∙ sym (mul-one s.M)
      go false e = none_read (suc b) e ∙ sym (mul-zero s.M)

  -- of word a of a line of either kind
  reads_are : (z : Shape) → Interleavers → (k : ℕ) → k < lines_in z L → read_of k + read_of (k + 1) + 2 * tail_in z s ≡ reads_in z s L k
  unfolding lines_in tail_in reads_in
  reads_are FeedForward l k h =
      omega (arith, block_reads_lem k, block_reads_lem (k + 1), line-counted s l L k 0, line-sent s l L k 0 h)
  reads_are Original l zero h =
      omega (arith, none_read 0 (sym (sent-none L 0 (omega arith))), whole-read (0 + 1) (sym (sent-some L (0 + 1) (omega arith)) ∙ lt-ltb (0 + 1 - 1) L (omega (arith, h))))
  reads_are Original l (suc k) h =
      omega (
        arith,
        cond-false (eqb (suc k) 0) s.M (2 * s.M) (ne_eqb (suc k) 0 (λ e. let n : ⊥ = omega (arith, e) in n)),
        whole-read (suc k) (sym (sent-some L (suc k) (omega arith)) ∙ lt-ltb (suc k - 1) L (omega (arith, h))),
        whole-read (suc k + 1) (sym (sent-some L (suc k + 1) (omega arith)) ∙ lt-ltb (suc k + 1 - 1) L (omega (arith, h))),
      )

-- ---- a line

-- what `line_remainders` asks, with w sums
abbrev pub LineLent : Line → List ℕ → List ℕ → List ℕ → List ℕ → List ℕ → List ℕ → ℕ → Type 0
LineLent line own parity info red positions tables w =
    FramesLent line.frames own parity info red × (line.k < lines_in line.frames.shape line.frames.blocks)
    × ReadTable line.frames.shape (params_of line.frames.d) (turned_in line.frames.shape (params_of line.frames.d) line.k) positions
    × (w ≡ line.frames.d.size) × MayParts positions line.frames.d.size (tail_in line.frames.shape (params_of line.frames.d)) tables

module _ {line : Line} {own parity info red positions tables : List ℕ} {w : ℕ} (A : LineLent line own parity info red positions tables w) where
  abbrev f : Frames
  f = line.frames

  abbrev tail : ℕ
  tail = tail_in f.shape (params_of f.d)

  wide-size : f.d.size ≤ 500
  wide-size = size_highest f.shape f.d A.0.tail.allowed

  -- 2 b entries of tables for the blocks, and 2 e for what is behind them
  module _ {size r b e : ℕ} (es : size ≡ line.frames.d.size) (er : r ≡ tail_in line.frames.shape (params_of line.frames.d)) (eb : b ≡ table_length size)
      (ee : e ≡ table_length r) where
    pub tables-fit : 0 < length tables → 2 * b + 2 * e ≤ length tables
    tables-fit h = omega (arith, A.4.long h, eb, ee, ap table_length es, ap table_length er)

    pub blocks_asked : {lent : List ℕ} → lent ≡ part_of tables 0 (2 * b)
        → BlocksLent line.frames line.k w info positions × MayHalves positions w lent
    blocks_asked is = (
      record {
        few-blocks = A.0.tail.few-blocks;
        within = A.1;
        few-columns = omega (arith, A.3, wide-size);
        blocks = A.0.long ∙ sym (ap (λ (k : ℕ). f.blocks * (k * k)) A.3);
        bits = A.0.bits;
        powers = omega (arith, A.3, A.2.long, word_parts f.shape (params_of f.d));
      },
      rw (A.3, is, eb, es) A.4.blocks,
    )

    pub tail_asked : (one lent : List ℕ) (g : ℕ → ℕ) → one ≡ tabulate w g → lent ≡ part_of tables (2 * b) (2 * e)
        → TailLent line.frames own parity red × (line.k < lines_in line.frames.shape line.frames.blocks)
        × (length positions ≡ bits_in line.frames.shape (params_of line.frames.d)) × (length one ≡ line.frames.d.size)
        × MayHalves (part_of positions (2 * line.frames.d.size) (2 * tail_in line.frames.shape (params_of line.frames.d)))
        (tail_in line.frames.shape (params_of line.frames.d)) lent
    tail_asked one lent g made is = (A.0.tail, A.1, A.2.long, ap length made ∙ tabulate-length w g ∙ A.3, rw (is, eb, ee, es, er) A.4.ends)

  -- x bits of the blocks and v behind them are read of each word
  module _ {x v : ℕ}
      (ex : x ≡ block_reads (block_bytes line.frames.blocks (w * w) info line.k) w + block_reads (block_bytes line.frames.blocks (w * w) info (line.k + 1)) w)
      (ev : v ≡ 2 * tail_in line.frames.shape (params_of line.frames.d)) where
    pub reads-few : x + v ≤ 1023
    reads-few =
        omega (
          arith,
          ex,
          ev,
          A.3,
          bits_highest f.shape f.d A.0.tail.allowed,
          word_parts f.shape (params_of f.d),
          read-few (block_bytes f.blocks (w * w) info line.k) w,
          read-few (block_bytes f.blocks (w * w) info (line.k + 1)) w,
        )

    pub line-done : (one two : List ℕ) → one ≡ tabulate w (line_blocks line.frames.shape positions w line.frames.blocks info line.k)
        → length two ≡ length one
        → ((a : ℕ) → a < length one → get_or two a 0 ≡ get_or one a 0
        ⊕ tail_sum line.frames.shape (params_of line.frames.d) (lists_of line.frames.d own parity) red positions line.k a)
        → (two ≡ line_remainders (layout_with line.frames own parity) (frame_of info red) line.k)
        × (x + v ≡ reads_in line.frames.shape (params_of line.frames.d) line.frames.blocks line.k)
    line-done one two made same added =
        let M : ℕ = f.d.size in
        let s : Params = params_of f.d in
        let l : Interleavers = lists_of f.d own parity in
        let g : ℕ → ℕ = line_blocks f.shape positions M f.blocks info line.k in
        let e : one ≡ tabulate M g = made ∙ ap (λ (n : ℕ). tabulate n (line_blocks f.shape positions n f.blocks info line.k)) A.3 in
        let wide : length one ≡ M = ap length e ∙ tabulate-length M g in
        let out : List ℕ = line_remainders (layout_with f own parity) (frame_of info red) line.k in
        let h : ℕ → ℕ = λ a. remainder s.g s.r (read (frame_of info red) ((layout_with f own parity).sites line.k a)) in (
          ext_get_or 0 two out (same ∙ wide ∙ sym (tabulate-length M h))
              (λ a m. let ha : a < M = omega (arith, m, same, wide) in
              added a (omega (arith, m, same)) ∙ ap (λ (y : ℕ). y ⊕ tail_sum f.shape s l red positions line.k a) (ap (λ (t : List ℕ). get_or t a 0) e ∙ tabulate-at M g 0 a ha)
              ∙ line-is f.shape f.d l f.blocks A.0.tail.allowed (lists_permute A.0) info red (frame-fits A.0) line.k a A.1 ha positions A.2
              ∙ sym (tabulate-at M h 0 a ha)),
          ap₂ ◌+◌ (ex ∙ ap (λ (n : ℕ). block_reads (block_bytes f.blocks (n * n) info line.k) n + block_reads (block_bytes f.blocks (n * n) info (line.k + 1)) n) A.3) ev
              ∙ reads_are s f.blocks info A.0.long A.0.bits (some_words A.0) f.shape l line.k A.1,
        )
