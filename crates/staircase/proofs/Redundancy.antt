-- The redundancy of a whole frame.
--   block-binary, block_same   the blocks of a frame
--   read_row, read-column      the bits of its words
--   redundancy-length, redundancy-at, redundancy-bits
--   rows_in_code, columns_in_code   all words of the encoder's frame are in the code
--   redundancy-only            no other redundancy puts all words into the code
-- Assumes nothing.
use mathlib.Core.Path.{◌≡◌, refl, sym, ap, ◌∙◌, subst}
use mathlib.Core.Bool.{true}
use mathlib.Core.Logic.{◌≢◌}
use mathlib.Core.List.{List, [], ◌++◌}
use Prim.Native.Nat.{ℕ, ◌+◌, ◌*◌, ◌<◌}
use native.Mathlib.Nat.{add_assoc}
use native.Mathlib.Decide.{dec_lt}
use native.Mathlib.Omega.{arith}
use lib.Arith.{digits_div}
use lib.ListN.{length, get_or, length-append, get_or-append, get_or-eq_default}
use lib.Seq.{get_or-append-add, ext_get_or}
use Rattle.bch.specs.Polynomial.{Bits}
use Rattle.bch.specs.Code.{is_codeword}
use Rattle.staircase.specs.Lists.{tabulate}
use Rattle.staircase.specs.Design.{Params, Interleavers, column_generator, column_code, order}
use Rattle.staircase.specs.Word.{row_info, row_word, column_info, column_word}
use Rattle.staircase.specs.System.{Contents, column_parity, system_entry, inverse_entry, product, identity, self_entry, group_bits, group_redundancy, redundancy}
use Rattle.staircase.specs.Solvable.{Completes}
use Rattle.staircase.specs.Frame.{Frame, Site, bit_at, groups, block_at, y_at, p_at, row_sites, column_sites, read, in_code, block_contents}
use Rattle.staircase.specs.Demand2.{Permutes}
use Rattle.staircase.specs.Demand3.{SameBut}
use Rattle.staircase.proofs.Stretches.{four, four_map, four_same}
use Rattle.staircase.proofs.System.{Proper, place_lt, column_parity-lt}
use Rattle.staircase.proofs.Solution.{self_entry-lt, group_completes, group-alone}
use Rattle.staircase.proofs.Sites.{block_ind, red_ind}
use Rattle.staircase.proofs.Tabulate.{Binary, tabulate-length, tabulate-at, concat-length, concat-at}

-- ---- the blocks of a frame

module _ (s : Params) (L : ℕ) where
  block-bit : (info red : List ℕ) (b k : ℕ) → bit_at (record { info = info; red = red }) (block_at s L b k) ≡ block_contents s L info b k
  block-bit info red b k =
      block_ind s L (λ (x : Site). bit_at (record { info = info; red = red }) x ≡ bit_at (record { info = info; red = [] }) x) b k refl (λ c e l. refl)

  pub block-binary : (info : List ℕ) → Bits info → (b : ℕ) → Binary (block_contents s L info b)
  block-binary info h b k =
      block_ind s L (λ (x : Site). bit_at (record { info = info; red = [] }) x < 2) b k (omega arith) (λ c e l. h (c * (s.M * s.M) + k))

  -- two lists of information that agree outside block c have every other block in common
  pub block_same : (info other : List ℕ) (c : ℕ) → SameBut (s.M * s.M) c info other
      → (b : ℕ) → b ≢ c + 1 → (k : ℕ) → k < s.M * s.M → block_contents s L info b k ≡ block_contents s L other b k
  block_same info other c h b d k m =
      block_ind s L (λ (x : Site). bit_at (record { info = info; red = [] }) x ≡ bit_at (record { info = other; red = [] }) x) b k refl
      (λ j e l. h (j * (s.M * s.M) + k) (λ q. d (let z : j ≡ c = sym (digits_div j m) ∙ q in omega (arith, z, e))))

-- ---- the words of a frame

module _ (s : Params) (l : Interleavers) (L : ℕ) (ok : Proper s)
    (ps : Permutes (order s) (λ p. get_or l.self p 0)) (pp : Permutes (order s) (λ p. get_or l.parity p 0)) where
  -- the bits at places α of blocks b and c, ξ of Y and θ of P
  read-sites : (info red : List ℕ) (i b c : ℕ) (α ξ θ : ℕ → ℕ) → ((k : ℕ) → k < s.r → ξ k < order s) → ((k : ℕ) → k < s.r → θ k < order s) → (y p : Contents)
      → ((q : ℕ) → q < order s → get_or red (i * (2 * order s) + q) 0 ≡ y q) → ((q : ℕ) → q < order s → get_or red (i * (2 * order s) + order s + q) 0 ≡ p q)
      → read (record { info = info; red = red })
      (four s.M s.r (λ j. block_at s L b (α j)) (λ j. block_at s L c (α j)) (λ k. y_at s i (ξ k)) (λ k. p_at s i (θ k)))
      ≡ four s.M s.r (λ j. block_contents s L info b (α j)) (λ j. block_contents s L info c (α j)) (λ k. y (ξ k)) (λ k. p (θ k))
  read-sites info red i b c α ξ θ hξ hθ y p hy hp =
      let x : Frame = record { info = info; red = red } in
      four_map (bit_at x) s.M s.r (λ j. block_at s L b (α j)) (λ j. block_at s L c (α j)) (λ k. y_at s i (ξ k)) (λ k. p_at s i (θ k))
      ∙ four_same s.M s.r (λ j. bit_at x (block_at s L b (α j))) (λ j. bit_at x (block_at s L c (α j))) (λ k. bit_at x (y_at s i (ξ k)))
      (λ j. block_contents s L info b (α j)) (λ j. block_contents s L info c (α j)) (λ k. y (ξ k))
      (λ j m. block-bit s L info red b (α j)) (λ j m. block-bit s L info red c (α j)) (λ k m. hy (ξ k) (hξ k m))
      (λ k. bit_at x (p_at s i (θ k))) (λ k. p (θ k)) (λ k m. hp (θ k) (hθ k m))

  -- the bits of a word of a frame, as the words of a group
  pub read_row : (info red : List ℕ) (i a : ℕ) → a < s.M → (y p : Contents)
      → ((q : ℕ) → q < order s → get_or red (i * (2 * order s) + q) 0 ≡ y q) → ((q : ℕ) → q < order s → get_or red (i * (2 * order s) + order s + q) 0 ≡ p q)
      → read (record { info = info; red = red }) (row_sites s l L i a) ≡ row_word s l (block_contents s L info (2 * i)) (block_contents s L info (2 * i + 1)) y p a
  unfolding row_sites row_word row_info
  read_row info red i a ha =
      let at : (b : ℕ) → b < s.r → b * s.M + a < order s = λ b m. place_lt s ok b a m ha in
      read-sites info red i (2 * i) (2 * i + 1) (λ j. a * s.M + j) (λ b. get_or l.self (b * s.M + a) 0) (λ b. get_or l.parity (b * s.M + a) 0)
      (λ b m. ps.below (b * s.M + a) (at b m)) (λ b m. pp.below (b * s.M + a) (at b m))

  pub read-column : (info red : List ℕ) (i a : ℕ) → a < s.M → (y p : Contents)
      → ((q : ℕ) → q < order s → get_or red (i * (2 * order s) + q) 0 ≡ y q) → ((q : ℕ) → q < order s → get_or red (i * (2 * order s) + order s + q) 0 ≡ p q)
      → read (record { info = info; red = red }) (column_sites s L i a) ≡ column_word s (block_contents s L info (2 * i + 1)) (block_contents s L info (2 * i + 2)) y p a
  unfolding column_sites column_word column_info
  read-column info red i a ha =
      read-sites info red i (2 * i + 1) (2 * i + 2) (λ j. j * s.M + a) (λ b. b * s.M + a) (λ b. b * s.M + a)
      (λ b m. place_lt s ok b a m ha) (λ b m. place_lt s ok b a m ha)

-- ---- the redundancy of a frame

module _ (s : Params) (l : Interleavers) (L : ℕ) (ok : Proper s)
    (ps : Permutes (order s) (λ p. get_or l.self p 0)) (pp : Permutes (order s) (λ p. get_or l.parity p 0)) (w : List ℕ) where
  group-length : (info : List ℕ) (i : ℕ) → length (group_redundancy s l w L info i) ≡ 2 * order s
  unfolding group_redundancy group_bits
  group-length info i =
      let f : Contents = block_contents s L info (2 * i) in
      let o : Contents = block_contents s L info (2 * i + 1) in
      let e : Contents = block_contents s L info (2 * i + 2) in
      let Y : Contents = self_entry s l w f o e in
      let a = tabulate-length (order s) Y in
      let b = tabulate-length (order s) (column_parity s o e Y) in
      let c = length-append (tabulate (order s) Y) (tabulate (order s) (column_parity s o e Y)) in
      omega (arith, a, b, c)

  pub redundancy-length : (info : List ℕ) → length (redundancy s l w L info) ≡ groups L * (2 * order s)
  unfolding redundancy
  redundancy-length info = concat-length (groups L) (2 * order s) (group_redundancy s l w L info) (group-length info)

  pub redundancy-at : (info : List ℕ) (i q : ℕ) → i < groups L → q < 2 * order s
      → get_or (redundancy s l w L info) (i * (2 * order s) + q) 0 ≡ get_or (group_redundancy s l w L info i) q 0
  unfolding redundancy
  redundancy-at info i q hi hq = concat-at (groups L) (2 * order s) (group_redundancy s l w L info) (group-length info) i q hi hq

  module _ (info : List ℕ) (i : ℕ) (hi : i < groups L) where
    abbrev F : Contents
    F = block_contents s L info (2 * i)

    abbrev O : Contents
    O = block_contents s L info (2 * i + 1)

    abbrev E : Contents
    E = block_contents s L info (2 * i + 2)

    abbrev Y : Contents
    Y = self_entry s l w F O E

    abbrev P : Contents
    P = column_parity s O E Y

    redundancy-self : (q : ℕ) → q < order s → get_or (redundancy s l w L info) (i * (2 * order s) + q) 0 ≡ Y q
    unfolding group_redundancy group_bits
    redundancy-self q h =
        redundancy-at info i q hi (omega arith)
        ∙ get_or-append (tabulate (order s) Y) (tabulate (order s) P) 0 q (subst (λ (z : ℕ). q < z) (sym (tabulate-length (order s) Y)) h)
        ∙ tabulate-at (order s) Y 0 q h

    redundancy-parity : (q : ℕ) → q < order s → get_or (redundancy s l w L info) (i * (2 * order s) + order s + q) 0 ≡ P q
    unfolding group_redundancy group_bits
    redundancy-parity q h =
        ap (λ (z : ℕ). get_or (redundancy s l w L info) z 0) (add_assoc (i * (2 * order s)) (order s) q)
        ∙ redundancy-at info i (order s + q) hi (omega arith)
        ∙ ap (λ (z : ℕ). get_or (tabulate (order s) Y ++ tabulate (order s) P) (z + q) 0) (sym (tabulate-length (order s) Y))
        ∙ get_or-append-add (tabulate (order s) Y) (tabulate (order s) P) q 0
        ∙ tabulate-at (order s) P 0 q h

  module _ (aw : (i j : ℕ) → i < order s → j < order s → product (order s) (system_entry s l) (inverse_entry w (order s)) i j ≡ identity i j)
      (wa : (i j : ℕ) → i < order s → j < order s → product (order s) (inverse_entry w (order s)) (system_entry s l) i j ≡ identity i j)
      (info : List ℕ) (hb : Bits info) where
    abbrev made : List ℕ
    made = redundancy s l w L info

    small : (b : ℕ) → Binary (block_contents s L info b)
    small b = block-binary s L info hb b

    -- ---- all words of the encoder's frame are in the code

    completes : (i : ℕ) (hi : i < groups L) → Completes s l (F info i hi) (O info i hi) (E info i hi) (Y info i hi) (P info i hi)
    completes i hi =
        group_completes s l ok ps pp w aw wa (F info i hi) (O info i hi) (E info i hi) (small (2 * i)) (small (2 * i + 1)) (small (2 * i + 2))

    pub rows_in_code : (i a : ℕ) → i < groups L → a < s.M → in_code s (record { info = info; red = made }) (row_sites s l L i a) ≡ true
    rows_in_code i a hi ha =
        ap (is_codeword s.g s.r)
        (read_row s l L ok ps pp info made i a ha (Y info i hi) (P info i hi) (redundancy-self info i hi) (redundancy-parity info i hi))
        ∙ (completes i hi).rows a ha

    pub columns_in_code : (i a : ℕ) → i < groups L → a < s.M → in_code (column_code s) (record { info = info; red = made }) (column_sites s L i a) ≡ true
    columns_in_code i a hi ha =
        ap (is_codeword (column_generator s) s.r)
        (read-column s l L ok ps pp info made i a ha (Y info i hi) (P info i hi) (redundancy-self info i hi) (redundancy-parity info i hi))
        ∙ (completes i hi).columns a ha

    -- ---- lists that agree at each place of Y and of P are equal

    agree : (other : List ℕ) → length other ≡ length made
        → ((i q : ℕ) → i < groups L → q < order s → get_or other (i * (2 * order s) + q) 0 ≡ get_or made (i * (2 * order s) + q) 0)
        → ((i q : ℕ) → i < groups L → q < order s → get_or other (i * (2 * order s) + order s + q) 0 ≡ get_or made (i * (2 * order s) + order s + q) 0)
        → other ≡ made
    agree other len hy hp =
        ext_get_or 0 other made len
        (λ k h. red_ind s L l ok ps pp (λ (k : ℕ). get_or other k 0 ≡ get_or made k 0) hy hp k (subst (λ (z : ℕ). k < z) (len ∙ redundancy-length info) h))

    -- ---- no other redundancy has all words in the code

    pub redundancy-only : (other : List ℕ) → length other ≡ length made → Bits other
        → ((i a : ℕ) → i < groups L → a < s.M → in_code s (record { info = info; red = other }) (row_sites s l L i a) ≡ true)
        → ((i a : ℕ) → i < groups L → a < s.M → in_code (column_code s) (record { info = info; red = other }) (column_sites s L i a) ≡ true)
        → other ≡ made
    redundancy-only other len ho rows columns =
        agree other len
        (λ i q hi hq. (alone i hi q hq).0 ∙ sym (redundancy-self info i hi q hq))
        (λ i q hi hq. (alone i hi q hq).1 ∙ sym (redundancy-parity info i hi q hq))
      where
        y : ℕ → Contents
        y i q = get_or other (i * (2 * order s) + q) 0

        p : ℕ → Contents
        p i q = get_or other (i * (2 * order s) + order s + q) 0

        group : (i : ℕ) (hi : i < groups L) → Completes s l (F info i hi) (O info i hi) (E info i hi) (y i) (p i)
        group i hi =
            record {
              bits = λ q. ho (i * (2 * order s) + order s + q);
              rows = λ a ha.
                  ap (is_codeword s.g s.r) (sym (read_row s l L ok ps pp info other i a ha (y i) (p i) (λ q m. refl) (λ q m. refl)))
                  ∙ rows i a hi ha;
              columns = λ a ha.
                  ap (is_codeword (column_generator s) s.r) (sym (read-column s l L ok ps pp info other i a ha (y i) (p i) (λ q m. refl) (λ q m. refl)))
                  ∙ columns i a hi ha;
            }

        alone : (i : ℕ) (hi : i < groups L) (q : ℕ) → q < order s → (y i q ≡ Y info i hi q) × (p i q ≡ P info i hi q)
        alone i hi =
            group-alone s l ok ps pp w aw wa (F info i hi) (O info i hi) (E info i hi) (small (2 * i)) (small (2 * i + 1)) (small (2 * i + 2))
            (y i) (p i) (λ q. ho (i * (2 * order s) + q)) (group i hi)

    pub redundancy-bits : Bits made
    redundancy-bits k = go (dec_lt k (length made))
      where
        go : Dec (k < length made) → get_or made k 0 < 2
        go (yes h) =
            red_ind s L l ok ps pp (λ (k : ℕ). get_or made k 0 < 2)
            (λ i q hi hq. subst (λ (z : ℕ). z < 2) (sym (redundancy-self info i hi q hq))
            (self_entry-lt s l w (F info i hi) (O info i hi) (E info i hi) q))
            (λ i q hi hq. subst (λ (z : ℕ). z < 2) (sym (redundancy-parity info i hi q hq))
            (column_parity-lt s l ok (O info i hi) (E info i hi) (Y info i hi) q))
            k (subst (λ (z : ℕ). k < z) (redundancy-length info) h)
        go (no h) = subst (λ (z : ℕ). z < 2) (sym (get_or-eq_default made 0 {n = k} (omega arith))) (omega arith)
