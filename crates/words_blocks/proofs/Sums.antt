-- Sums over the rows and columns of blocks.
--   row-sum               what `dot` answers for a row that is lent as a part of the block
--   part_length, part_at, part-sum   a part of the table that is lent, and sums with it
--   part_same             a sum over bits that agree
--   first_half, second_half   the tables of the two blocks of a word, as halves that are lent
--   square                a block of m × m bits
--   Adds, adds_part       a sum added for each word, by a part that is lent, and by the table
--   added_twice           two sums added for each word
--   none_added, column_added, row_added   the sums over a block that may not be sent
--   unread, read_whole    how many bits of a block are read for a word
--   read-few              no more than it has columns
--   read_each             as many for each word as there are words
--   zeros_are             a list of zeros as a table
--   blocks_added          the two blocks of a group's words, from 0
-- Assumes nothing.
use mathlib.Core.Path.{◌≡◌, refl, sym, ap, ap₂, subst₂, ◌∙◌}
use mathlib.Core.Bool.{Bool, true, false, cond}
use mathlib.Core.List.{List, ◌∷◌}
use Prim.Native.Nat.{ℕ, zero, suc, ◌+◌, ◌-◌, ◌*◌, ◌/◌, ◌≤◌, ◌<◌}
use native.Mathlib.Nat.{zero-mul}
use native.Mathlib.Decide.{dec_lt}
use native.Mathlib.Omega.{arith}
use lib.Dec.{eqb}
use lib.ListN.{length, get_or, take, drop, replicate, length-drop, length-replicate, get_or-eq_default}
use borrow.Author.Tests.{eq-eqb, ne_eqb}
use lib.Seq.{length-take-le, get_or-take, get_or-drop, ext_get_or}
use Rattle.bch.specs.Polynomial.{◌⊕◌}
use Rattle.bch.specs.Powers.{xor_sum}
use Rattle.bch.proofs.Sum.{⊕-zero-left, ⊕-zero-right}
use Rattle.bch.proofs.PowerSum.{xor_sum-same, xor_sum-zero}
use Rattle.staircase.specs.Lists.{tabulate}
use Rattle.staircase.specs.System.{Contents}
use Rattle.staircase.proofs.Search.{cond-true, cond-false}
use Rattle.staircase.proofs.Tabulate.{tabulate-length, tabulate-at, tabulate-same}
use Rattle.bch_remainders.proofs.Rows.{row-length, row_at}
use Rattle.words_tables.specs.Tables.{MaySum, MayHalves, part_of}
use Rattle.words_blocks.specs.Blocks.{block_reads, part_sum, bit_place, block_sum, PartAdded}

module _ (block part : List ℕ) (from : ℕ) (inside : from + length part ≤ length block) where
  abbrev row : List ℕ
  row = take (from + length part - from) (drop from block)

  pub row-sum : xor_sum (length (take (from + length part - from) (drop from block))) (λ j. get_or (take (from + length part - from) (drop from block)) j 0 * get_or part j 0)
      ≡ xor_sum (length part) (λ j. get_or block (from + j) 0 * get_or part j 0)
  row-sum =
      ap (λ (n : ℕ). xor_sum n (λ j. get_or row j 0 * get_or part j 0)) (row-length block from (length part) inside)
      ∙ xor_sum-same (length part) (λ j. get_or row j 0 * get_or part j 0) (λ j. get_or block (from + j) 0 * get_or part j 0)
      (λ j l. ap (λ (b : ℕ). b * get_or part j 0) (row_at block from (length part) j l))

-- ---- a part of the table, from entry `from` up to entry `end`

module _ (positions : List ℕ) (from end w : ℕ) (is : from + w ≡ end) (inside : end ≤ length positions) where
  abbrev part : List ℕ
  part = take (end - from) (drop from positions)

  pub part_length : length (take (end - from) (drop from positions)) ≡ w
  part_length = length-take-le (end - from) (drop from positions) (rw length-drop (omega arith)) ∙ omega arith

  pub part_at : (j : ℕ) → j < w → get_or (take (end - from) (drop from positions)) j 0 ≡ get_or positions (from + j) 0
  part_at j l = get_or-take (end - from) (drop from positions) j 0 (omega arith) ∙ get_or-drop from positions j 0

  -- the bits may be laid out by the part's length
  pub part-sum : (b : ℕ → ℕ → ℕ) → xor_sum (length (take (end - from) (drop from positions)))
      (λ j. b (length (take (end - from) (drop from positions))) j * get_or (take (end - from) (drop from positions)) j 0) ≡ part_sum positions from w (b w)
  unfolding part_sum
  part-sum b =
      ap (λ (n : ℕ). xor_sum n (λ j. b n j * get_or part j 0)) part_length
      ∙ xor_sum-same w (λ j. b w j * get_or part j 0) (λ j. b w j * get_or positions (from + j) 0)
      (λ j l. ap (λ (x : ℕ). b w j * x) (part_at j l))

pub part_same : (positions : List ℕ) (from w : ℕ) (b c : ℕ → ℕ) → ((j : ℕ) → j < w → b j ≡ c j) → part_sum positions from w b ≡ part_sum positions from w c
unfolding part_sum
part_same positions from w b c same =
    xor_sum-same w (λ j. b j * get_or positions (from + j) 0) (λ j. c j * get_or positions (from + j) 0) (λ j l. ap (λ (x : ℕ). x * get_or positions (from + j) 0) (same j l))

-- ---- tables of sums

-- n words, of which w are lent
module _ (positions : List ℕ) (n w : ℕ) (tables : List ℕ) (wide : w ≡ n) (H : MayHalves positions n tables) where
  pub first_half : MaySum (part_of positions 0 w) (take (length tables / 2 - 0) (drop 0 tables))
  first_half =
      let e : length tables / 2 ≡ length tables / 2 - 0 = omega arith in
      subst₂ (λ (k h : ℕ). MaySum (part_of positions 0 k) (take h (drop 0 tables))) (sym wide) e H.first

  pub second_half : MaySum (part_of positions w w) (take (2 * (length tables / 2) - length tables / 2) (drop (length tables / 2) tables))
  second_half =
      let e : length tables / 2 ≡ 2 * (length tables / 2) - length tables / 2 = omega arith in
      subst₂ (λ (k h : ℕ). MaySum (part_of positions k k) (take h (drop (length tables / 2) tables))) (sym wide) e H.second

-- ---- the sums of all words

pub square : (x a b m : ℕ) → x ≡ m * m → a ≡ m → b ≡ m → x ≡ a * b
square x a b m e p q = e ∙ ap₂ ◌*◌ (sym p) (sym q)

-- `new` is `old` with a sum for each word: of a part of the table, at the ones of the word's bits b. They may be laid out by the number of words
-- and the part's length.
abbrev pub Adds : List ℕ → (ℕ → ℕ → ℕ → ℕ → ℕ) → List ℕ → List ℕ → Type 0
Adds part b old new =
    (length new ≡ length old)
    × ((a : ℕ) → a < length old → get_or new a 0 ≡ get_or old a 0 ⊕ xor_sum (length part) (λ j. b (length old) (length part) a j * get_or part j 0))

-- the bits that are meant are those of c
pub adds_part : (positions : List ℕ) (from r : ℕ) → from + r ≤ length positions → (b : ℕ → ℕ → ℕ → ℕ → ℕ) (c : ℕ → ℕ → ℕ → ℕ) (old new : List ℕ)
    → ((a j : ℕ) → a < length old → j < r → b (length old) r a j ≡ c (length old) a j) → Adds (take (from + r - from) (drop from positions)) b old new
    → PartAdded positions from r c old new
adds_part positions from r inside b c old new same added =
    let w : ℕ = length old in (
      added.0,
      λ a h. added.1 a h
          ∙ ap (λ (x : ℕ). get_or old a 0 ⊕ x)
          (part-sum positions from (from + r) r refl inside (λ v j. b w v a j) ∙ part_same positions from r (b w r a) (c w a) (λ j l. same a j h l)),
    )

-- two parts, one after the other
pub added_twice : (positions : List ℕ) (from end u v n : ℕ) (f : ℕ → ℕ) (b c : ℕ → ℕ → ℕ → ℕ) (one two three : List ℕ) → one ≡ tabulate n f
    → PartAdded positions from u b one two → PartAdded positions end v c two three
    → three ≡ tabulate n (λ a. f a ⊕ part_sum positions from u (b n a) ⊕ part_sum positions end v (c n a))
added_twice positions from end u v n f b c one two three e first second =
    let g : ℕ → ℕ = λ a. f a ⊕ part_sum positions from u (b n a) ⊕ part_sum positions end v (c n a) in
    let wide : length one ≡ n = ap length e ∙ tabulate-length n f in
    let all : length three ≡ n = second.0 ∙ first.0 ∙ wide in
    ext_get_or 0 three (tabulate n g) (all ∙ sym (tabulate-length n g))
    (λ a m. let la : a < n = omega (arith, all) in
    second.1 a (omega (arith, first.0, wide))
    ∙ ap₂ (λ (x k : ℕ). x ⊕ part_sum positions end v (c k a))
    (first.1 a (omega (arith, wide))
    ∙ ap₂ (λ (x k : ℕ). x ⊕ part_sum positions from u (b k a)) (ap (λ (t : List ℕ). get_or t a 0) e ∙ tabulate-at n f 0 a la) wide)
    (first.0 ∙ wide)
    ∙ sym (tabulate-at n g 0 a la))

-- ---- the two blocks of a line's words

module _ (column : Bool) (block positions old : List ℕ) (from : ℕ) where
  abbrev bits : ℕ → ℕ → ℕ → ℕ
  bits w a j = get_or block (bit_place column w a j) 0

  pub none_added : length block ≡ 0 → PartAdded positions from (length old) (λ w a j. get_or block (bit_place column w a j) 0) old old
  unfolding part_sum
  none_added e =
      let n : ℕ = length old in (
        refl,
        λ a h. sym (ap (λ (z : ℕ). get_or old a 0 ⊕ z)
            (xor_sum-zero n (λ j. bits n a j * get_or positions (from + j) 0)
            (λ j l. ap (λ (b : ℕ). b * get_or positions (from + j) 0) (get_or-eq_default block 0 (omega (arith, e))) ∙ zero-mul (get_or positions (from + j) 0)))
            ∙ ⊕-zero-right (get_or old a 0)),
      )

  module _ (new : List ℕ) (inside : from + length old ≤ length positions) where
    pub column_added : column ≡ true → Adds (take (from + length old - from) (drop from positions)) (λ w v a j. get_or block (j * w + a) 0) old new
        → PartAdded positions from (length old) (λ w a j. get_or block (bit_place column w a j) 0) old new
    unfolding bit_place
    column_added is added =
        adds_part positions from (length old) inside (λ w v a j. get_or block (j * w + a) 0) bits old new
        (λ a j h l. ap (λ (z : Bool). get_or block (cond z (j * length old + a) (a * length old + j)) 0) (sym is)) added

    pub row_added : column ≡ false → Adds (take (from + length old - from) (drop from positions)) (λ w v a j. get_or block (a * v + j) 0) old new
        → PartAdded positions from (length old) (λ w a j. get_or block (bit_place column w a j) 0) old new
    unfolding bit_place
    row_added is added =
        adds_part positions from (length old) inside (λ w v a j. get_or block (a * v + j) 0) bits old new
        (λ a j h l. ap (λ (z : Bool). get_or block (cond z (j * length old + a) (a * length old + j)) 0) (sym is)) added

-- ---- the bits that are read

module _ (block : List ℕ) (size : ℕ) where
  pub unread : length block ≡ 0 → 0 ≡ block_reads block size
  unfolding block_reads
  unread e = sym (cond-true (eqb (length block) 0) 0 size (eq-eqb (length block) 0 e))

  pub read_whole : {n : ℕ} → ¬ (length block ≡ 0) → n ≡ size → n ≡ block_reads block size
  unfolding block_reads
  read_whole e h = h ∙ sym (cond-false (eqb (length block) 0) 0 size (ne_eqb (length block) 0 e))

  pub read-few : block_reads block size ≤ size
  unfolding block_reads
  read-few = go (eqb (length block) 0)
    where
      go : (z : Bool) → cond z 0 size ≤ size
      go true = omega arith
      go false = omega arith

-- the number of words is that of the bits of each
pub read_each : (n words : ℕ) → ((a : ℕ) → a < words → n ≡ words) → n ≤ words → n ≡ words
read_each n words each few = go (dec_lt 0 words)
  where
    go : Dec (0 < words) → n ≡ words
    go (yes h) = each 0 h
    go (no h) = omega arith

pub zeros_are : (n : ℕ) → ◌≡◌ {A = List ℕ} (replicate n 0) (tabulate n (λ k. 0))
unfolding tabulate
zeros_are zero = refl
zeros_are (suc n) = ap (λ (t : List ℕ). 0 ∷ t) (zeros_are n)

pub blocks_added : (column column' : Bool) (positions : List ℕ) (n : ℕ) (f h : Contents) (start one two : List ℕ) → start ≡ replicate n 0
    → PartAdded positions 0 (length start) (λ w a j. f (bit_place column w a j)) start one
    → PartAdded positions (length one) (length one) (λ w a j. h (bit_place column' w a j)) one two
    → two ≡ tabulate n (block_sum column column' positions n f h)
unfolding block_sum
blocks_added column column' positions n f h start one two none first second =
    let b : ℕ → ℕ → ℕ → ℕ = λ w a j. f (bit_place column w a j) in
    let c : ℕ → ℕ → ℕ → ℕ = λ w a j. h (bit_place column' w a j) in
    let u : ℕ = length start in
    let v : ℕ = length one in
    let wide : u ≡ n = ap length none ∙ length-replicate n 0 in
    added_twice positions 0 v u v n (λ a. 0) b c start one two (none ∙ zeros_are n) first second
    ∙ tabulate-same n (λ a. 0 ⊕ part_sum positions 0 u (b n a) ⊕ part_sum positions v v (c n a)) (λ a. part_sum positions 0 n (b n a) ⊕ part_sum positions n n (c n a))
    (λ a l. ap₂ ◌⊕◌ (⊕-zero-left (part_sum positions 0 u (b n a)) ∙ ap (λ (k : ℕ). part_sum positions 0 k (b n a)) wide)
    (ap (λ (k : ℕ). part_sum positions k k (c n a)) (first.0 ∙ wide)))
