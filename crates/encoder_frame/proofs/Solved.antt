-- A group from Q and P for Y = 0 on.
--   finished_solved             what is made of the words of the solutions is made of the group's constant
--   groups_solved               of all groups of a stretch
--   solved_group                and it is the group
--   start_of-length, start_of-bits   Q and P for Y = 0 are two matrices of bits
-- Assumes nothing.
use mathlib.Core.Path.{◌≡◌, sym, ap, ap₂, ◌∙◌}
use mathlib.Core.List.{List, ◌++◌}
use Prim.Native.Nat.{ℕ, ◌+◌, ◌-◌, ◌*◌, ◌/◌, ◌%◌, ◌^◌, ◌≤◌, ◌<◌}
use native.Mathlib.Nat.{mod-lt, mul_comm}
use native.Mathlib.Omega.{arith}
use lib.Arith.{digits_div, digits_mod}
use lib.ListN.{length, get_or, take, drop, length-append, get_or-append}
use lib.Seq.{get_or-append-add}
use Rattle.bch.specs.Polynomial.{◌⊕◌, Bits}
use Rattle.bch.specs.Powers.{xor_sum}
use Rattle.bch.proofs.Sum.{mod2_bit}
use Rattle.bch.proofs.Systematic.{append_bits}
use Rattle.bch.proofs.PowerSum.{xor_sum-same}
use Rattle.staircase.specs.Lists.{bit_sum, sum_bits, tabulate, concat}
use Rattle.staircase.specs.System.{Contents, inverse_entry}
use Rattle.staircase.specs.Batch.{frame_at}
use Rattle.staircase.proofs.Bounds.{place_below}
use Rattle.staircase.proofs.Matrix.{sum_bits-same}
use Rattle.staircase.proofs.Tabulate.{tabulate-length, tabulate-at, tabulate-bits, tabulate-same, concat-same}
use Rattle.matrix.proofs.Bits.{bit-xor}
use Rattle.words_blocks.specs.Blocks.{part_sum, column_sum, row_sum}
use Rattle.words_blocks.proofs.Sums.{part_at, part_same}
use Rattle.encoder_solution.specs.Bits.{remainder_digit, constant_bit, place_constant}
use Rattle.encoder_solution.specs.Words.{solution_word}
use Rattle.encoder_solution.proofs.Stack.{stack-entry}
use Rattle.encoder_solution.proofs.Solution.{solution_bit}
use Rattle.encoder_frame.specs.Group.{row_digit, column_digit, y_bit, p_bit, group_of, start_of, solved_of, finished_of}

entry_place : (size r k : ℕ) → 0 < r → k < size * r → k % r * size + k / r < size * r
entry_place size r k pos h = omega (arith, stack-entry size r k pos h, mul_comm r size)

-- ---- from the words of the solutions

module _ (columns preimages inverse words solutions start : List ℕ) (size r g : ℕ) (size-pos : 0 < size) (r-pos : 0 < r)
    (fits : 2 * size + r ≤ length columns) (solved : solutions ≡ tabulate (size * r) (solution_word inverse words size r))
    (constant : (q : ℕ) → q < size * r → get_or words q 0 / 2 ^ g % 2 ≡ place_constant start preimages (size * r) q) where
  abbrev y : Contents
  y q = sum_bits (size * r) (λ k. inverse_entry inverse (size * r) (q % size * r + q / size) k * place_constant start preimages (size * r) (k % r * size + k / r))

  abbrev part : List ℕ
  part = take (2 * size + r - 2 * size) (drop (2 * size) columns)

  y_is : (q : ℕ) → q < size * r → get_or solutions q 0 / 2 ^ g % 2 ≡ y q
  y_is q h =
      let n : ℕ = size * r in
      let w : ℕ → ℕ = inverse_entry inverse n (q % size * r + q / size) in
      ap (λ (t : List ℕ). get_or t q 0 / 2 ^ g % 2) solved ∙ ap (λ (x : ℕ). x / 2 ^ g % 2) (tabulate-at n (solution_word inverse words size r) 0 q h)
      ∙ solution_bit inverse words size r g q
      ∙ sum_bits-same n (λ k. w k * (get_or words (k % r * size + k / r) 0 / 2 ^ g % 2)) (λ k. w k * place_constant start preimages n (k % r * size + k / r))
      (λ k l. ap (λ (x : ℕ). w k * x) (constant (k % r * size + k / r) (entry_place size r k r-pos l)))

  pub finished_solved : finished_of solutions g (take (2 * size + r - 2 * size) (drop (2 * size) columns)) size r start ≡ solved_of columns preimages inverse size r start
  unfolding finished_of solved_of part_sum
  finished_solved =
      let n : ℕ = size * r in
      ap₂ ◌++◌ (tabulate-same n (λ q. get_or solutions q 0 / 2 ^ g % 2) y y_is)
      (tabulate-same n (λ q. bit_sum (get_or start (n + q) 0) (remainder_digit (xor_sum r (λ b. get_or solutions (b * size + q % size) 0 / 2 ^ g % 2 * get_or part b 0)) r (q / size)))
      (λ q. bit_sum (get_or start (n + q) 0) (remainder_digit (xor_sum r (λ b. y (b * size + q % size) * get_or columns (2 * size + b) 0)) r (q / size)))
      (λ q h. ap (λ (x : ℕ). bit_sum (get_or start (n + q) 0) (remainder_digit x r (q / size)))
      (xor_sum-same r (λ b. get_or solutions (b * size + q % size) 0 / 2 ^ g % 2 * get_or part b 0) (λ b. y (b * size + q % size) * get_or columns (2 * size + b) 0)
      (λ b l. ap₂ ◌*◌ (y_is (b * size + q % size) (place_below size r b (q % size) l (mod-lt q size-pos)))
      (part_at columns (2 * size) (2 * size + r) r (omega arith) fits b l)))))

pub groups_solved : (columns preimages inverse words solutions red : List ℕ) (size r count : ℕ) → 0 < size → 0 < r → 2 * size + r ≤ length columns
    → solutions ≡ tabulate (size * r) (solution_word inverse words size r)
    → ((g q : ℕ) → g < count → q < size * r → get_or words q 0 / 2 ^ g % 2 ≡ place_constant (frame_at (2 * (size * r)) red g) preimages (size * r) q)
    → concat count (λ g. finished_of solutions g (take (2 * size + r - 2 * size) (drop (2 * size) columns)) size r (frame_at (2 * (size * r)) red g))
    ≡ concat count (λ g. solved_of columns preimages inverse size r (frame_at (2 * (size * r)) red g))
groups_solved columns preimages inverse words solutions red size r count size-pos r-pos fits solved constants =
    concat-same count (λ g. finished_of solutions g (take (2 * size + r - 2 * size) (drop (2 * size) columns)) size r (frame_at (2 * (size * r)) red g))
    (λ g. solved_of columns preimages inverse size r (frame_at (2 * (size * r)) red g))
    (λ g h. finished_solved columns preimages inverse words solutions (frame_at (2 * (size * r)) red g) size r g size-pos r-pos fits solved (λ q l. constants g q h l))

-- ---- the group

module _ (cols positions : List ℕ) (size r : ℕ) (before odd even : Contents) where
  abbrev n : ℕ
  n = size * r

  abbrev rows : Contents
  rows = row_digit positions size r before odd

  abbrev columns : Contents
  columns = column_digit cols size r odd even

  pub start_of-length : length (start_of cols positions size r before odd even) ≡ 2 * (size * r)
  unfolding start_of
  start_of-length =
      length-append (tabulate n rows) (tabulate n columns) ∙ ap₂ (λ (j k : ℕ). j + k) (tabulate-length n rows) (tabulate-length n columns) ∙ omega arith

  pub start_of-bits : Bits (start_of cols positions size r before odd even)
  unfolding start_of
  start_of-bits =
      append_bits (tabulate n rows) (tabulate n columns)
      (tabulate-bits n rows (λ q. mod2_bit (row_sum positions size before odd (q % size) / 2 ^ (r - 1 - q / size))))
      (tabulate-bits n columns (λ q. mod2_bit (column_sum cols size odd even (q % size) / 2 ^ (r - 1 - q / size))))

  start_row : (p : ℕ) → p < n → get_or (start_of cols positions size r before odd even) p 0 ≡ rows p
  unfolding start_of
  start_row p h = get_or-append (tabulate n rows) (tabulate n columns) 0 p (omega (arith, tabulate-length n rows)) ∙ tabulate-at n rows 0 p h

  start_column : (q : ℕ) → q < n → get_or (start_of cols positions size r before odd even) (n + q) 0 ≡ columns q
  unfolding start_of
  start_column q h =
      ap (λ (z : ℕ). get_or (tabulate n rows ++ tabulate n columns) (z + q) 0) (sym (tabulate-length n rows))
      ∙ get_or-append-add (tabulate n rows) (tabulate n columns) q 0 ∙ tabulate-at n columns 0 q h

  module _ (preimages inverse : List ℕ) (size-pos : 0 < size) (r-pos : 0 < r) (within : (q : ℕ) → q < size * r → get_or preimages q 0 < size * r) where
    abbrev start : List ℕ
    start = start_of cols positions size r before odd even

    constant_is : (k : ℕ) → k < n → place_constant start preimages n (k % r * size + k / r)
        ≡ constant_bit (tabulate size (column_sum cols size odd even)) (tabulate size (row_sum positions size before odd)) preimages size r k
    unfolding constant_bit
    constant_is k h =
        let q : ℕ = k % r * size + k / r in
        let l : q < n = entry_place size r k r-pos h in
        let p : ℕ = get_or preimages q 0 in
        let c : k / r < size = (stack-entry size r k r-pos h).quotient in
        ap₂ bit_sum
        (start_column q l ∙ ap₂ (λ (a d : ℕ). remainder_digit (column_sum cols size odd even a) r d) (digits_mod (k % r) c) (digits_div (k % r) c)
        ∙ ap (λ (x : ℕ). remainder_digit x r (k % r)) (sym (tabulate-at size (column_sum cols size odd even) 0 (k / r) c)))
        (start_row p (within q l)
        ∙ ap (λ (x : ℕ). remainder_digit x r (p / size)) (sym (tabulate-at size (row_sum positions size before odd) 0 (p % size) (mod-lt p size-pos))))

    abbrev solved_y : Contents
    solved_y q = sum_bits n (λ k. inverse_entry inverse n (q % size * r + q / size) k * place_constant start preimages n (k % r * size + k / r))

    solved_y_is : (q : ℕ) → solved_y q ≡ y_bit cols positions preimages inverse size r before odd even q
    unfolding y_bit
    solved_y_is q =
        let w : ℕ → ℕ = inverse_entry inverse n (q % size * r + q / size) in
        sum_bits-same n (λ k. w k * place_constant start preimages n (k % r * size + k / r))
        (λ k. w k * constant_bit (tabulate size (column_sum cols size odd even)) (tabulate size (row_sum positions size before odd)) preimages size r k)
        (λ k h. ap (λ (x : ℕ). w k * x) (constant_is k h))

    parity-is : (q : ℕ) → q < n → bit_sum (get_or start (n + q) 0) (remainder_digit (part_sum cols (2 * size) r (λ b. solved_y (b * size + q % size))) r (q / size))
        ≡ p_bit cols size r odd even (y_bit cols positions preimages inverse size r before odd even) q
    unfolding p_bit ◌⊕◌
    parity-is q h =
        let y : Contents = y_bit cols positions preimages inverse size r before odd even in
        ap₂ (λ (x z : ℕ). bit_sum x (remainder_digit z r (q / size))) (start_column q h)
        (part_same cols (2 * size) r (λ b. solved_y (b * size + q % size)) (λ b. y (b * size + q % size)) (λ b l. solved_y_is (b * size + q % size)))
        ∙ sym (bit-xor (column_sum cols size odd even (q % size)) (part_sum cols (2 * size) r (λ b. y (b * size + q % size))) (r - 1 - q / size))

    pub solved_group : solved_of cols preimages inverse size r (start_of cols positions size r before odd even) ≡ group_of cols positions preimages inverse size r before odd even
    unfolding solved_of group_of
    solved_group =
        ap₂ ◌++◌ (tabulate-same n solved_y (y_bit cols positions preimages inverse size r before odd even) (λ q h. solved_y_is q))
        (tabulate-same n
        (λ q. bit_sum (get_or start (n + q) 0) (remainder_digit (part_sum cols (2 * size) r (λ b. solved_y (b * size + q % size))) r (q / size)))
        (p_bit cols size r odd even (y_bit cols positions preimages inverse size r before odd even)) parity-is)
