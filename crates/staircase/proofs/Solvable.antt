-- "All words of a group can be codewords exactly when A y = c", for any two permutations, any blocks and any Y. A design that the table allows is
-- proper: `proper_of` in proofs/BchCode.antt.
--   column_info-bits, row_info-bits            the information of a group's words has bits
--   completes_column, completes_row          if all words are codewords, P is what the column words give, and Q what the row words give
--   completes_residual                       then A y + c is 0
--   residual_agree, residual_completes       if A y + c is 0, the P that the column words give has the Q of the row words, and all are codewords
--   residual_solves, solves_residual         A y + c is 0 exactly when A y = c
--   completes_solves, solves_completes       the two directions
--   system_exact                             the theorem
-- Assumes nothing.
use mathlib.Core.Path.{◌≡◌, sym, ap, ap₂, ◌∙◌}
use mathlib.Core.Logic.{◌↔◌}
use Prim.Native.Nat.{ℕ, ◌+◌, ◌*◌, ◌/◌, ◌%◌, ◌<◌}
use native.Mathlib.Nat.{div-add-mod'}
use lib.Arith.{digits_div, digits_mod}
use lib.ListN.{get_or}
use Rattle.bch.specs.Polynomial.{Bits}
use Rattle.bch.specs.Code.{parity}
use Rattle.staircase.specs.Lists.{bit_sum}
use Rattle.staircase.specs.Design.{Params, Interleavers, column_generator, order}
use Rattle.staircase.specs.Word.{row_info, row_word, column_info, column_word}
use Rattle.staircase.specs.System.{Contents, stack, unstack, preimage, column_parity, row_parity, residual, system_entry, constant_entry, apply}
use Rattle.staircase.specs.Solvable.{Completes, Solves}
use Rattle.staircase.specs.Demand2.{Permutes}
use Rattle.staircase.proofs.Tabulate.{Binary}
use Rattle.staircase.proofs.Matrix.{bit_sum-self, bit_sum_equal, sum_bits-lt}
use Rattle.staircase.proofs.Stretches.{three_bits}
use Rattle.staircase.proofs.Parity.{codeword_table, table_codeword}
use Rattle.staircase.proofs.Permutation.{preimage-sent, preimage-of}
use Rattle.staircase.proofs.System.{Proper, place_lt, row-of, column-of, unstack-lt, stack-lt, unstack-stack, column_parity-lt, row_parity-lt, constant_entry-lt, residual-matrix}

module _ (s : Params) (l : Interleavers) (ok : Proper s)
    (ps : Permutes (order s) (λ p. get_or l.self p 0)) (pp : Permutes (order s) (λ p. get_or l.parity p 0))
    (f o e y : Contents) (hf : Binary f) (ho : Binary o) (he : Binary e) (hy : Binary y) where
  column_info-bits : (a : ℕ) → Bits (column_info s o e y a)
  unfolding column_info
  column_info-bits a =
      let at : ℕ → ℕ = λ j. j * s.M + a in
      three_bits s.M s.r (λ j. o (at j)) (λ j. e (at j)) (λ b. y (at b)) (λ j. ho (at j)) (λ j. he (at j)) (λ b. hy (at b))

  row_info-bits : (a : ℕ) → Bits (row_info s l f o y a)
  unfolding row_info
  row_info-bits a =
      let at : ℕ → ℕ = λ j. a * s.M + j in
      let to : ℕ → ℕ = λ b. get_or l.self (b * s.M + a) 0 in
      three_bits s.M s.r (λ j. f (at j)) (λ j. o (at j)) (λ b. y (to b)) (λ j. hf (at j)) (λ j. ho (at j)) (λ b. hy (to b))

  -- ---- a P with which all words are codewords

  module _ (p : Contents) (c : Completes s l f o e y p) where
    pub completes_column : (q : ℕ) → q < order s → p q ≡ column_parity s o e y q
    unfolding column_info column_word column_parity
    completes_column q h =
        let a : ℕ = q % s.M in
        ap p (sym (div-add-mod' q s.M))
        ∙ codeword_table (column_generator s) s.r ok.rpos ok.column_degree (column_info s o e y a) (λ b. p (b * s.M + a))
        (column_info-bits a) (λ b. c.bits (b * s.M + a)) (c.columns a (column-of s ok q)) (q / s.M) (row-of s ok q h)

    completes_row : (q : ℕ) → q < order s → p (get_or l.parity q 0) ≡ row_parity s l f o y q
    unfolding row_info row_word row_parity
    completes_row q h =
        let a : ℕ = q % s.M in
        ap (λ (z : ℕ). p (get_or l.parity z 0)) (sym (div-add-mod' q s.M))
        ∙ codeword_table s.g s.r ok.rpos ok.degree (row_info s l f o y a) (λ b. p (get_or l.parity (b * s.M + a) 0))
        (row_info-bits a) (λ b. c.bits (get_or l.parity (b * s.M + a) 0)) (c.rows a (column-of s ok q)) (q / s.M) (row-of s ok q h)

    completes_residual : (k : ℕ) → k < order s → residual s l f o e y k ≡ 0
    unfolding residual
    completes_residual k h =
        let q : ℕ = unstack s k in
        let hq : q < order s = unstack-lt s ok k h in
        let from : ℕ = preimage l.parity (order s) q in
        let sent = preimage-sent l.parity (order s) pp q hq in
        ap₂ bit_sum (sym (completes_column q hq)) (sym (completes_row from sent.0) ∙ ap p sent.1) ∙ bit_sum-self (p q)

  -- ---- A y + c is 0

  module _ (zero : (k : ℕ) → k < order s → residual s l f o e y k ≡ 0) where
    abbrev P : Contents
    P = column_parity s o e y

    abbrev Q : Contents
    Q = row_parity s l f o y

    -- what the column words give is what the row words give, at each place of Q
    residual_agree : (p : ℕ) → p < order s → P (get_or l.parity p 0) ≡ Q p
    unfolding residual
    residual_agree p h =
        let q : ℕ = get_or l.parity p 0 in
        let hq : q < order s = pp.below p h in
        let z : bit_sum (P (unstack s (stack s q))) (Q (preimage l.parity (order s) (unstack s (stack s q)))) ≡ 0 = zero (stack s q) (stack-lt s ok q hq) in
        bit_sum_equal (P q) (Q p) (column_parity-lt s l ok o e y q) (row_parity-lt s l ok f o y p)
        (sym (ap (λ (x : ℕ). bit_sum (P x) (Q (preimage l.parity (order s) x))) (unstack-stack s ok q hq)
        ∙ ap (λ (x : ℕ). bit_sum (P q) (Q x)) (preimage-of l.parity (order s) pp p h)) ∙ z)

    residual_completes : Completes s l f o e y (column_parity s o e y)
    unfolding row_word row_parity column_word column_parity
    residual_completes =
        record {
          bits = column_parity-lt s l ok o e y;
          rows = λ a ha.
              table_codeword s.g s.r ok.rpos ok.degree (row_info s l f o y a) (λ b. P (get_or l.parity (b * s.M + a) 0))
              (row_info-bits a) (λ b. column_parity-lt s l ok o e y (get_or l.parity (b * s.M + a) 0))
              (λ b m. residual_agree (b * s.M + a) (place_lt s ok b a m ha)
              ∙ ap₂ (λ (u v : ℕ). get_or (parity s.g s.r (row_info s l f o y u)) v 0) (digits_mod b ha) (digits_div b ha));
          columns = λ a ha.
              table_codeword (column_generator s) s.r ok.rpos ok.column_degree (column_info s o e y a) (λ b. P (b * s.M + a))
              (column_info-bits a) (λ b. column_parity-lt s l ok o e y (b * s.M + a))
              (λ b m. ap₂ (λ (u v : ℕ). get_or (parity (column_generator s) s.r (column_info s o e y u)) v 0) (digits_mod b ha) (digits_div b ha));
        }

  -- ---- A y = c

  residual_solves : ((k : ℕ) → k < order s → residual s l f o e y k ≡ 0) → Solves s l f o e y
  residual_solves zero k h =
      bit_sum_equal (apply (order s) (system_entry s l) (λ j. y (unstack s j)) k) (constant_entry s l f o e k)
      (sum_bits-lt (order s) (λ j. system_entry s l k j * y (unstack s j))) (constant_entry-lt s l ok f o e k)
      (sym (residual-matrix s l ok ps pp f o e y hf ho he hy k) ∙ zero k h)

  solves_residual : Solves s l f o e y → (k : ℕ) → k < order s → residual s l f o e y k ≡ 0
  solves_residual solves k h =
      residual-matrix s l ok ps pp f o e y hf ho he hy k
      ∙ ap (λ (z : ℕ). bit_sum z (constant_entry s l f o e k)) (solves k h)
      ∙ bit_sum-self (constant_entry s l f o e k)

  pub completes_solves : (p : Contents) → Completes s l f o e y p → Solves s l f o e y
  completes_solves p c = residual_solves (completes_residual p c)

  pub solves_completes : Solves s l f o e y → Completes s l f o e y (column_parity s o e y)
  solves_completes solves = residual_completes (solves_residual solves)

pub system_exact : (s : Params) (l : Interleavers) → Proper s
    → Permutes (order s) (λ p. get_or l.self p 0) → Permutes (order s) (λ p. get_or l.parity p 0)
    → (f o e y : Contents) → Binary f → Binary o → Binary e → Binary y
    → ((p : Contents) × Completes s l f o e y p) ↔ Solves s l f o e y
system_exact s l ok ps pp f o e y hf ho he hy = (
  λ c. completes_solves s l ok ps pp f o e y hf ho he hy c.0 c.1,
  λ solves. (column_parity s o e y, solves_completes s l ok ps pp f o e y hf ho he hy solves),
)
