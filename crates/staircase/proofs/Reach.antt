-- How far a changed block reaches: a group's redundancy is made from three blocks.
--   group-same   the same blocks give the same group
--   reach        information that differs in one block leaves each group alone that has no part of it
-- Assumes nothing.
use mathlib.Core.Path.{◌≡◌, refl, sym, ap, ap₂, ◌∙◌}
use mathlib.Core.Logic.{◌≢◌}
use mathlib.Core.List.{List, ◌++◌}
use Prim.Native.Nat.{ℕ, ◌+◌, ◌*◌, ◌/◌, ◌%◌, ◌<◌}
use native.Mathlib.Nat.{mod-lt, div-add-mod', div-lt_iff_lt-mul}
use native.Mathlib.Decide.{dec_lt}
use native.Mathlib.Omega.{arith}
use lib.ListN.{get_or, get_or-eq_default}
use Rattle.staircase.specs.Design.{Params, Interleavers, order}
use Rattle.staircase.specs.System.{Contents, zeros, stack, column_parity, constant_entry, inverse_entry, self_entry, group_bits, group_redundancy, redundancy}
use Rattle.staircase.specs.Frame.{groups, block_contents}
use Rattle.staircase.specs.Demand2.{Permutes}
use Rattle.staircase.specs.Demand3.{SameBut}
use Rattle.staircase.proofs.Tabulate.{tabulate-same}
use Rattle.staircase.proofs.Matrix.{sum_bits-same}
use Rattle.staircase.proofs.System.{Proper, Same, order-positive, column_parity-same, residual-same}
use Rattle.staircase.proofs.Redundancy.{redundancy-length, redundancy-at, block_same}

module _ (s : Params) (l : Interleavers) (L : ℕ) (ok : Proper s)
    (ps : Permutes (order s) (λ p. get_or l.self p 0)) (pp : Permutes (order s) (λ p. get_or l.parity p 0)) (w : List ℕ) where
  module _ (f o e f₂ o₂ e₂ : Contents) (hf : Same (s.M * s.M) f f₂) (ho : Same (s.M * s.M) o o₂) (he : Same (s.M * s.M) e e₂) where
    self-same : (q : ℕ) → self_entry s l w f o e q ≡ self_entry s l w f₂ o₂ e₂ q
    unfolding self_entry constant_entry
    self-same q =
        sum_bits-same (order s) (λ k. inverse_entry w (order s) (stack s q) k * constant_entry s l f o e k) (λ k. inverse_entry w (order s) (stack s q) k * constant_entry s l f₂ o₂ e₂ k)
        (λ k m. ap (λ (z : ℕ). inverse_entry w (order s) (stack s q) k * z) (residual-same s l ok ps pp f o e zeros f₂ o₂ e₂ zeros hf ho he (λ j n. refl) k))

    pub group-same : group_bits s l w f o e ≡ group_bits s l w f₂ o₂ e₂
    unfolding group_bits
    group-same =
        ap₂ (λ (u v : List ℕ). u ++ v)
        (tabulate-same (order s) (self_entry s l w f o e) (self_entry s l w f₂ o₂ e₂) (λ q m. self-same q))
        (tabulate-same (order s) (column_parity s o e (self_entry s l w f o e)) (column_parity s o₂ e₂ (self_entry s l w f₂ o₂ e₂))
        (λ q m. column_parity-same s l ok ps pp o e (self_entry s l w f o e) o₂ e₂ (self_entry s l w f₂ o₂ e₂) ho he (λ k n. self-same k) q))

  -- information that differs only in block c leaves each group alone that c is no block of
  pub reach : (info other : List ℕ) (c : ℕ) → SameBut (s.M * s.M) c info other → (k : ℕ)
      → c + 1 ≢ 2 * (k / (2 * order s)) → c + 1 ≢ 2 * (k / (2 * order s)) + 1 → c + 1 ≢ 2 * (k / (2 * order s)) + 2
      → get_or (redundancy s l w L info) k 0 ≡ get_or (redundancy s l w L other) k 0
  unfolding group_redundancy
  reach info other c h k d₀ d₁ d₂ = go (dec_lt k (groups L * (2 * order s)))
    where
      i : ℕ
      i = k / (2 * order s)

      pos : 0 < 2 * order s
      pos = omega (arith, order-positive s ok)

      group : group_redundancy s l w L info i ≡ group_redundancy s l w L other i
      group =
          group-same (block_contents s L info (2 * i)) (block_contents s L info (2 * i + 1)) (block_contents s L info (2 * i + 2))
          (block_contents s L other (2 * i)) (block_contents s L other (2 * i + 1)) (block_contents s L other (2 * i + 2))
          (block_same s L info other c h (2 * i) (λ e. d₀ (sym e))) (block_same s L info other c h (2 * i + 1) (λ e. d₁ (sym e)))
          (block_same s L info other c h (2 * i + 2) (λ e. d₂ (sym e)))

      go : Dec (k < groups L * (2 * order s)) → get_or (redundancy s l w L info) k 0 ≡ get_or (redundancy s l w L other) k 0
      go (yes m) =
          let q : ℕ = k % (2 * order s) in
          let hi : i < groups L = (div-lt_iff_lt-mul pos).1 m in
          let hq : q < 2 * order s = mod-lt k pos in
          ap (λ (z : ℕ). get_or (redundancy s l w L info) z 0) (sym (div-add-mod' k (2 * order s)))
          ∙ redundancy-at s l L ok ps pp w info i q hi hq ∙ ap (λ (u : List ℕ). get_or u q 0) group ∙ sym (redundancy-at s l L ok ps pp w other i q hi hq)
          ∙ ap (λ (z : ℕ). get_or (redundancy s l w L other) z 0) (div-add-mod' k (2 * order s))
      go (no m) =
          let a = redundancy-length s l L ok ps pp w info in
          let b = redundancy-length s l L ok ps pp w other in
          get_or-eq_default (redundancy s l w L info) 0 {n = k} (omega (arith, a))
          ∙ sym (get_or-eq_default (redundancy s l w L other) 0 {n = k} (omega (arith, b)))
