-- The encoder's group, Y by y = W c and P by the column words: with A W and W A the identity it is the one group whose words are all codewords.
--   self_entry-lt                        its Y has bits
--   self_entry_solves, self_entry-alone   A y = c, and no other Y has this
--   group_completes, group-alone        all words of the group are codewords, and no other group has this
-- Assumes nothing.
use mathlib.Core.Path.{◌≡◌, refl, sym, ap, ◌∙◌}
use mathlib.Core.List.{List}
use Prim.Native.Nat.{ℕ, ◌*◌, ◌<◌}
use native.Mathlib.Omega.{arith}
use lib.ListN.{get_or}
use Rattle.staircase.specs.Design.{Params, Interleavers, order}
use Rattle.staircase.specs.System.{Contents, stack, unstack, column_parity, system_entry, constant_entry, apply, inverse_entry, product, identity, self_entry}
use Rattle.staircase.specs.Solvable.{Completes, Solves}
use Rattle.staircase.specs.Demand2.{Permutes}
use Rattle.staircase.proofs.Tabulate.{Binary}
use Rattle.staircase.proofs.Matrix.{sum_bits-lt, sum_bits-same, apply-product, apply-identity}
use Rattle.staircase.proofs.System.{Proper, stack-lt, stack-unstack, unstack-stack, system_entry-lt, constant_entry-lt, column_parity-same}
use Rattle.staircase.proofs.Solvable.{completes_column, completes_solves, solves_completes}

pub self_entry-lt : (s : Params) (l : Interleavers) (w : List ℕ) (f o e : Contents) → Binary (self_entry s l w f o e)
unfolding self_entry
self_entry-lt s l w f o e q = sum_bits-lt (order s) (λ k. inverse_entry w (order s) (stack s q) k * constant_entry s l f o e k)

inverse_entry-lt : (w : List ℕ) (n i j : ℕ) → inverse_entry w n i j < 2
unfolding inverse_entry
inverse_entry-lt w n i j = omega arith

module _ (s : Params) (l : Interleavers) (ok : Proper s)
    (ps : Permutes (order s) (λ p. get_or l.self p 0)) (pp : Permutes (order s) (λ p. get_or l.parity p 0)) (w : List ℕ)
    (aw : (i j : ℕ) → i < order s → j < order s → product (order s) (system_entry s l) (inverse_entry w (order s)) i j ≡ identity i j)
    (wa : (i j : ℕ) → i < order s → j < order s → product (order s) (inverse_entry w (order s)) (system_entry s l) i j ≡ identity i j)
    (f o e : Contents) (hf : Binary f) (ho : Binary o) (he : Binary e) where
  abbrev n : ℕ
  n = order s

  abbrev A : ℕ → ℕ → ℕ
  A = system_entry s l

  abbrev W : ℕ → ℕ → ℕ
  W = inverse_entry w (order s)

  abbrev c : Contents
  c = constant_entry s l f o e

  abbrev Y : Contents
  Y = self_entry s l w f o e

  self_entry_stacked : (j : ℕ) → j < n → Y (unstack s j) ≡ apply n W c j
  unfolding self_entry
  self_entry_stacked j h = ap (λ (z : ℕ). apply n W c z) (stack-unstack s ok j h)

  self_entry_solves : Solves s l f o e Y
  self_entry_solves k h =
      sum_bits-same n (λ j. A k j * Y (unstack s j)) (λ j. A k j * apply n W c j) (λ j m. ap (λ (z : ℕ). A k j * z) (self_entry_stacked j m))
      ∙ apply-product n A W c (system_entry-lt s l ok) (inverse_entry-lt w n) (constant_entry-lt s l ok f o e) k
      ∙ apply-identity n (product n A W) c (constant_entry-lt s l ok f o e) k h (λ j m. aw k j h m)

  self_entry-alone : (y : Contents) → Binary y → Solves s l f o e y → (q : ℕ) → q < n → y q ≡ Y q
  self_entry-alone y hy solves q h =
      let v : Contents = λ j. y (unstack s j) in
      let j : ℕ = stack s q in
      let hj : j < n = stack-lt s ok q h in
      ap y (sym (unstack-stack s ok q h))
      ∙ sym (apply-identity n (product n W A) v (λ k. hy (unstack s k)) j hj (λ i m. wa j i hj m))
      ∙ sym (apply-product n W A v (inverse_entry-lt w n) (system_entry-lt s l ok) (λ k. hy (unstack s k)) j)
      ∙ sum_bits-same n (λ k. W j k * apply n A v k) (λ k. W j k * c k) (λ k m. ap (λ (z : ℕ). W j k * z) (solves k m))
      ∙ sym (self_entry_stacked j hj) ∙ ap Y (unstack-stack s ok q h)

  -- ---- words

  pub group_completes : Completes s l f o e (self_entry s l w f o e) (column_parity s o e (self_entry s l w f o e))
  group_completes = solves_completes s l ok ps pp f o e Y hf ho he (self_entry-lt s l w f o e) self_entry_solves

  pub group-alone : (y p : Contents) → Binary y → Completes s l f o e y p
      → (q : ℕ) → q < order s → (y q ≡ self_entry s l w f o e q) × (p q ≡ column_parity s o e (self_entry s l w f o e) q)
  group-alone y p hy k q h =
      let same : (q : ℕ) → q < n → y q ≡ Y q = self_entry-alone y hy (completes_solves s l ok ps pp f o e y hf ho he hy p k) in
      (same q h, completes_column s l ok ps pp f o e y hf ho he hy p k q h ∙ column_parity-same s l ok ps pp o e y o e Y (λ j m. refl) (λ j m. refl) same q)
