-- The product that code takes is that of the kit, for an allowed design.
--   wrong_is   a wrong entry of A W
-- Assumes nothing.
use mathlib.Core.Path.{◌≡◌, ap, ap₂, ◌∙◌}
use mathlib.Core.Bool.{Bool, not, cond}
use mathlib.Core.List.{List}
use Prim.Native.Nat.{ℕ, ◌*◌, ◌/◌, ◌%◌, ◌<◌}
use native.Mathlib.Nat.{mod-lt, div-lt_iff_lt-mul}
use native.Mathlib.Omega.{arith}
use lib.Dec.{eqb}
use lib.ListN.{length, get_or}
use borrow.Author.Tests.{lt-ltb}
use Rattle.staircase.specs.Lists.{sum_bits}
use Rattle.staircase.specs.Design.{Params, Interleavers, column_code, order}
use Rattle.staircase.specs.System.{preimage, system_entry, inverse_entry, product, identity}
use Rattle.staircase.specs.Rules.{wrong_entry}
use Rattle.staircase.specs.Demand2.{Permutes}
use Rattle.staircase.proofs.Matrix.{sum_bits-same}
use Rattle.staircase.proofs.System.{Proper}
use Rattle.matrix.specs.Packed.{plane_bit, Planes, padded_entry}
use Rattle.kit_system.specs.Rows.{PartOf, unstack_of, row_entry}
use Rattle.kit_system.proofs.SystemRows.{row_entry-is}
use Rattle.kit_inverse.specs.Products.{wrong_in, product_wrong}

-- entry x of row e of a product, of the entries A of one factor and B of the other
wrong_row : (f : ℕ → ℕ) (t : List ℕ) (n e x : ℕ) (A B : ℕ → ℕ) → ((k : ℕ) → k < n → f k ≡ A k) → ((k : ℕ) → k < n → plane_bit t n k x ≡ B k)
    → wrong_in f t n e x ≡ not (eqb (sum_bits n (λ k. A k * B k)) (identity e x))
unfolding wrong_in
wrong_row f t n e x A B a b =
    ap (λ (v : ℕ). not (eqb v (identity e x))) (sum_bits-same n (λ k. f k * plane_bit t n k x) (λ k. A k * B k) (λ k h. ap₂ ◌*◌ (a k h) (b k h)))

module _ (s : Params) (ok : Proper s) (l : Interleavers)
    (ps : Permutes (order s) (λ p. get_or l.self p 0)) (pp : Permutes (order s) (λ p. get_or l.parity p 0))
    (columns part t w : List ℕ) (C : PartOf (column_code s) columns) (P : PartOf s part) (pos : 0 < order s) where
  abbrev n : ℕ
  n = order s

  -- the place of Q that the parity list sends to row e, for r powers
  abbrev source : ℕ → ℕ → ℕ
  source r e = preimage l.parity n (unstack_of s.M r e)

  pub wrong_is : Planes t (order s) (padded_entry w (order s)) → (i : ℕ) → i < order s * order s
      → product_wrong columns part l.self l.parity s.M t (order s) (i / order s) (i % order s)
      ≡ wrong_entry (order s) (system_entry s l) (inverse_entry w (order s)) i
  unfolding product_wrong wrong_entry product
  wrong_is planes i h =
      let e : ℕ = i / n in
      let x : ℕ = i % n in
      let he : e < n = (div-lt_iff_lt-mul pos).1 h in
      wrong_row (row_entry columns part l.self s.M (source (length part) e) e) t n e x (system_entry s l e) (λ k. inverse_entry w n k x)
      (λ k m. ap (λ (r : ℕ). row_entry columns part l.self s.M (source r e) e k) P.long ∙ row_entry-is s ok l ps pp columns part C P e k he m)
      (λ k m. planes k x (omega arith) (mod-lt i pos) ∙ ap (λ (z : Bool). cond z (inverse_entry w n k x) 0) (lt-ltb k n m))
