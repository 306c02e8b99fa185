-- The product of a kit that fits, as a whole.
--   sides         what the product is taken of
--   wrong_found   the first wrong entry of A W
-- Assumes nothing.
use mathlib.Core.Path.{◌≡◌, sym, ap, ◌∙◌, subst}
use mathlib.Core.List.{List}
use Prim.Native.Nat.{ℕ, ◌*◌, ◌/◌, ◌%◌}
use native.Mathlib.Omega.{arith}
use lib.ListN.{get_or, length}
use Rattle.staircase.specs.Lists.{first_where}
use Rattle.staircase.specs.Design.{column_code}
use Rattle.staircase.specs.System.{row_bytes, system_entry, inverse_entry}
use Rattle.staircase.specs.Rules.{entries, wrong_entry}
use Rattle.staircase.specs.Demand2.{Permutes}
use Rattle.staircase.proofs.Search.{first_where-same}
use Rattle.design.specs.declared.Design.{Design}
use Rattle.design.specs.Sizes.{params_of, order_of, lists_of}
use Rattle.design.proofs.Allowed.{proper_of, r_small, order-positive}
use Rattle.matrix.specs.Packed.{Planes, padded_entry}
use Rattle.kit_system.specs.Rows.{PartOf}
use Rattle.kit_inverse.specs.Products.{Side, product_wrong}
use Rattle.kit_inverse.specs.Fits.{KitFits}
use Rattle.kit_inverse.proofs.KitProduct.{wrong_is}

module _ (d : Design) (own parity inverse work : List ℕ) (h : KitFits d own parity inverse work) (n : ℕ) (e : n ≡ order_of d)
    (columns part : List ℕ) (C : PartOf (column_code (params_of d)) columns) (P : PartOf (params_of d) part) (t : List ℕ) where
  module _ (long : length t ≡ length work) where
    side : (list : List ℕ) → length list ≡ 2 * order_of d → Permutes (order_of d) (λ p. get_or (entries (order_of d) list) p 0) → Side n d.size list columns part t
    side list l permutes =
        record {
          order = e ∙ ap (λ (k : ℕ). d.size * k) (sym P.long);
          positive = omega (arith, order-positive d h.sized.allowed);
          small = omega (arith, h.sized.allowed.order-high);
          r_small = omega (arith, r_small d h.sized.allowed, P.long);
          both = C.long ∙ sym P.long;
          list_length = omega (arith, l);
          planes_length = long ∙ h.sized.work_length ∙ ap (λ (k : ℕ). k * row_bytes k) (sym e);
          permutes = subst (λ (k : ℕ). Permutes k (λ p. get_or (entries k list) p 0)) (sym e) permutes;
        }

    pub sides : Side n d.size own columns part t × Side n d.size parity columns part t
    sides = (side own h.sized.own_length h.own_permutes, side parity h.sized.parity_length h.parity_permutes)

  pub wrong_found : Planes t n (padded_entry inverse n)
      → first_where (n * n) (λ i. product_wrong columns part (entries n own) (entries n parity) d.size t n (i / n) (i % n))
      ≡ first_where (order_of d * order_of d) (wrong_entry (order_of d) (system_entry (params_of d) (lists_of d own parity)) (inverse_entry inverse (order_of d)))
  wrong_found planes =
      ap (λ (k : ℕ). first_where (k * k) (λ i. product_wrong columns part (entries k own) (entries k parity) d.size t k (i / k) (i % k))) e
      ∙ first_where-same (order_of d * order_of d) _ _
      (wrong_is (params_of d) (proper_of d h.sized.allowed) (lists_of d own parity) h.own_permutes h.parity_permutes columns part t inverse C P
      (order-positive d h.sized.allowed) (subst (λ (k : ℕ). Planes t k (padded_entry inverse k)) e planes))
