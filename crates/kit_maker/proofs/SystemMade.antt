-- The working bytes of an allowed design: A is filled in and inverted there.
--   matrix-long               their number is that of the matrix in which A is inverted
--   rows_fit, rows_are        what the rows of A are made from, and that they are those of A
--   singular-at, singular-past   rule 14, by the first column that is a sum of earlier ones
--   copied_is                 the copied right halves are the packed inverse of A
-- Assumes nothing.
use mathlib.Core.Path.{◌≡◌, sym, ap, ◌∙◌, subst}
use mathlib.Core.List.{List}
use Prim.Native.Nat.{ℕ, ◌+◌, ◌*◌, ◌≤◌, ◌<◌}
use native.Mathlib.Nat.{mul_assoc, zero-add}
use native.Mathlib.Omega.{arith}
use lib.ListN.{length, get_or}
use Rattle.staircase.specs.Lists.{tabulate, first_where}
use Rattle.staircase.specs.Design.{Params, Interleavers, order, column_code}
use Rattle.staircase.specs.System.{preimage, system_entry, row_bytes}
use Rattle.staircase.specs.Square.{dependent, inverse_matrix, packed_matrix}
use Rattle.staircase.specs.Rules.{entries}
use Rattle.staircase.specs.Rules.Verdict.{accepted, refused}
use Rattle.staircase.specs.Maker.{make_work, singular_rule}
use Rattle.staircase.proofs.Search.{first_where-same}
use Rattle.staircase.proofs.Rules.{refuse_first-at, refuse_first-past}
use Rattle.staircase.proofs.Columns.{dependent-same, inverse-same}
use Rattle.staircase.proofs.Packed.{packed-same}
use Rattle.staircase.proofs.Maker.{inverse-bits}
use Rattle.design.specs.declared.Design.{Design}
use Rattle.design.specs.Sizes.{params_of, order_of, lists_of}
use Rattle.design.proofs.Allowed.{proper_of, r_small}
use Rattle.matrix_elimination.specs.Steps.{row_width, left}
use Rattle.kit_system.specs.Rows.{PartOf, unstack_of, row_entry}
use Rattle.kit_system.proofs.Places.{unstacked}
use Rattle.kit_system.proofs.SystemRows.{row_entry-is}
use Rattle.kit_maker.specs.Making.{SystemFits, RowsFit, sent_row, new_inverse, right_byte}
use Rattle.kit_maker.proofs.Halves.{right-packed}

work-matrix : (s : Params) → make_work s ≡ (order s + 256) * row_width (order s)
unfolding make_work
work-matrix s =
    let e : 2 * order s + 512 ≡ (order s + 256) * 2 = omega arith in
    ap (λ (k : ℕ). k * row_bytes (order s)) e ∙ mul_assoc (order s + 256) 2 (row_bytes (order s))

pub matrix-long : {d : Design} {own parity work : List ℕ} → SystemFits d own parity work → {n : ℕ} → n ≡ order_of d
    → length work ≡ (n + 256) * row_width n
matrix-long {d} h e = h.work_length ∙ work-matrix (params_of d) ∙ ap (λ (k : ℕ). (k + 256) * row_width k) (sym e)

-- ---- the rows of A

module _ (d : Design) (own parity work : List ℕ) (h : SystemFits d own parity work) (n : ℕ) (e : n ≡ order_of d)
    (columns part : List ℕ) (C : PartOf (column_code (params_of d)) columns) (P : PartOf (params_of d) part) (preimages : List ℕ) where
  pub rows_fit : length preimages ≡ n → ((q : ℕ) → q < n → get_or preimages q 0 < n) → RowsFit n d.size own columns part preimages work
  rows_fit long below =
      record {
        order = e ∙ ap (λ (k : ℕ). d.size * k) (sym P.long);
        small = omega (arith, e, h.allowed.order-high);
        r_small = omega (arith, r_small d h.allowed, P.long);
        both = C.long ∙ sym P.long;
        own_length = omega (arith, e, h.own_length);
        own_below = subst (λ (k : ℕ). (q : ℕ) → q < k → get_or (entries k own) q 0 < k) (sym e) h.own_permutes.below;
        places_length = long;
        places_below = below;
        matrix_length = matrix-long h e;
      }

  -- the places are those of the parity list's inverse, and the left halves of m the rows made from them
  abbrev Sent : ℕ → Type 0
  Sent k = (q : ℕ) → q < k → get_or preimages q 0 ≡ preimage (entries k parity) k q

  abbrev Rows : ℕ → List ℕ → Type 0
  Rows k m = (i j : ℕ) → i < k → j < k → left k m i j ≡ sent_row columns part (entries k own) d.size preimages i j

  abbrev s : Params
  s = params_of d

  abbrev l : Interleavers
  l = lists_of d own parity

  row_is : (m : List ℕ) → Sent (order_of d) → Rows (order_of d) m → (i j : ℕ) → i < order_of d → j < order_of d
      → left (order_of d) m i j ≡ system_entry s l i j
  unfolding sent_row
  row_is m sent rows i j hi hj =
      let u : ℕ = unstack_of d.size (length part) i in
      rows i j hi hj
      ∙ ap (λ (p : ℕ). row_entry columns part l.self d.size p i j)
      (sent u (unstacked d.size (length part) (order_of d) i (ap (λ (k : ℕ). d.size * k) (sym P.long)) hi).below)
      ∙ ap (λ (r : ℕ). row_entry columns part l.self d.size (preimage l.parity (order_of d) (unstack_of d.size r i)) i j) P.long
      ∙ row_entry-is s (proper_of d h.allowed) l h.own_permutes h.parity_permutes columns part C P i j hi hj

  pub rows_are : (m : List ℕ) → ((q : ℕ) → q < n → get_or preimages q 0 ≡ preimage (entries n parity) n q)
      → ((i j : ℕ) → i < n → j < n → left n m i j ≡ sent_row columns part (entries n own) d.size preimages i j)
      → (i j : ℕ) → i < order_of d → j < order_of d → left (order_of d) m i j ≡ system_entry (params_of d) (lists_of d own parity) i j
  rows_are m sent rows = row_is m (subst Sent e sent) (subst (λ (k : ℕ). Rows k m) e rows)

-- ---- A inverted: the left halves of m hold A

module _ (d : Design) (l : Interleavers) (n : ℕ) (e : n ≡ order_of d) (m : List ℕ)
    (same : (i j : ℕ) → i < order_of d → j < order_of d → left (order_of d) m i j ≡ system_entry (params_of d) l i j) where
  column_found : (x : ℕ) → x ≡ first_where n (dependent n (left n m))
      → x ≡ first_where (order_of d) (dependent (order_of d) (system_entry (params_of d) l))
  column_found x f =
      f ∙ ap (λ (k : ℕ). first_where k (dependent k (left k m))) e
      ∙ first_where-same (order_of d) (dependent (order_of d) (left (order_of d) m)) (dependent (order_of d) (system_entry (params_of d) l))
      (dependent-same (order_of d) (left (order_of d) m) (system_entry (params_of d) l) same)

  pub singular-at : (x : ℕ) → x ≡ first_where n (dependent n (left n m)) → x < n → refused 14 x ≡ singular_rule (params_of d) l
  unfolding singular_rule
  singular-at x f h =
      ap (refused 14) (sym (zero-add x))
      ∙ refuse_first-at 14 0 (order_of d) (dependent (order_of d) (system_entry (params_of d) l)) x (column_found x f) (subst (λ (k : ℕ). x < k) e h)

  pub singular-past : (x : ℕ) → x ≡ first_where n (dependent n (left n m)) → n ≤ x → accepted ≡ singular_rule (params_of d) l
  unfolding singular_rule
  singular-past x f h =
      refuse_first-past 14 0 (order_of d) (dependent (order_of d) (system_entry (params_of d) l)) x (column_found x f) (subst (λ (k : ℕ). k ≤ x) e h)

  -- u is the matrix once A is inverted
  pub copied_is : n ≤ 4096 → 0 < n → (u : List ℕ)
      → ((i c : ℕ) → i < n → c < row_bytes n → get_or u (i * row_width n + (row_bytes n + c)) 0
      ≡ get_or (packed_matrix n (inverse_matrix n (left n m))) (i * row_bytes n + c) 0)
      → tabulate (n * row_bytes n) (right_byte u n) ≡ new_inverse (params_of d) l
  copied_is small pos u right =
      right-packed n (inverse_matrix n (left n m)) (inverse-bits n (left n m)) small pos u right
      ∙ ap (λ (k : ℕ). packed_matrix k (inverse_matrix k (left k m))) e
      ∙ packed-same (order_of d) (inverse_matrix (order_of d) (left (order_of d) m)) (inverse_matrix (order_of d) (system_entry (params_of d) l))
      (inverse-same (order_of d) (left (order_of d) m) (system_entry (params_of d) l) same)
