-- The packed rows are those of the system A.
--   part_of          the powers of x that X and Y use are the first r of the last 2 r positions'
--   row_entry-spare   bits past the order are 0
--   row_entry-is      an entry of a row, for the place that the parity list sends to it
-- Assumes nothing.
use mathlib.Core.Path.{◌≡◌, sym, ap, ap₂, ◌∙◌}
use mathlib.Core.Bool.{Bool, cond}
use mathlib.Core.List.{List}
use Prim.Native.Nat.{ℕ, ◌+◌, ◌-◌, ◌*◌, ◌/◌, ◌%◌, ◌^◌, ◌≤◌, ◌<◌}
use native.Mathlib.Nat.{mod-lt}
use native.Mathlib.Omega.{arith}
use lib.Dec.{eqb}
use lib.ListN.{length, get_or, take}
use lib.Seq.{get_or-take}
use borrow.Author.Tests.{ne_eqb}
use Rattle.bch.specs.Powers.{power_mod, PositionPowers}
use Rattle.staircase.specs.Lists.{bit_sum, sum_bits}
use Rattle.staircase.specs.Design.{Params, Interleavers, column_code, order}
use Rattle.staircase.specs.System.{stack, unstack, preimage, system_entry}
use Rattle.staircase.specs.Demand2.{Permutes}
use Rattle.staircase.proofs.Matrix.{sum_bits-same, sum_bits-sum, sum_bits-zero}
use Rattle.staircase.proofs.System.{Proper}
use Rattle.staircase.proofs.Entries.{coefficient, system-row}
use Rattle.kit_system.proofs.Terms.{stack_of-below, run_end}
use Rattle.staircase.proofs.Bounds.{place_below}
use Rattle.kit_system.specs.Rows.{PartOf, stack_of, power_digit, row_term, row_entry}

-- ---- the powers

pub part_of : (s : Params) (powers part : List ℕ) → PositionPowers s.g s.r powers → length powers ≡ 2 * s.r
    → part ≡ take s.r powers → length part ≡ s.r → PartOf s part
part_of s powers part are long e l =
    record {
      long = l;
      powers = λ b h.
          ap (λ (z : List ℕ). get_or z b 0) e ∙ get_or-take s.r powers b 0 h ∙ are b (omega (arith, long, h))
          ∙ ap (λ (z : ℕ). power_mod s.g s.r (z - 1 - b)) long;
    }

-- ---- past the order

module _ (columns part own : List ℕ) (size : ℕ) (mpos : 0 < size) (rpos : 0 < length part)
    (small : (q : ℕ) → q < size * length part → get_or own q 0 < size * length part) where
  abbrev r : ℕ
  r = length part

  pub row_entry-spare : (p e k : ℕ) → e < size * length part → size * length part ≤ k → row_entry columns part own size p e k ≡ 0
  unfolding row_entry
  row_entry-spare p e k he hk =
      sum_bits-zero r (row_term (power_digit columns) (power_digit part) r own size p e k)
      (λ b h.
      let y : ℕ = get_or own (b * size + p % size) 0 in
      let run = run_end size r e rpos he in
      let sent = stack_of-below size r y mpos (small (b * size + p % size) (place_below size r b (p % size) h (mod-lt p mpos))) in
      ap₂ (λ (u v : Bool). bit_sum (cond u (power_digit columns b (e % r)) 0) (cond v (power_digit part b (p / size)) 0))
      (ne_eqb (e / r * r + b) k (λ q. omega (arith, run))) (ne_eqb (stack_of size r y) k (λ q. omega (arith, sent))))

-- ---- the system

module _ (s : Params) (ok : Proper s) (l : Interleavers)
    (ps : Permutes (order s) (λ p. get_or l.self p 0)) (pp : Permutes (order s) (λ p. get_or l.parity p 0)) (columns part : List ℕ) (C : PartOf (column_code s) columns) (P : PartOf s part) where
  digit-is : (c : Params) (z : List ℕ) → PartOf c z → (b a : ℕ) → b < c.r → power_digit z b a ≡ coefficient c b a
  unfolding coefficient
  digit-is c z Z b a h = ap₂ (λ (x r : ℕ). x / 2 ^ (r - 1 - a) % 2) (Z.powers b h) Z.long

  -- the place that the parity list sends to entry e
  abbrev source : ℕ → ℕ
  source e = preimage l.parity (order s) (unstack s e)

  pub row_entry-is : (e k : ℕ) → e < order s → k < order s
      → row_entry columns part l.self s.M (preimage l.parity (order s) (unstack s e)) e k ≡ system_entry s l e k
  unfolding row_entry
  row_entry-is e k he hk =
      ap (λ (r : ℕ). sum_bits r (row_term (power_digit columns) (power_digit part) r l.self s.M (source e) e k)) P.long
      ∙ sum_bits-same s.r (row_term (power_digit columns) (power_digit part) s.r l.self s.M (source e) e k)
      (row_term (coefficient (column_code s)) (coefficient s) s.r l.self s.M (source e) e k)
      (λ b h.
      ap₂ (λ (u v : ℕ). bit_sum (cond (eqb (e / s.r * s.r + b) k) u 0) (cond (eqb (stack s (get_or l.self (b * s.M + source e % s.M) 0)) k) v 0))
      (digit-is (column_code s) columns C b (e % s.r) h) (digit-is s part P b (source e / s.M) h))
      ∙ sum_bits-sum s.r (λ b. cond (eqb (e / s.r * s.r + b) k) (coefficient (column_code s) b (e % s.r)) 0)
      (λ b. cond (eqb (stack s (get_or l.self (b * s.M + source e % s.M) 0)) k) (coefficient s b (source e / s.M)) 0)
      ∙ sym (system-row s ok l ps pp e k he hk)
