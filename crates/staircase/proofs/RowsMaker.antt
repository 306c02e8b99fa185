-- The rows of the maker, by computation; that K's lists have K's inverse goes by the row that K passes, which no other inverse does.
--   made_k-is    K's lists have K's inverse
--   rows_maker   the rows
-- Assumes nothing.
use mathlib.Core.Path.{◌≡◌, refl, sym, ap, ◌∙◌}
use mathlib.Core.List.{List, [], ◌∷◌}
use Prim.Native.Nat.{ℕ, zero, suc, ◌<◌}
use native.Mathlib.Omega.{arith}
use lib.ListN.{get_or}
use Rattle.bch.specs.Polynomial.{◌⊕◌, ◌⊗◌, times_x, iterate, poly_at_digits, poly_at, horner, remainder, bits_of}
use Rattle.bch.specs.Field.{field_poly, value_at}
use Rattle.bch.specs.Mirror.{mirror, reversed}
use Rattle.bch.specs.Code.{least_from, minimal_poly, generator, parity}
use Rattle.staircase.specs.Lists.{sum_bits, tabulate, first_where}
use Rattle.staircase.specs.Design.{column_generator}
use Rattle.staircase.specs.Word.{row_info, column_info}
use Rattle.staircase.specs.System.{preimage, column_parity, row_parity, residual, system_entry, inverse_entry}
use Rattle.staircase.specs.Square.{misses, sends_to, dependent, inverse_matrix, packed_matrix}
use Rattle.staircase.specs.Rules.{Verdict, refuse_first, size_rule, long_rule, large_rule, design_rules, list_lengths, kit_lengths, entries, interleavers, bad_entry, list_rule}
use Rattle.staircase.specs.Rules.Verdict.{accepted}
use Rattle.staircase.specs.Demand2.{KitPasses, FitsOrder}
use Rattle.staircase.specs.Maker.{make_work, singular_rule, make_verdict, made_by, make_call}
use Rattle.staircase.specs.RowsK.{params_k, self_k, parity_k, inverse_k}
use Rattle.staircase.specs.RowsMaker.{RowsMaker}
use Rattle.staircase.proofs.Rules.{design_limits}
use Rattle.staircase.proofs.System.{system_entry-lt}
use Rattle.staircase.proofs.BchCode.{proper_of}
use Rattle.staircase.proofs.Demand2.{demand2}
use Rattle.staircase.proofs.Maker.{singular-none, made-only, entry-bit}
use Rattle.staircase.proofs.Vectors.{rows_k}

-- ---- K's lists

design_k : design_rules 4 1 1 0 ≡ accepted
unfolding design_rules size_rule long_rule large_rule
design_k = refl

fits_k : FitsOrder 4 self_k parity_k inverse_k
fits_k = record { self_length = refl; parity_length = refl; inverse_length = refl }

passes_k : KitPasses params_k (interleavers params_k self_k parity_k) inverse_k
passes_k = (demand2 4 1 1 0 self_k parity_k inverse_k design_k fits_k).0 rows_k.passes

bytes_k : (k : ℕ) → get_or inverse_k k 0 < 256
bytes_k zero = omega arith
bytes_k (suc zero) = omega arith
bytes_k (suc (suc zero)) = omega arith
bytes_k (suc (suc (suc zero))) = omega arith
bytes_k (suc (suc (suc (suc k)))) = omega arith

regular_k : singular_rule params_k (interleavers params_k self_k parity_k) ≡ accepted
regular_k =
    (singular-none params_k (interleavers params_k self_k parity_k)
    (system_entry-lt params_k (interleavers params_k self_k parity_k) (proper_of (design_limits 4 1 1 0 design_k)))).1
    (inverse_entry inverse_k 4, entry-bit inverse_k 4, passes_k.right_inverse, passes_k.left_inverse)

verdict_k : (a b c d : ℕ) → make_verdict 4 1 1 0 self_k parity_k (a ∷ b ∷ c ∷ d ∷ []) (make_work params_k) ≡ accepted
unfolding make_verdict design_rules size_rule long_rule large_rule kit_lengths list_lengths make_work refuse_first bad_entry first_where entries tabulate list_rule
verdict_k a b c d = regular_k

-- whatever the inverse's buffer held
pub made_k-is : (a b c d : ℕ) → make_call 4 1 1 0 self_k parity_k (a ∷ b ∷ c ∷ d ∷ []) (make_work params_k) ≡ record { verdict = accepted; inverse = inverse_k }
unfolding make_call
made_k-is a b c d =
    let old : List ℕ = a ∷ b ∷ c ∷ d ∷ [] in
    ap (λ (v : Verdict). made_by v old (packed_matrix 4 (inverse_matrix 4 (system_entry params_k (interleavers params_k self_k parity_k))))) (verdict_k a b c d)
    ∙ ap (made_by accepted old) (sym (made-only 4 1 1 0 self_k parity_k old 0 inverse_k bytes_k design_k fits_k passes_k))

pub rows_maker : RowsMaker
unfolding ◌⊕◌ ◌⊗◌ times_x iterate poly_at_digits poly_at horner remainder bits_of field_poly value_at least_from minimal_poly generator parity sum_bits tabulate first_where row_info column_info preimage column_parity column_generator row_parity residual system_entry refuse_first size_rule long_rule large_rule design_rules list_lengths kit_lengths entries bad_entry list_rule misses sends_to dependent make_work singular_rule make_verdict make_call mirror reversed
rows_maker =
    record {
      made = made_k-is 255 255 255 255;
      zero_column = refl;
      third_column = refl;
      last_column = refl;
      repeated = refl;
      too_large = refl;
      short_inverse = refl;
      no_work = refl;
      mirrored = refl;
      other_code = refl;
    }
