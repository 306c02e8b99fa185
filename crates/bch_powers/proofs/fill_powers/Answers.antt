-- In each arm the check computes the list that the rule makes and compares the arm's table with it: the table's rule is that test.
--   filled   the table of field k is that of field m where m is k
use mathlib.Core.Path.{◌≡◌}
use mathlib.Core.List.{List}
use Prim.Native.Nat.{ℕ, ◌-◌, ◌^◌}
use native.Mathlib.Omega.{arith}
use Rattle.bch.specs.Polynomial.{◌⊕◌, times_x}
use Rattle.bch.specs.Field.{field_poly, powers_from, power_table}
use Rattle.bch_powers.proofs.fill_powers.Goals as goal

filled : {m k : ℕ} {out : List ℕ} → m ≡ k → out ≡ power_table k (2 ^ k - 1) → out ≡ power_table m (2 ^ m - 1)
filled e h = rw e h

pub returns-in-4 : goal.returns-in-4
unfolding ◌⊕◌ times_x field_poly powers_from power_table
returns-in-4 c = filled {k = 4} c.in-4.is c.copy_from_slice.ensures.after

pub returns-in-5 : goal.returns-in-5
unfolding ◌⊕◌ times_x field_poly powers_from power_table
returns-in-5 c = filled {k = 5} c.in-5.is c.copy_from_slice-in-5.ensures.after

pub returns-in-6 : goal.returns-in-6
unfolding ◌⊕◌ times_x field_poly powers_from power_table
returns-in-6 c = filled {k = 6} c.in-6.is c.copy_from_slice-in-6.ensures.after

pub returns-in-7 : goal.returns-in-7
unfolding ◌⊕◌ times_x field_poly powers_from power_table
returns-in-7 c = filled {k = 7} c.in-7.is c.copy_from_slice-in-7.ensures.after

pub returns-in-8 : goal.returns-in-8
unfolding ◌⊕◌ times_x field_poly powers_from power_table
returns-in-8 c = filled {k = 8} c.in-8.is c.copy_from_slice-in-8.ensures.after

pub returns-in-9 : goal.returns-in-9
unfolding ◌⊕◌ times_x field_poly powers_from power_table
returns-in-9 c = filled {k = 9} c.in-9.is c.copy_from_slice-in-9.ensures.after

pub returns-in_default : goal.returns-in_default
unfolding ◌⊕◌ times_x field_poly powers_from power_table
returns-in_default c = filled {k = 10} (omega arith) c.copy_from_slice-in_default.ensures.after
