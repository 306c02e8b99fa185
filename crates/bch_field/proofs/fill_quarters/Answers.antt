-- The powers and the logarithms are copied, then the solutions are made, each into its quarter.
use mathlib.Core.Path.{sym, ◌∙◌, subst⁻¹}
use Prim.Native.Nat.{◌-◌}
use native.Mathlib.Omega.{arith}
use lib.ListN.{length}
use Rattle.bch.specs.Locator.{LogTable}
use Rattle.bch.proofs.Powers.{powers-length}
use Rattle.bch_field.proofs.Quarters.{quarter_length, four_filled}
use Rattle.bch_field.proofs.fill_quarters.Goals as goal

pub copy_from_slice-requires : goal.copy_from_slice-requires
copy_from_slice-requires c =
    let a = c.args in
    let q = length a.logs.now in
    quarter_length a.m 0 (q - 1) a.field.now c.requires.4 (omega (arith, c.requires.3.long)) (omega (arith, c.requires.3.long))
    ∙ sym (powers-length a.m a.powers.now c.requires.2)

pub returns : goal.returns
returns c =
    let m = c.args.m in
    let q = length c.args.logs.now in
    let (low, high, powers, logs, long) = c.requires in
    let copied = c.copy_from_slice.ensures.after ∙ powers in
    let copied-logs = subst⁻¹ (LogTable m) c.copy_from_slice-2.ensures.after logs in
    four_filled low high copied copied-logs c.args.field.now long q logs.long c.fill_solutions.ensures c.fill_solutions-2.ensures
