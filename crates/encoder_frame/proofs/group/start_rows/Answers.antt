-- The remainders of the row words are a part of a local array, and their digits are Q.
use mathlib.Core.Path.{◌≡◌, subst}
use mathlib.Core.List.{List}
use Prim.Native.Nat.{ℕ}
use native.Mathlib.Omega.{arith}
use lib.ListN.{get_or, replicate}
use Rattle.staircase.specs.Lists.{tabulate}
use Rattle.words_blocks.specs.Blocks.{row_sum}
use Rattle.words_blocks.proofs.Sums.{part_length, square}
use Rattle.encoder_frame.proofs.Lending.{digits-made}
use Rattle.encoder_frame.proofs.group.start_rows.Goals as goal

pub row_sums-requires : goal.row_sums-requires
row_sums-requires c =
    let p = c.requires in
    let n = c.args.size in
    let zeros : List ℕ = replicate 512 0 in
    let few = part_length zeros 0 n n (omega arith) (omega arith) in
    ((λ e. square _ _ _ n (p.1.0 e) few few, p.1.1), (λ e. square _ _ _ n (p.2.0 e) few few, p.2.1), omega (arith, few, p.0.powers))

pub returns : goal.returns
returns c =
    let a = c.args in
    let n : ℕ = a.size in
    let x = c.row_sums in
    let zeros : List ℕ = replicate 512 0 in
    let few = part_length zeros 0 n n (omega arith) (omega arith) in
    digits-made x.new.rows _ _ (row_sum a.positions.now n (λ k. get_or a.before.now k 0) (λ k. get_or a.odd.now k 0)) n a.r c.requires.0.some-columns
    (subst (λ (k : ℕ). x.new.rows ≡ tabulate k (row_sum a.positions.now k (λ k. get_or a.before.now k 0) (λ k. get_or a.odd.now k 0))) few x.ensures)
    c.p_bits.ensures
