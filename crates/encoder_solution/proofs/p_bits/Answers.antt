use mathlib.Core.Path.{◌≡◌, sym, ap, ◌∙◌}
use Prim.Native.Nat.{ℕ, ◌+◌, ◌*◌, ◌/◌, ◌%◌}
use native.Mathlib.Nat.{zero-mul, mul_comm, add-mul, one-mul}
use native.Mathlib.Omega.{arith}
use lib.ListN.{length, get_or}
use Rattle.staircase.proofs.Fill.{filled, filled_none, filled-all, filled-stretch}
use Rattle.bch_remainders.proofs.Rows.{row_end, row-length}
use Rattle.encoder_solution.specs.Bits.{remainder_digit}
use Rattle.encoder_solution.proofs.Stack.{digit_row}
use Rattle.encoder_solution.proofs.p_bits.Goals as goal

pub loop-a-init : goal.loop-a-init
loop-a-init c =
    let a = c.args in
    let long : length a.out.now ≡ a.r * a.size = c.requires.1 ∙ mul_comm a.size a.r in
    let f : ℕ → ℕ = λ q. remainder_digit (get_or a.columns.now (q % a.size) 0) a.r (q / a.size) in
    (omega arith, long, long, filled_none f a.out.now ∙ ap (filled f a.out.now) (sym (zero-mul a.size)))

pub digits-requires : goal.digits-requires
digits-requires c =
    let a = c.args in
    let l = c.loop-a in
    (row-length l.out (l.a * a.size) a.size (omega (arith, row_end l.a a.r a.size (omega arith))) ∙ sym c.requires.0, omega arith)

pub loop-a-preserved : goal.loop-a-preserved
loop-a-preserved c =
    let a = c.args in
    let l = c.loop-a in
    let row = c.digits in
    let f : ℕ → ℕ = λ q. remainder_digit (get_or a.columns.now (q % a.size) 0) a.r (q / a.size) in
    let next : l.a * a.size + a.size ≡ (l.a + 1) * a.size =
    sym (add-mul l.a 1 a.size ∙ ap (λ (k : ℕ). l.a * a.size + k) (one-mul a.size)) in (
      omega arith,
      omega arith,
      omega arith,
      filled-stretch f a.out.now l.out row.new.out (l.a * a.size) a.size l.invariant.3
          (digit_row a.columns.now row.new.out a.size a.r l.a
          c.requires.0 row.ensures)
          ∙ ap (filled f a.out.now) next,
    )

pub returns : goal.returns
returns c =
    let a = c.args in
    let l = c.loop-a in
    let e : l.a ≡ a.r = omega arith in
    l.invariant.3 ∙ filled-all _ _ _ _ (ap (λ (k : ℕ). k * a.size) e ∙ mul_comm a.r a.size) c.requires.1
