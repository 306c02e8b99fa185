use mathlib.Core.Path.{◌≡◌, refl, sym, ap, ◌∙◌, subst}
use Prim.Native.Nat.{ℕ, ◌*◌, ◌%◌, ◌<◌}
use native.Mathlib.Omega.{arith}
use lib.ListN.{get_or}
use Rattle.answers.specs.Answers.{verdict_of}
use Rattle.answers.proofs.Checks.{handed_on, refusal_refuses, check_passed}
use Rattle.original_encoder.proofs.Digits.{good_next, good_all, row_refused}
use Rattle.original_encoder.proofs.check_rows.Goals as goal

pub returns-in_err-check_bits : goal.returns-in_err-check_bits
unfolding verdict_of
returns-in_err-check_bits c =
    let a = c.args in
    let l = c.loop-i in
    let p = c.requires in
    let row = c.in_err-check_bits.ensures in
    ap verdict_of (handed_on c.from_residual.result c.from_residual.ensures.1) ∙ row
    ∙ row_refused a.size a.width p.1 p.0 a.rows a.buffer.now p.2 l.i (omega arith) l.invariant (λ e. refusal_refuses _ (row ∙ e))

pub loop-i-preserved : goal.loop-i-preserved
loop-i-preserved c =
    let a = c.args in
    let l = c.loop-i in
    let p = c.requires in
    good_next a.size a.width p.1 p.0 a.rows a.buffer.now p.2 l.i (omega arith) l.invariant (sym c.in_ok-check_bits.ensures ∙ check_passed refl)

pub returns : goal.returns
unfolding verdict_of
returns c =
    let a = c.args in
    let l = c.loop-i in
    let p = c.requires in
    let e : l.i ≡ a.rows = omega arith in
    good_all a.size a.width p.1 p.0 a.rows a.buffer.now p.2
    (subst (λ (n : ℕ). (k : ℕ) → k < n * a.size → k % a.size < a.width → get_or a.buffer.now k 0 < 2) e l.invariant)
