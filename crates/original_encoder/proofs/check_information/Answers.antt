-- A refusal of rules 4 to 6 is the answer; else that of rule 10.
use mathlib.Core.Path.{◌≡◌, refl, sym, ap, ap₂, ◌∙◌}
use Prim.Native.Nat.{ℕ, ◌-◌, ◌*◌}
use native.Mathlib.Nat.{mul_assoc}
use native.Mathlib.Omega.{arith}
use lib.ListN.{length}
use Rattle.staircase.proofs.Bounds.{small_product}
use Rattle.original.specs.Rules.{info_bits}
use Rattle.answers.proofs.Checks.{refused_on, passed_then, check_passed}
use Rattle.design.specs.Sizes.{params_of}
use Rattle.original_rows.proofs.Checked.{buffer-sizes, buffer_limits, buffer-small}
use Rattle.original_encoder.specs.Written.{width_bits, encode_rules}
use Rattle.original_encoder.proofs.check_information.Goals as goal

pub returns-in_err-check_frame : goal.returns-in_err-check_frame
unfolding encode_rules
returns-in_err-check_frame c =
    let a = c.args in
    let is = c.in_err-check_frame.ensures ∙ buffer-sizes (params_of a.d) a.blocks 0 (length a.buffer.now) c.original_due-due.ensures in
    refused_on _ is _ refl c.from_residual.ensures

pub overflow_mul-blocks : goal.overflow_mul-blocks
overflow_mul-blocks c =
    let a = c.args in
    let is = c.in_ok-check_frame.ensures ∙ buffer-sizes (params_of a.d) a.blocks 0 (length a.buffer.now) c.original_due-due.ensures in
    let n = buffer_limits (params_of a.d) a.blocks 0 (length a.buffer.now) (sym is ∙ check_passed refl) in
    let size = c.size-size in
    omega (arith, small_product a.blocks size.result 4096 500 n.1 (omega (arith, size.ensures, c.requires.M-high)))

pub check_rows-requires : goal.check_rows-requires
check_rows-requires c =
    let a = c.args in
    let allowed = c.requires in
    let is = c.in_ok-check_frame.ensures ∙ buffer-sizes (params_of a.d) a.blocks 0 (length a.buffer.now) c.original_due-due.ensures in
    let n = buffer_limits (params_of a.d) a.blocks 0 (length a.buffer.now) (sym is ∙ check_passed refl) in
    let size = c.size-size in
    let small = buffer-small a.d allowed a.blocks n.1 in
    let e : a.blocks * size.result * size.result ≡ a.blocks * (a.d.size * a.d.size) =
    mul_assoc a.blocks size.result size.result ∙ ap (λ (z : ℕ). a.blocks * (z * z)) size.ensures in
    (omega arith, omega (arith, allowed.thin, size.ensures), e ∙ sym n.3, omega (arith, n.3, small))

pub returns : goal.returns
unfolding encode_rules width_bits info_bits
returns c =
    let a = c.args in
    let is = c.in_ok-check_frame.ensures ∙ buffer-sizes (params_of a.d) a.blocks 0 (length a.buffer.now) c.original_due-due.ensures in
    c.check_rows.ensures
    ∙ ap₂ (λ (x y : ℕ). width_bits x (x - y) a.buffer.now) c.size-size.ensures c.r-r.ensures.0
    ∙ passed_then _ is refl
