-- A block that is sent ends within the information.
use native.Mathlib.Omega.{arith}
use mathlib.Core.Path.{sym, ap, ◌∙◌}
use Prim.Native.Nat.{ℕ, ◌*◌, ◌-◌}
use native.Mathlib.Nat.{add-sub_cancel_left}
use lib.ListN.{take, drop}
use Rattle.words_blocks.proofs.Blocks.{sent-at, block_none, block-some, block-end}
use Rattle.words_blocks.proofs.block_of.Goals as goal

pub returns-then-not-here : goal.returns-then-not-here
returns-then-not-here c = block_none _ _ _ _ (sym c.is_sent-here.ensures ∙ c.if-not-here.true)

pub overflow_sub-at : goal.overflow_sub-at
overflow_sub-at c =
    let e = sym c.is_sent-here.ensures ∙ c.if-not-here.false in
    let a = c.args in
    (sent-at _ _ e).0

pub overflow_mul-at : goal.overflow_mul-at
overflow_mul-at c =
    let e = sym c.is_sent-here.ensures ∙ c.if-not-here.false in
    let a = c.args in
    omega (arith, block-end a.blocks a.area a.info.now a.b c.requires e)

pub overflow_add-result : goal.overflow_add-result
overflow_add-result c =
    let e = sym c.is_sent-here.ensures ∙ c.if-not-here.false in
    let a = c.args in
    omega (arith, block-end a.blocks a.area a.info.now a.b c.requires e)

pub slice_bounds-result-end-2 : goal.slice_bounds-result-end-2
slice_bounds-result-end-2 c =
    let e = sym c.is_sent-here.ensures ∙ c.if-not-here.false in
    let a = c.args in
    omega (arith, block-end a.blocks a.area a.info.now a.b c.requires e)

pub returns : goal.returns
returns c =
    let e = sym c.is_sent-here.ensures ∙ c.if-not-here.false in
    let a = c.args in
    ap (λ (k : ℕ). take k (drop ((a.b - 1) * a.area) a.info.now)) (add-sub_cancel_left ((a.b - 1) * a.area) a.area) ∙ block-some a.blocks a.area a.info.now a.b e
