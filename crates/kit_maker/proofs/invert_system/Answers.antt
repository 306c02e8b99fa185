-- The working bytes are the matrix that holds A, and then its inverse.
use native.Mathlib.Omega.{arith}
use mathlib.Core.Path.{◌≡◌, refl, sym, ap, ◌∙◌}
use Prim.Native.Nat.{ℕ, ◌*◌, ◌≤◌, ◌<◌}
use Rattle.staircase.specs.System.{row_bytes}
use Rattle.staircase.specs.Square.{dependent}
use Rattle.staircase.proofs.Search.{first_where-le}
use Rattle.design.specs.Sizes.{lists_of}
use Rattle.answers.specs.Answers.{refusal_verdict, verdict_of}
use Rattle.design.proofs.Allowed.{order-positive}
use Rattle.matrix_elimination.specs.Steps.{left}
use Rattle.kit_maker.proofs.SystemMade.{matrix-long, singular-at, singular-past, copied_is}
use Rattle.kit_maker.proofs.invert_system.Goals as goal

pub invert-column-requires : goal.invert-column-requires
invert-column-requires c =
    let a = c.args in
    let h = c.requires.0 in
    let e = c.order-n.ensures.0 in (
      omega (arith, e, order-positive a.d h.allowed),
      omega (arith, e, h.allowed.order-high),
      c.fill_system.ensures.0 ∙ matrix-long h e,
    )

pub returns-then-column-n : goal.returns-then-column-n
unfolding verdict_of refusal_verdict
returns-then-column-n c =
    let a = c.args in
    let o = c.order-n in
    let f = c.fill_system in
    let i = c.invert-column in
    let l = lists_of a.d a.own.now a.parity.now in
    (singular-at a.d l o.result o.ensures.0 f.new.work f.ensures.1 i.result i.ensures.value (omega arith), refl)

pub copy_right-requires : goal.copy_right-requires
copy_right-requires c =
    let a = c.args in
    let h = c.requires in
    let e = c.order-n.ensures.0 in (
      omega (arith, e, order-positive a.d h.0.allowed),
      omega (arith, e, h.0.allowed.order-high),
      c.invert-column.ensures.m_len_unchanged ∙ c.fill_system.ensures.0 ∙ matrix-long h.0 e,
      h.1 ∙ ap (λ (k : ℕ). k * row_bytes k) (sym e),
    )

pub returns : goal.returns
unfolding verdict_of
returns c =
    let i = c.invert-column in
    let f = c.fill_system in
    let o = c.order-n in
    let a = c.args in
    let h = c.requires.0 in
    let l = lists_of a.d a.own.now a.parity.now in
    let m = f.new.work in
    let e = o.ensures.0 in
    let pos : 0 < o.result = omega (arith, e, order-positive a.d h.allowed) in
    let small : o.result ≤ 4096 = omega (arith, e, h.allowed.order-high) in
    let past : o.result ≤ i.result = omega arith in
    let none : i.result ≡ o.result =
    omega (arith, past, i.ensures.value, first_where-le o.result (dependent o.result (left o.result m))) in (
      singular-past a.d l o.result e m f.ensures.1 i.result i.ensures.value past,
      c.copy_right.ensures ∙ copied_is a.d l o.result e m f.ensures.1 small pos i.new.m (i.ensures.c_after none),
    )
