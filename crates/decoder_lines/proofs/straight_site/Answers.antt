-- A case for each of the two blocks that a word crosses, and one for what stands behind them.
use mathlib.Core.Path.{sym, ap, ◌∙◌, subst⁻¹}
use mathlib.Core.Bool.{Bool, true, cond}
use mathlib.Core.List.{[], ◌∷◌}
use Prim.Native.Nat.{ℕ, ◌+◌, ◌-◌, ◌*◌, ◌/◌}
use native.Mathlib.Omega.{arith}
use Rattle.staircase.specs.Frame.{Site, block_at}
use Rattle.staircase.specs.Frame.Site.{in_red}
use Rattle.staircase.specs.Lines.{even, partner}
use Rattle.design.specs.Sizes.{params_of, order_of}
use Rattle.decoder_flips.specs.Sites.{Inside}
use Rattle.decoder_lines.specs.Links.{lists_in}
use Rattle.decoder_lines.proofs.Places.{red-below}
use Rattle.decoder_lines.proofs.Layouts.{size-high, bits-high, lines-few, site_first, site_second, tail-allowed, tail-bits, tail-red, tail-lines, tail_site}
use Rattle.decoder_lines.proofs.straight_site.Goals as goal

pub block_bit-requires : goal.block_bit-requires
block_bit-requires c =
    let F = c.requires.0.frames in
    (omega (arith, c.size-size.ensures, size-high F), omega (arith, c.size-size.ensures, c.requires.1), c.if-p-size.true)

pub block_site-requires : goal.block_site-requires
block_site-requires c =
    let h = rw c.size-size.ensures at c.block_bit.ensures.1 in (omega (arith, c.requires.0.within, lines-few c.requires.0.frames), h)

pub returns-then-p-size : goal.returns-then-p-size
returns-then-p-size c =
    let a = c.args in
    let F = c.requires.0 in
    let M = c.size-size.ensures in
    let fr = a.line.frames in
    let cell : Bool → ℕ = λ z. cond z (a.a * fr.d.size + a.p) (a.p * fr.d.size + a.a) in
    let b = rw M at c.block_bit.ensures.0 in (
      c.block_site.ensures.0
          ∙ ap (λ (z : Site). z ∷ []) (ap (block_at (params_of fr.d) fr.blocks a.line.k) (b ∙ ap cell c.rows_first.ensures)
          ∙ sym (site_first F.frames a.line.k a.a a.p F.within (rw M at c.if-p-size.true))),
      c.block_site.ensures.1 _,
    )

pub overflow_add-k : goal.overflow_add-k
overflow_add-k c = omega (arith, c.requires.0.within, lines-few c.requires.0.frames)

pub block_bit-requires-then-p-size-2 : goal.block_bit-requires-then-p-size-2
block_bit-requires-then-p-size-2 c =
    let F = c.requires.0.frames in
    (omega (arith, c.size-size.ensures, size-high F), omega (arith, c.size-size.ensures, c.requires.1), omega (arith, c.if-p-size.false, c.if-p-size-2.true))

pub block_site-requires-then-p-size-2 : goal.block_site-requires-then-p-size-2
block_site-requires-then-p-size-2 c =
    let h = rw c.size-size.ensures at c.block_bit-then-p-size-2.ensures.1 in (omega (arith, c.requires.0.within, lines-few c.requires.0.frames), h)

pub returns-then-p-size-2 : goal.returns-then-p-size-2
returns-then-p-size-2 c =
    let a = c.args in
    let F = c.requires.0 in
    let M = c.size-size.ensures in
    let fr = a.line.frames in
    let cell : Bool → ℕ = λ z. cond z (a.a * fr.d.size + (a.p - fr.d.size)) ((a.p - fr.d.size) * fr.d.size + a.a) in
    let b = rw M at c.block_bit-then-p-size-2.ensures.0 in (
      c.block_site-then-p-size-2.ensures.0
          ∙ ap (λ (z : Site). z ∷ []) (ap (block_at (params_of fr.d) fr.blocks (a.line.k + 1)) (b ∙ ap cell c.rows_second.ensures)
          ∙ sym (site_second F.frames a.line.k a.a a.p F.within (rw M at c.if-p-size.false) (rw M at c.if-p-size-2.true))),
      c.block_site-then-p-size-2.ensures.1 _,
    )

pub place-q-requires : goal.place-q-requires
place-q-requires c =
    let F = c.requires.0.frames in
    (omega (arith, bits-high F, c.requires.2), omega (arith, size-high F, c.size-size.ensures), omega (arith, size-high F, c.requires.1))

pub group_bit-requires : goal.group_bit-requires
group_bit-requires c =
    let a = c.args in
    let F = c.requires.0.frames in
    let d = a.line.frames.d in
    let M = c.size-size.ensures in
    let low = rw M at c.if-p-size-2.false in
    ((tail-allowed F a.p low c.requires.2).1, omega (arith, rw M at c.place-q.ensures.0, red-below d.size (d.m * d.t) a.a a.p (tail-bits F a.p low c.requires.2) low c.requires.1))

pub group_site-requires : goal.group_site-requires
group_site-requires c =
    let a = c.args in
    let F = c.requires.0 in
    let e = tail-lines F.frames a.p (rw c.size-size.ensures at c.if-p-size-2.false) c.requires.2 in
    (F.frames.few-blocks, omega (arith, F.within, e), c.group_bit.ensures.1)

pub returns : goal.returns
returns c =
    let a = c.args in
    let F = c.requires.0.frames in
    let M = c.size-size.ensures in
    let d = a.line.frames.d in
    let s = params_of d in
    let l = lists_in d a.links.now in
    let low = rw M at c.if-p-size-2.false in
    let q = rw M at c.place-q.ensures.0 in
    let b = c.group_bit.ensures.0 ∙ ap (λ (q : ℕ). cond (even a.line.k) (partner s l true q) q) q in (
      c.group_site.ensures.0
          ∙ ap (λ (z : Site). z ∷ []) (ap (λ (z : ℕ). in_red (a.line.k / 2 * (2 * order_of d) + z)) b
          ∙ sym (tail_site F a.p low c.requires.2 a.line.k a.a c.requires.1)),
      subst⁻¹ (λ (n : ℕ). Inside c.group_site.result (a.line.frames.blocks * (d.size * d.size)) n) (tail-red F a.p low c.requires.2) (c.group_site.ensures.1 _),
    )
