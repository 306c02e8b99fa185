-- No block stands before the first, and none after the last.
use mathlib.Core.Path.{◌≡◌, sym, ap, ◌∙◌, subst}
use mathlib.Core.List.{[], ◌∷◌}
use Prim.Native.Nat.{ℕ, ◌+◌, ◌-◌, ◌*◌, ◌<◌}
use lib.Arith.{digits_lt}
use Rattle.staircase.specs.Frame.{Site}
use Rattle.staircase.specs.Frame.Site.{in_info}
use Rattle.design.specs.Sizes.{params_of}
use Rattle.decoder_flips.specs.Sites.{sites_of, Inside}
use Rattle.decoder_lines.proofs.Places.{block_none, block-past, block_one}
use Rattle.decoder_lines.proofs.block_site.Goals as goal

pub returns-then-b-lt1 : goal.returns-then-b-lt1
unfolding sites_of Inside
returns-then-b-lt1 c =
    let a = c.args in (ap (λ (z : Site). z ∷ []) (block_none (params_of a.d) a.blocks a.b a.c c.if-b-lt1.true), λ n. tt)

pub returns-then-blocks-b : goal.returns-then-blocks-b
unfolding sites_of Inside
returns-then-blocks-b c =
    let a = c.args in (ap (λ (z : Site). z ∷ []) (block-past (params_of a.d) a.blocks a.b a.c c.if-blocks-b.true c.if-b-lt1.false), λ n. tt)

pub returns : goal.returns
unfolding sites_of Inside
returns c =
    let if1 = c.if-b-lt1 in
    let a = c.args in
    let z = a.d.size * a.d.size in
    let e : c.area.result ≡ z = c.area.ensures.0 in (
      ap (λ (z : Site). z ∷ []) (ap (λ (y : ℕ). in_info ((a.b - 1) * y + a.c)) e ∙ block_one (params_of a.d) a.blocks a.b a.c c.if-blocks-b.false if1.false),
      λ n. subst (λ (y : ℕ). (a.b - 1) * y + a.c < a.blocks * z) (sym e) (digits_lt {q = a.b - 1} {m = a.blocks} {r = a.c} {c = z} c.if-blocks-b.false c.requires.1),
    )
