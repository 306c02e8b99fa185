-- The group is stretch i of the redundancy.
use mathlib.Core.Path.{◌≡◌, sym, ap, subst}
use mathlib.Core.List.{[], ◌∷◌}
use Prim.Native.Nat.{ℕ, ◌+◌, ◌*◌, ◌<◌}
use Rattle.staircase.specs.Frame.{groups}
use Rattle.staircase.specs.Frame.Site.{in_red}
use lib.Arith.{digits_lt}
use Rattle.design.specs.Sizes.{order_of}
use Rattle.decoder_flips.specs.Sites.{sites_of, Inside}
use Rattle.decoder_lines.proofs.group_site.Goals as goal

pub returns : goal.returns
unfolding sites_of Inside
returns c =
    let a = c.args in
    let z = order_of a.d in
    let e : c.order.result ≡ z = c.order.ensures.0 in (
      ap (λ (y : ℕ). in_red (a.i * (2 * y) + a.q) ∷ []) e,
      λ n. subst (λ (y : ℕ). a.i * (2 * y) + a.q < groups a.blocks * (2 * z)) (sym e) (digits_lt {q = a.i} {m = groups a.blocks} {r = a.q} {c = 2 * z} c.requires.1 c.requires.2),
    )
