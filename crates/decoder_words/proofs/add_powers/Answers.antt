-- Each arm is given which positions there are.
use mathlib.Core.Path.{refl, ◌∙◌}
use native.Mathlib.Omega.{arith}
use Rattle.decoder_flips.proofs.Positions.{one_sent, two_sent, three_sent, none_through, one_through, two_through, three_through}
use Rattle.decoder_words.proofs.add_powers.Goals as goal

pub add_power-requires : goal.add_power-requires
add_power-requires c =
    let p = c.requires in
    let at = one_sent _ _ c.in-One.is p.3 in
    (p.0, p.1, p.2, at.0, p.4, at.1)

pub add_power-requires-in-Two : goal.add_power-requires-in-Two
add_power-requires-in-Two c =
    let p = c.requires in
    let at = (two_sent _ _ c.in-Two.is p.3).1 in
    (p.0, p.1, p.2, at.0, p.4, at.1)

pub add_power-requires-in-Two-2 : goal.add_power-requires-in-Two-2
add_power-requires-in-Two-2 c =
    let p = c.requires in
    let at = (two_sent _ _ c.in-Two.is p.3).0 in
    (p.0, p.1, p.2, at.0, omega (arith, c.add_power-in-Two.ensures.long, p.4), at.1)

pub add_power-requires-in-Three : goal.add_power-requires-in-Three
add_power-requires-in-Three c =
    let p = c.requires in
    let at = (three_sent _ _ c.in-Three.is p.3).2 in
    (p.0, p.1, p.2, at.0, p.4, at.1)

pub add_power-requires-in-Three-2 : goal.add_power-requires-in-Three-2
add_power-requires-in-Three-2 c =
    let p = c.requires in
    let at = (three_sent _ _ c.in-Three.is p.3).1 in
    (p.0, p.1, p.2, at.0, omega (arith, c.add_power-in-Three.ensures.long, p.4), at.1)

pub add_power-requires-in-Three-3 : goal.add_power-requires-in-Three-3
add_power-requires-in-Three-3 c =
    let p = c.requires in
    let at = (three_sent _ _ c.in-Three.is p.3).0 in
    (p.0, p.1, p.2, at.0, omega (arith, c.add_power-in-Three-2.ensures.long, c.add_power-in-Three.ensures.long, p.4), at.1)

pub returns-in-Nowhere : goal.returns-in-Nowhere
returns-in-Nowhere c =
    (none_through _ _ c.in-Nowhere.is, refl)

pub returns-in-One : goal.returns-in-One
returns-in-One c =
    let h = c.add_power.ensures in
    (one_through _ _ _ c.in-One.is h, h.long)

pub returns-in-Two : goal.returns-in-Two
returns-in-Two c =
    let h = c.add_power-in-Two.ensures in
    let k = c.add_power-in-Two-2.ensures in
    (two_through _ _ _ _ c.in-Two.is h k, k.long ∙ h.long)

pub returns-in-Three : goal.returns-in-Three
returns-in-Three c =
    let h = c.add_power-in-Three.ensures in
    let k = c.add_power-in-Three-2.ensures in
    let j = c.add_power-in-Three-3.ensures in
    (three_through _ _ _ _ _ c.in-Three.is h k j, j.long ∙ (k.long ∙ h.long))
