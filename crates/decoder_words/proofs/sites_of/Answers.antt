-- Each arm is given which positions are located.
use mathlib.Core.Path.{subst}
use Prim.Native.Nat.{ℕ}
use lib.ListN.{get_or}
use Rattle.staircase.specs.Frame.{Site}
use Rattle.staircase.specs.Frame.Site.{unsent}
use Rattle.design.specs.Sizes.{params_of}
use Rattle.decoder_locator.specs.declared.Located.{Located}
use Rattle.decoder_locator.specs.Located.{positions_of}
use Rattle.decoder_flips.specs.Sites.{sites_of, Inside, listed, Below}
use Rattle.layout.specs.Layouts.{bits_in}
use Rattle.decoder_lines.specs.Layouts.{line_word}
use Rattle.decoder_flips.proofs.Located.{listed-none, listed_one, listed_two, listed_three}
use Rattle.decoder_words.proofs.sites_of.Goals as goal

pub site_at-x-requires : goal.site_at-x-requires
unfolding Below positions_of
site_at-x-requires c =
    let s = c.requires in
    let b = subst (λ (z : Located). Below (bits_in c.args.line.frames.shape (params_of c.args.line.frames.d)) (positions_of z)) c.in-One.is s.2 in
    (s.0, s.1, b.0)

pub site_at-x-requires-in-Two : goal.site_at-x-requires-in-Two
unfolding Below positions_of
site_at-x-requires-in-Two c =
    let s = c.requires in
    let b = subst (λ (z : Located). Below (bits_in c.args.line.frames.shape (params_of c.args.line.frames.d)) (positions_of z)) c.in-Two.is s.2 in
    (s.0, s.1, b.0)

pub site_at-y-requires : goal.site_at-y-requires
unfolding Below positions_of
site_at-y-requires c =
    let s = c.requires in
    let b = subst (λ (z : Located). Below (bits_in c.args.line.frames.shape (params_of c.args.line.frames.d)) (positions_of z)) c.in-Two.is s.2 in
    (s.0, s.1, b.1.0)

pub site_at-x-requires-in-Three : goal.site_at-x-requires-in-Three
unfolding Below positions_of
site_at-x-requires-in-Three c =
    let s = c.requires in
    let b = subst (λ (z : Located). Below (bits_in c.args.line.frames.shape (params_of c.args.line.frames.d)) (positions_of z)) c.in-Three.is s.2 in
    (s.0, s.1, b.0)

pub site_at-y-requires-in-Three : goal.site_at-y-requires-in-Three
unfolding Below positions_of
site_at-y-requires-in-Three c =
    let s = c.requires in
    let b = subst (λ (z : Located). Below (bits_in c.args.line.frames.shape (params_of c.args.line.frames.d)) (positions_of z)) c.in-Three.is s.2 in
    (s.0, s.1, b.1.0)

pub site_at-z-requires : goal.site_at-z-requires
unfolding Below positions_of
site_at-z-requires c =
    let s = c.requires in
    let b = subst (λ (z : Located). Below (bits_in c.args.line.frames.shape (params_of c.args.line.frames.d)) (positions_of z)) c.in-Three.is s.2 in
    (s.0, s.1, b.1.1.0)

pub returns-in-Nowhere : goal.returns-in-Nowhere
unfolding listed sites_of Inside
returns-in-Nowhere c =
    let a = c.args in
    let v : ℕ → Site = λ j. get_or (line_word a.line a.links.now a.a) j unsent in
    let q = listed-none v c.in-Nowhere.is in
    (q.0, q.1, (tt, tt, tt))

pub returns-in-One : goal.returns-in-One
unfolding listed sites_of Inside
returns-in-One c =
    let a = c.args in
    let v : ℕ → Site = λ j. get_or (line_word a.line a.links.now a.a) j unsent in
    let q = listed_one v c.in-One.is c.site_at-x.ensures.0 in
    (q.0, q.1, (c.site_at-x.ensures.1, tt, tt))

pub returns-in-Two : goal.returns-in-Two
unfolding listed sites_of Inside
returns-in-Two c =
    let a = c.args in
    let v : ℕ → Site = λ j. get_or (line_word a.line a.links.now a.a) j unsent in
    let q = listed_two v c.in-Two.is c.site_at-x-in-Two.ensures.0 c.site_at-y.ensures.0 in
    (q.0, q.1, (c.site_at-x-in-Two.ensures.1, c.site_at-y.ensures.1, tt))

pub returns-in-Three : goal.returns-in-Three
unfolding listed sites_of Inside
returns-in-Three c =
    let a = c.args in
    let v : ℕ → Site = λ j. get_or (line_word a.line a.links.now a.a) j unsent in
    let q = listed_three v c.in-Three.is c.site_at-x-in-Three.ensures.0 c.site_at-y-in-Three.ensures.0 c.site_at-z.ensures.0 in
    (q.0, q.1, (c.site_at-x-in-Three.ensures.1, c.site_at-y-in-Three.ensures.1, c.site_at-z.ensures.1))
