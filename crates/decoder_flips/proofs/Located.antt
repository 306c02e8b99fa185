-- What the located positions of a word say of the sites of its bits.
--   all_inside                 bits inside some lengths are bytes of buffers of these lengths
--   below_all                  positions of a word, from each of them
--   listed-none, listed_one, listed_two, listed_three   the sites of the positions that an answer of `locate` names
-- Assumes nothing.
use mathlib.Core.Path.{◌≡◌, refl, sym, ap, ap₂, ◌∙◌}
use mathlib.Core.Logic.{inl, inr}
use mathlib.Core.List.{List, [], ◌∷◌, ◌++◌, map}
use Prim.Native.Nat.{ℕ, ◌<◌}
use native.Mathlib.Omega.{arith}
use lib.ListN.{length}
use Rattle.staircase.specs.Frame.{Site}
use Rattle.staircase.proofs.Member.{In}
use Rattle.decoder_locator.specs.declared.Located.{Located}
use Rattle.decoder_locator.specs.declared.Located.TheVariants.{Nowhere, One, Two, Three}
use Rattle.decoder_locator.specs.Located.{positions_of}
use Rattle.decoder_flips.specs.declared.BitSite.{BitSite}
use Rattle.decoder_flips.specs.declared.BitSite.TheVariants.{Absent, Unsent, Info, Red}
use Rattle.decoder_flips.specs.declared.Spots.{Spots}
use Rattle.decoder_flips.specs.Sites.{Inside, AllInside, Below}

inside : (x : BitSite) {n k a b : ℕ} → n ≡ a → k ≡ b → Inside x a b → Inside x n k
unfolding Inside
inside Absent e f h = tt
inside Unsent e f h = tt
inside (Info j) e f h = omega (arith, h, e)
inside (Red j) e f h = omega (arith, h, f)

pub all_inside : (s : Spots) {n k a b : ℕ} → n ≡ a → k ≡ b → AllInside s a b → AllInside s n k
all_inside s e f h = (inside s.x e f h.0, inside s.y e f h.1, inside s.z e f h.2)

pub below_all : {n : ℕ} (c : List ℕ) → ((j : ℕ) → In j c → j < n) → Below n c
unfolding Below
below_all [] h = tt
below_all (j ∷ c) h = (h j (inl refl), below_all c (λ k m. h k (inr m)))

-- v has the sites of a word's positions
module _ (v : ℕ → Site) {z : Located} where
  pub listed-none : z ≡ Nowhere → ([] ≡ map v (positions_of z)) × (0 ≡ length (positions_of z))
  unfolding positions_of
  listed-none e = (ap (λ (y : Located). map v (positions_of y)) (sym e), ap (λ (y : Located). length (positions_of y)) (sym e))

  pub listed_one : {p : ℕ} {a : List Site} → z ≡ One p → a ≡ v p ∷ [] → (a ++ [] ≡ map v (positions_of z)) × (1 ≡ length (positions_of z))
  unfolding positions_of
  listed_one e f = (
    ap (λ (c : List Site). c ++ []) f ∙ ap (λ (y : Located). map v (positions_of y)) (sym e),
    ap (λ (y : Located). length (positions_of y)) (sym e),
  )

  pub listed_two : {p q : ℕ} {a b : List Site} → z ≡ Two p q → a ≡ v p ∷ [] → b ≡ v q ∷ []
      → (a ++ (b ++ []) ≡ map v (positions_of z)) × (2 ≡ length (positions_of z))
  unfolding positions_of
  listed_two e f g = (
    ap₂ (λ (c d : List Site). c ++ (d ++ [])) f g ∙ ap (λ (y : Located). map v (positions_of y)) (sym e),
    ap (λ (y : Located). length (positions_of y)) (sym e),
  )

  pub listed_three : {p q u : ℕ} {a b c : List Site} → z ≡ Three p q u → a ≡ v p ∷ [] → b ≡ v q ∷ [] → c ≡ v u ∷ []
      → (a ++ (b ++ c) ≡ map v (positions_of z)) × (3 ≡ length (positions_of z))
  unfolding positions_of
  listed_three e f g h = (
    ap₂ (λ (c d : List Site). c ++ d) f (ap₂ (λ (c d : List Site). c ++ d) g h) ∙ ap (λ (y : Located). map v (positions_of y)) (sym e),
    ap (λ (y : Located). length (positions_of y)) (sym e),
  )
