-- The located positions of a word that is corrected.
--   one_sent, two_sent, three_sent          the positions that an answer of `locate` names are sent
--   none-through .. three-through           a step for each of them
--   sent_found, flips-is                    those of a correction are sent, and as many as it flips
-- Assumes nothing.
use mathlib.Core.Path.{◌≡◌, refl, sym, ap, ◌∙◌, subst}
use mathlib.Core.Bool.{true}
use mathlib.Core.Logic.{inl, inr}
use mathlib.Core.List.{List, [], ◌∷◌, map}
use Prim.Native.Nat.{ℕ, ◌<◌}
use lib.ListN.{length, get_or, length-map}
use Rattle.staircase.specs.Design.{Params}
use Rattle.staircase.specs.Frame.{Frame, Site}
use Rattle.staircase.specs.Frame.Site.{unsent, in_info, in_red}
use Rattle.staircase.specs.Decoder.{all_sent, correction}
use Rattle.staircase.proofs.Member.{In}
use Rattle.staircase.proofs.Flip.{Sent}
use Rattle.staircase.proofs.Apart.{correction_in}
use Rattle.decoder_locator.specs.declared.Located.{Located}
use Rattle.decoder_locator.specs.declared.Located.TheVariants.{Nowhere, One, Two, Three}
use Rattle.decoder_locator.specs.Located.{positions_of}
use Rattle.decoder_flips.specs.Sites.{Below}
use Rattle.decoder_flips.specs.Positions.{SentAt, Through}

-- ---- the answers of `locate`

abbrev At : ℕ → List Site → ℕ → Type 0
At n w p = (p < n) × (all_sent (get_or w p unsent ∷ []) ≡ true)

module _ (n : ℕ) (w : List Site) {z : Located} where
  told : {v : Located} → z ≡ v → SentAt n w (positions_of z) → SentAt n w (positions_of v)
  told e h = subst (λ (v : Located). SentAt n w (positions_of v)) e h

  pub one_sent : {p : ℕ} → z ≡ One p → SentAt n w (positions_of z) → At n w p
  unfolding SentAt positions_of
  one_sent e h = let q = told e h in (q.0, q.1)

  pub two_sent : {p q : ℕ} → z ≡ Two p q → SentAt n w (positions_of z) → At n w p × At n w q
  unfolding SentAt positions_of
  two_sent e h = let x = told e h in ((x.0, x.1), (x.2.0, x.2.1))

  pub three_sent : {p q u : ℕ} → z ≡ Three p q u → SentAt n w (positions_of z) → At n w p × At n w q × At n w u
  unfolding SentAt positions_of
  three_sent e h = let x = told e h in ((x.0, x.1), (x.2.0, x.2.1), (x.2.2.0, x.2.2.1))

module _ (G : ℕ → List ℕ → List ℕ → Type 0) {z : Located} where
  back : {v : Located} (b b' : List ℕ) → z ≡ v → Through G (positions_of v) b b' → Through G (positions_of z) b b'
  back b b' e h = subst (λ (v : Located). Through G (positions_of v) b b') (sym e) h

  pub none_through : (b : List ℕ) → z ≡ Nowhere → Through G (positions_of z) b b
  unfolding Through positions_of
  none_through b e = back b b e refl

  pub one_through : {p : ℕ} (b b' : List ℕ) → z ≡ One p → G p b b' → Through G (positions_of z) b b'
  unfolding Through positions_of
  one_through b b' e h = back b b' e (b, refl, h)

  pub two_through : {p q : ℕ} (b m b' : List ℕ) → z ≡ Two p q → G q b m → G p m b' → Through G (positions_of z) b b'
  unfolding Through positions_of
  two_through b m b' e h k = back b b' e (m, (b, refl, h), k)

  pub three_through : {p q u : ℕ} (b m n b' : List ℕ) → z ≡ Three p q u → G u b m → G q m n → G p n b' → Through G (positions_of z) b b'
  unfolding Through positions_of
  three_through b m n b' e h k j = back b b' e (n, (m, (b, refl, h), k), j)

-- ---- a correction

sent_one : (x : Site) → Sent x → all_sent (x ∷ []) ≡ true
sent_one unsent h = absurd h
sent_one (in_info k) h = refl
sent_one (in_red k) h = refl

module _ (s : Params) (f : Frame) (w : List Site) (z : Located) (c : correction s f w ≡ map (λ j. get_or w j unsent) (positions_of z)) where
  abbrev site : ℕ → Site
  site p = get_or w p unsent

  pub sent_found : (n : ℕ) → Below n (positions_of z) → SentAt n w (positions_of z)
  unfolding SentAt Below
  sent_found n bounds = go (positions_of z) bounds (λ y i. (correction_in s f w y (subst (λ (v : List Site). In y v) (sym c) i)).0)
    where
      go : (ps : List ℕ) → Below n ps → ((y : Site) → In y (map site ps) → Sent y) → SentAt n w ps
      go [] q h = tt
      go (p ∷ ps) q h = (q.0, sent_one (site p) (h (site p) (inl refl)), go ps q.1 (λ y i. h y (inr i)))

  pub flips-is : {k : ℕ} → k ≡ length (positions_of z) → k ≡ length (correction s f w)
  flips-is q = q ∙ sym (length-map (positions_of z) site) ∙ ap length (sym c)
