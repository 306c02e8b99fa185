-- Kept remainders of any words whatever, while bits are flipped and words are corrected.
--   flip_away, flip-here       a flipped bit that does not stand in a word, and one that does
--   places-keep                a flipped bit of the word u that stands in any number of other places
--   zero-stays                 a word whose number is 0 has no correction
--   stuck_keeps                a word that cannot be corrected is marked
--   corrected-keeps            a word that is corrected has the number 0
-- Assumes nothing.
use mathlib.Core.Path.{◌≡◌, refl, sym, ap, ◌∙◌, subst}
use mathlib.Core.Bool.{Bool, true, false, cond, true≢false}
use mathlib.Core.Logic.{◌≢◌}
use mathlib.Core.List.{List, [], ◌∷◌}
use Prim.Native.Nat.{ℕ, ◌<◌}
use native.Mathlib.Decide.{ℕ_discrete}
use lib.Dec.{eqb}
use Rattle.bch.specs.Polynomial.{◌⊕◌, remainder}
use Rattle.bch.specs.Powers.{power_mod}
use Rattle.bch.proofs.Sum.{⊕-zero-left, ⊕-zero-right}
use Rattle.bch.proofs.Bch.{codeword_zero, zero_codeword}
use Rattle.staircase.specs.Design.{Params}
use Rattle.staircase.specs.Frame.{Frame, Site, Word, flip, read}
use Rattle.staircase.specs.Decoder.{correction, flip_all}
use Rattle.staircase.specs.Kept.{Kept, Holds, Keeps, KeepsBut}
use Rattle.staircase.specs.Layout.{Place, powers_at, met_at}
use Rattle.staircase.proofs.Member.{In}
use Rattle.staircase.proofs.Flip.{Sent, Within, Received, flip_other, read_same}
use Rattle.staircase.proofs.Idle.{correction-none}
use Rattle.staircase.proofs.CorrectedWord.{correction-same, correction_codeword}
use Rattle.staircase.proofs.Weight.{weight, weight_flip}

-- ---- one word

module _ (w : Word) (f : Frame) where
  pub flip_away : (n : ℕ) (m : Bool) → Holds w n m f → (x : Site) → ¬ In x w.sites → Holds w n m (flip x f)
  flip_away n m h x d =
      record {
        number = h.number ∙ ap (remainder w.code.g w.code.r) (sym same);
        mark = λ e. correction-same w.code w.sites (flip x f) f same ∙ h.mark e;
      }
    where
      same : read (flip x f) w.sites ≡ read f w.sites
      same = read_same w.sites (flip x f) f (λ y i. flip_other x y f (λ e. d (subst (λ (z : Site). In z w.sites) (sym e) i)))

  pub flip-here : Received f f → (n : ℕ) (m : Bool) → Holds w n m f → (x : Site) → Within x f
      → Holds w (n ⊕ weight w.code.g w.code.r x w.sites) false (flip x f)
  flip-here g n m h x i =
      record {
        number =
            ap (λ (z : ℕ). z ⊕ weight w.code.g w.code.r x w.sites) h.number
            ∙ sym (weight_flip w.code.g w.code.r f g.binary x i w.sites);
        mark = λ e. absurd (true≢false (sym e));
      }

  pub zero-stays : (n : ℕ) (m : Bool) → Holds w n m f → n ≡ 0 → correction w.code f w.sites ≡ []
  zero-stays n m h z =
      correction-none w.code f w.sites (zero_codeword w.code.g w.code.r (read f w.sites) (sym h.number ∙ z))

  corrected_holds : Received f f → ((y : Site) → Sent y → In y w.sites → Within y f) → correction w.code f w.sites ≢ []
      → Holds w 0 false (flip_all (correction w.code f w.sites) f)
  corrected_holds g within d =
      record {
        number = sym (codeword_zero w.code.g w.code.r _ (correction_codeword w.code f w.sites g within d));
        mark = λ e. absurd (true≢false (sym e));
      }

-- ---- all words

unmet_one : (b rest : Bool) (x y : ℕ) → cond b true rest ≡ false → (rest ≡ false → y ≡ 0) → cond b x 0 ⊕ y ≡ 0
unmet_one true rest x y e h = absurd (true≢false e)
unmet_one false rest x y e h = ⊕-zero-left y ∙ h e

unmet : (s : Params) (cs : List Place) (w : ℕ) → met_at cs w ≡ false → powers_at s cs w ≡ 0
unfolding met_at powers_at
unmet s [] w e = refl
unmet s (c ∷ cs) w e = unmet_one (eqb c.word w) (met_at cs w) (power_mod s.g s.r c.exponent) (powers_at s cs w) e (unmet s cs w)

module _ (W : ℕ → Word) (N : ℕ) where
  -- The words that have one of the places cs get the powers of the flipped bit and lose their marks.
  module _ (f : Frame) (g : Received f f) (u : ℕ) (s : Params) (cs : List Place) (y : Site) (within : Within y f)
      (elsewhere : (w : ℕ) → w < N → w ≢ u → met_at cs w ≡ false → ¬ In y (W w).sites)
      (there : (w : ℕ) → w < N → w ≢ u → met_at cs w ≡ true → weight (W w).code.g (W w).code.r y (W w).sites ≡ powers_at s cs w) where
    pub places-keep : (k k' : Kept) → KeepsBut W N u f k → ((w : ℕ) → w < N → k'.number w ≡ k.number w ⊕ powers_at s cs w)
        → ((w : ℕ) → w < N → k'.mark w ≡ cond (met_at cs w) false (k.mark w)) → KeepsBut W N u (flip y f) k'
    places-keep k k' h number mark w hw d = go (met_at cs w) refl
      where
        go : (b : Bool) → met_at cs w ≡ b → Holds (W w) (k'.number w) (k'.mark w) (flip y f)
        go true e =
            let m : k'.mark w ≡ false = mark w hw ∙ ap (λ (z : Bool). cond z false (k.mark w)) e in
            let n : k'.number w ≡ k.number w ⊕ weight (W w).code.g (W w).code.r y (W w).sites =
            number w hw ∙ ap (λ (z : ℕ). k.number w ⊕ z) (sym (there w hw d e)) in
            subst (λ (z : Bool). Holds (W w) (k'.number w) z (flip y f)) (sym m)
            (subst (λ (z : ℕ). Holds (W w) z false (flip y f)) (sym n) (flip-here (W w) f g (k.number w) (k.mark w) (h w hw d) y within))
        go false e =
            let m : k'.mark w ≡ k.mark w = mark w hw ∙ ap (λ (z : Bool). cond z false (k.mark w)) e in
            let n : k'.number w ≡ k.number w = number w hw ∙ ap (λ (z : ℕ). k.number w ⊕ z) (unmet s cs w e) ∙ ⊕-zero-right (k.number w) in
            subst (λ (z : Bool). Holds (W w) (k'.number w) z (flip y f)) (sym m)
            (subst (λ (z : ℕ). Holds (W w) z (k.mark w) (flip y f)) (sym n) (flip_away (W w) f (k.number w) (k.mark w) (h w hw d) y (elsewhere w hw d e)))

  -- the own number of a corrected word is written last
  pub corrected-keeps : (f f' : Frame) (u : ℕ) → Received f f → (u < N → (y : Site) → Sent y → In y (W u).sites → Within y f)
      → correction (W u).code f (W u).sites ≢ [] → f' ≡ flip_all (correction (W u).code f (W u).sites) f
      → (k : Kept) → KeepsBut W N u f' k → k.number u ≡ 0 → k.mark u ≡ false → Keeps W N f' k
  corrected-keeps f f' u g within d e k h n m w hw = go (ℕ_discrete w u)
    where
      go : Dec (w ≡ u) → Holds (W w) (k.number w) (k.mark w) f'
      go (no q) = h w hw q
      go (yes q) =
          let hu : u < N = subst (λ (z : ℕ). z < N) q hw in
          let r : Holds (W u) 0 false f' = subst (Holds (W u) 0 false) (sym e) (corrected_holds (W u) f g (within hu) d) in
          subst (λ (z : ℕ). Holds (W z) (k.number z) (k.mark z) f') (sym q)
          (subst (λ (x : ℕ). Holds (W u) x (k.mark u) f') (sym n) (subst (λ (b : Bool). Holds (W u) 0 b f') (sym m) r))

  pub stuck_keeps : (f : Frame) (u : ℕ) → correction (W u).code f (W u).sites ≡ [] → (k k' : Kept) → Keeps W N f k → k'.number u ≡ k.number u
      → ((w : ℕ) → w < N → w ≢ u → (k'.number w ≡ k.number w) × (k'.mark w ≡ k.mark w)) → Keeps W N f k'
  stuck_keeps f u e k k' h n same w hw = go (ℕ_discrete w u)
    where
      go : Dec (w ≡ u) → Holds (W w) (k'.number w) (k'.mark w) f
      go (yes q) =
          record {
            number = ap k'.number q ∙ n ∙ ap k.number (sym q) ∙ (h w hw).number;
            mark = λ z. ap (λ (v : ℕ). correction (W v).code f (W v).sites) q ∙ e;
          }
      go (no q) =
          let s = same w hw q in
          subst (λ (b : Bool). Holds (W w) (k'.number w) b f) (sym s.1) (subst (λ (x : ℕ). Holds (W w) x (k.mark w) f) (sym s.0) (h w hw))
