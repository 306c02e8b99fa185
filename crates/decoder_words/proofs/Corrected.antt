-- The kept numbers of a frame while a word is corrected.
--   turned-all                       all flips of a word: the numbers of all words but this one
--   added_behind                     what stands behind the numbers
--   word_kept                        the number and the mark of a word
--   word-stuck, word-corrected       what is left after a word
-- Assumes nothing.
use mathlib.Core.Path.{◌≡◌, refl, sym, ap, ◌∙◌, subst, subst⁻¹}
use mathlib.Core.Logic.{◌≢◌, inl}
use mathlib.Core.List.{List, [], ◌∷◌, map}
use Prim.Native.Nat.{ℕ, ◌+◌, ◌*◌, ◌%◌, ◌<◌}
use native.Mathlib.Nat.{suc-ne-zero}
use lib.ListN.{length, get_or, drop}
use Rattle.staircase.specs.Design.{Params}
use Rattle.staircase.specs.Frame.{Frame, Site, word, frame_of}
use Rattle.staircase.specs.Frame.Site.{unsent}
use Rattle.staircase.specs.Decoder.{correction, flip_all}
use Rattle.staircase.specs.Kept.{Holds, Keeps}
use Rattle.staircase.specs.Layout.{Layout, word_total, word_at, Fits}
use Rattle.staircase.proofs.Member.{In}
use Rattle.staircase.proofs.Flip.{Sent, all_sent_each, Within, site_in}
use Rattle.staircase.proofs.Lawful.{Lawful, fits_received, fits_after, word_number, keeps_line, flipped_keeps}
use Rattle.design.specs.Sizes.{params_of}
use Rattle.decoder_locator.specs.declared.Located.{Located}
use Rattle.decoder_locator.specs.Located.{positions_of}
use Rattle.decoder_kept.specs.Numbers.{kept_at, number_at, marked_at, OnlyAt}
use Rattle.decoder_kept.specs.Words.{kept_of}
use Rattle.decoder_kept.proofs.Words.{word_marked, word-settled}
use Rattle.decoder_flips.specs.Sites.{Below}
use Rattle.decoder_flips.specs.Positions.{SentAt, Through}
use Rattle.decoder_flips.proofs.Positions.{sent_found}
use Rattle.layout.specs.declared.Line.{Line}
use Rattle.layout.specs.Layouts.{lines_in, bits_in}
use Rattle.decoder_lines.specs.Layouts.{layout_of, LineFits, line_word}
use Rattle.decoder_lines.proofs.Layouts.{lawful_of}
use Rattle.decoder_words.specs.Ready.{FrameKept, correction_at, KeptBut, AddedAll}

no_list : (ps : List ℕ) → length ps ≡ 0 → ps ≡ []
no_list [] q = refl
no_list (p ∷ ps) q = absurd (suc-ne-zero (length ps) q)

no_positions : (v : ℕ → Site) (ps : List ℕ) → map v ps ≡ [] → ps ≡ []
no_positions v [] e = refl
no_positions v (p ∷ ps) e = absurd (suc-ne-zero (length (map v ps)) (ap length e))

-- what stands behind the numbers stays
pub added_behind : (line : Line) (links : List ℕ) (a : ℕ) (ps b b' : List ℕ) → AddedAll line links a ps b b'
    → drop (4 * (lines_in line.frames.shape line.frames.blocks * line.frames.d.size)) b'
    ≡ drop (4 * (lines_in line.frames.shape line.frames.blocks * line.frames.d.size)) b
unfolding Through
added_behind line links a [] b b' C = ap (drop (4 * (lines_in line.frames.shape line.frames.blocks * line.frames.d.size))) (sym C)
added_behind line links a (p ∷ ps) b b' C = C.2.behind ∙ added_behind line links a ps b C.0 C.1

module _ {line : Line} {links : List ℕ} (L : LineFits line links) (a : ℕ) (ha : a < line.frames.d.size) where
  abbrev G : Layout
  G = layout_of line.frames links

  abbrev s : Params
  s = params_of line.frames.d

  abbrev w : List Site
  w = line_word line links a

  abbrev u : ℕ
  u = line.k * line.frames.d.size + a

  abbrev site : ℕ → Site
  site p = get_or (line_word line links a) p unsent

  A : Lawful G
  A = lawful_of L.frames

  word-within : {info red : List ℕ} → Fits G info red → (y : Site) → Sent y → In y w → Within y (frame_of info red)
  word-within {info} {red} F = A.within line.k a L.within ha (frame_of info red) F.info_length F.red_length

  -- the frame with all of them flipped, and the numbers of all words but this one
  turned-all : (ps : List ℕ) {info red : List ℕ} → Fits G info red → (b b' : List ℕ) → SentAt (bits_in line.frames.shape s) w ps
      → AddedAll line links a ps b b' → KeptBut line links a (frame_of info red) b → KeptBut line links a (flip_all (map site ps) (frame_of info red)) b'
  unfolding SentAt Through flip_all
  turned-all [] {info} {red} F b b' S C h = subst (λ (z : List ℕ). KeptBut line links a (frame_of info red) z) C h
  turned-all (p ∷ ps) {info} {red} F b b' S C h =
      let f : Frame = flip_all (map site ps) (frame_of info red) in
      let F' : Fits G f.info f.red = fits_after F (map site ps) {info' = f.info} {red' = f.red} refl in
      let sent : Sent (site p) = all_sent_each (site p ∷ []) S.1 (site p) (inl refl) in
      let at : In (site p) w = site_in w p (subst (λ (n : ℕ). p < n) (sym (A.long line.k a L.within ha)) S.0) in
      flipped_keeps A f (fits_received F') line.k a p L.within ha S.0 sent (word-within F' (site p) sent at) (kept_of C.0) (kept_of b')
      (turned-all ps F b C.0 S.2 C.1 h) C.2.numbers C.2.marks

  -- ---- a word

  module _ {info red b : List ℕ} (K : FrameKept line.frames links info red b) where
    abbrev f₀ : Frame
    f₀ = frame_of info red

    word-is : (word_at G u).sites ≡ w
    word-is = word_number G line.k a ha

    pub word_kept : Holds (word (params_of line.frames.d) (line_word line links a)) (number_at b (line.k * line.frames.d.size + a))
        (marked_at b (line.k * line.frames.d.size + a)) (frame_of info red)
    word_kept = keeps_line G f₀ (kept_of b) K.numbers line.k a L.within ha

    module _ (z : Located) (c : correction_at line links (frame_of info red) a ≡ map (λ j. get_or (line_word line links a) j unsent) (positions_of z)) where
      -- a word that cannot be corrected is marked
      pub word-stuck : {x : ℕ} {b' info' red' : List ℕ} {k : ℕ} → x ≡ kept_at b (line.k * line.frames.d.size + a) → k ≡ length (positions_of z) → k ≡ 0
          → OnlyAt b b' (line.k * line.frames.d.size + a) (x % 2147483648 + 2147483648)
          → frame_of info' red' ≡ flip_all (correction_at line links (frame_of info red) a) (frame_of info red)
          → FrameKept line.frames links info' red' b'
      unfolding flip_all
      word-stuck {x} {b'} {info'} {red'} {k} ex ek z0 O q =
          let none : correction s f₀ w ≡ [] = c ∙ ap (map site) (no_list (positions_of z) (sym ek ∙ z0)) in
          let same : frame_of info' red' ≡ f₀ = q ∙ ap (λ (v : List Site). flip_all v f₀) none in
          record {
            frame = fits_after K.frame (correction s f₀ w) q;
            long = O.long ∙ K.long;
            numbers =
                subst⁻¹ (λ (y : Frame). Keeps (word_at G) (word_total G) y (kept_of b')) same
                (word_marked (word_at G) (word_total G) f₀ u (ap (correction s f₀) word-is ∙ none) K.numbers
                (subst (λ (y : ℕ). OnlyAt b b' u (y % 2147483648 + 2147483648)) ex O));
          }

      -- a word whose bits are flipped: the numbers of the words that cross, and then its own
      pub word-corrected : {b' b'' info' red' : List ℕ} {k : ℕ} → Below (bits_in line.frames.shape (params_of line.frames.d)) (positions_of z)
          → k ≡ length (positions_of z) → k ≢ 0 → AddedAll line links a (positions_of z) b b' → length b' ≡ length b
          → OnlyAt b' b'' (line.k * line.frames.d.size + a) 0
          → frame_of info' red' ≡ flip_all (correction_at line links (frame_of info red) a) (frame_of info red)
          → FrameKept line.frames links info' red' b''
      word-corrected {b'} {b''} {info'} {red'} {k} bounds ek d C long O q =
          let same = ap (correction s f₀) word-is in
          let flipped : frame_of info' red' ≡ flip_all (map site (positions_of z)) f₀ = q ∙ ap (λ (v : List Site). flip_all v f₀) c in
          let some : correction s f₀ (word_at G u).sites ≢ [] =
          λ y. d (ek ∙ ap length (no_positions site (positions_of z) (sym c ∙ sym same ∙ y))) in
          let S = sent_found s f₀ w z c (bits_in line.frames.shape s) bounds in
          record {
            frame = fits_after K.frame (correction s f₀ w) q;
            long = O.long ∙ long ∙ K.long;
            numbers =
                word-settled (word_at G) (word_total G) f₀ u (frame_of info' red') (fits_received K.frame)
                (λ hu y sent i. word-within K.frame y sent (subst (λ (v : List Site). In y v) word-is i)) some
                (q ∙ ap (λ (v : List Site). flip_all v f₀) (sym same))
                (subst⁻¹ (λ (y : Frame). KeptBut line links a y b') flipped (turned-all (positions_of z) K.frame b b' S C (λ v hv e. K.numbers v hv))) O;
          }
