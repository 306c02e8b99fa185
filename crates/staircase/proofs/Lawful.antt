-- Kept remainders of the words of any kind of frame.
--   Lawful                     what is asked of a kind of frame
--   word_number, number_lt     word a of line k by its number
--   lines_keep, keeps_line     numbers right for all words, line by line
--   fits-received, fits_after  buffers that fit, and after flips
--   flipped_keeps              a flipped bit of a word changes the numbers of the words that have its other places; that of the word itself is left open
--   met-here .. power-away     what a word gets from one place
--   one_elsewhere, one_there   what is asked of a bit that has one other place at most
-- Assumes nothing.
use mathlib.Core.Path.{◌≡◌, refl, sym, ap, ap₂, ◌∙◌, subst}
use mathlib.Core.Bool.{true, false, cond, true≢false}
use mathlib.Core.Logic.{◌≢◌, ◌⊎◌, inl, inr}
use mathlib.Core.List.{List, [], ◌∷◌}
use Prim.Native.Nat.{ℕ, zero, suc, ◌+◌, ◌-◌, ◌*◌, ◌/◌, ◌%◌, ◌<◌, zero-le, suc-le-suc}
use native.Mathlib.Nat.{mod-lt, div-add-mod', div-lt_iff_lt-mul}
use native.Mathlib.Decide.{ℕ_discrete}
use lib.Arith.{digits_lt, digits_div, digits_mod}
use lib.Dec.{eqb}
use lib.ListN.{length, get_or}
use borrow.Author.Tests.{eq-eqb, ne_eqb}
use Rattle.bch.specs.Polynomial.{◌⊕◌}
use Rattle.bch.specs.Powers.{power_mod}
use Rattle.bch.proofs.Sum.{⊕-zero-right}
use Rattle.staircase.specs.Design.{Params}
use Rattle.staircase.specs.Frame.{Frame, Site, word, flip, frame_of}
use Rattle.staircase.specs.Frame.Site.{unsent, in_info, in_red}
use Rattle.staircase.specs.Decoder.{flip_all}
use Rattle.staircase.specs.Kept.{Kept, Holds, Keeps, KeepsBut}
use Rattle.staircase.specs.Layout.{Place, Layout, word_total, word_at, powers_at, met_at, Fits}
use Rattle.staircase.proofs.Search.{cond-true, cond-false}
use Rattle.staircase.proofs.Member.{In}
use Rattle.staircase.proofs.Flip.{Sent, Within, Received, Distinct, bit_at-bits, flip_all_received}
use Rattle.staircase.proofs.Weight.{weight}
use Rattle.staircase.proofs.Kept.{places-keep}

pub record Lawful (G : Layout) : Type 0 where
  pub some : 0 < G.code.M
  pub long : (k a : ℕ) → k < G.lines → a < G.code.M → length (G.sites k a) ≡ G.bits k
  -- no sent site stands twice in a word
  pub distinct : (k a : ℕ) → k < G.lines → a < G.code.M → Distinct (G.sites k a)
  pub within : (k a : ℕ) → k < G.lines → a < G.code.M → (f : Frame) → length f.info ≡ G.info → length f.red ≡ G.red
      → (y : Site) → Sent y → In y (G.sites k a) → Within y f
  -- a sent bit at position p stands in no other word but those of its places, and has the sum of their powers there
  pub elsewhere : (k a p : ℕ) → k < G.lines → a < G.code.M → p < G.bits k → Sent (get_or (G.sites k a) p unsent)
      → (w : ℕ) → w < word_total G → w ≢ k * G.code.M + a → met_at (G.others k a p) w ≡ false → ¬ In (get_or (G.sites k a) p unsent) (word_at G w).sites
  pub there : (k a p : ℕ) → k < G.lines → a < G.code.M → p < G.bits k → Sent (get_or (G.sites k a) p unsent)
      → (w : ℕ) → w < word_total G → w ≢ k * G.code.M + a → met_at (G.others k a p) w ≡ true
      → weight G.code.g G.code.r (get_or (G.sites k a) p unsent) (word_at G w).sites ≡ powers_at G.code (G.others k a p) w

-- ---- buffers

module _ {G : Layout} {info red : List ℕ} (F : Fits G info red) where
  pub fits_received : Received (frame_of info red) (frame_of info red)
  fits_received = record { info_length = refl; red_length = refl; binary = bit_at-bits (frame_of info red) F.info_bits F.red_bits }

  pub fits_after : (c : List Site) {info' red' : List ℕ} → frame_of info' red' ≡ flip_all c (frame_of info red) → Fits G info' red'
  fits_after c {info'} {red'} e =
      let g : Received (frame_of info red) (frame_of info' red') =
      subst (λ (z : Frame). Received (frame_of info red) z) (sym e) (flip_all_received c (frame_of info red) (frame_of info red) fits_received) in
      record {
        info_length = g.info_length ∙ F.info_length;
        red_length = g.red_length ∙ F.red_length;
        info_bits = λ k. g.binary (in_info k);
        red_bits = λ k. g.binary (in_red k);
      }

-- ---- word a of line k

pub word_number : (G : Layout) (k a : ℕ) → a < G.code.M → (word_at G (k * G.code.M + a)).sites ≡ G.sites k a
word_number G k a h = ap₂ G.sites (digits_div k h) (digits_mod k h)

pub number_lt : (G : Layout) (k a : ℕ) → k < G.lines → a < G.code.M → k * G.code.M + a < word_total G
number_lt G k a hk ha = digits_lt {q = k} {m = G.lines} hk ha

module _ (G : Layout) (f : Frame) (kept : Kept) where
  pub lines_keep : 0 < G.code.M
      → ((k a : ℕ) → k < G.lines → a < G.code.M → Holds (word G.code (G.sites k a)) (kept.number (k * G.code.M + a)) (kept.mark (k * G.code.M + a)) f)
      → Keeps (word_at G) (word_total G) f kept
  lines_keep some h w hw =
      subst (λ (n : ℕ). Holds (word_at G w) (kept.number n) (kept.mark n) f) (div-add-mod' w G.code.M)
      (h (w / G.code.M) (w % G.code.M) ((div-lt_iff_lt-mul some).1 hw) (mod-lt w some))

  pub keeps_line : Keeps (word_at G) (word_total G) f kept → (k a : ℕ) → k < G.lines → a < G.code.M
      → Holds (word G.code (G.sites k a)) (kept.number (k * G.code.M + a)) (kept.mark (k * G.code.M + a)) f
  keeps_line h k a hk ha =
      subst (λ (v : List Site). Holds (word G.code v) (kept.number (k * G.code.M + a)) (kept.mark (k * G.code.M + a)) f) (word_number G k a ha)
      (h (k * G.code.M + a) (number_lt G k a hk ha))

-- The words of the bit's other places, where the frame has them, get its powers and lose their marks.
pub flipped_keeps : {G : Layout} → Lawful G → (f : Frame) → Received f f → (k a p : ℕ) → k < G.lines → a < G.code.M → p < G.bits k
    → Sent (get_or (G.sites k a) p unsent) → Within (get_or (G.sites k a) p unsent) f → (kept kept' : Kept)
    → KeepsBut (word_at G) (word_total G) (k * G.code.M + a) f kept
    → ((w : ℕ) → w < word_total G → kept'.number w ≡ kept.number w ⊕ powers_at G.code (G.others k a p) w)
    → ((w : ℕ) → w < word_total G → kept'.mark w ≡ cond (met_at (G.others k a p) w) false (kept.mark w))
    → KeepsBut (word_at G) (word_total G) (k * G.code.M + a) (flip (get_or (G.sites k a) p unsent) f) kept'
flipped_keeps {G} A f g k a p hk ha hp sent within kept kept' h number mark =
    places-keep (word_at G) (word_total G) f g (k * G.code.M + a) G.code (G.others k a p) (get_or (G.sites k a) p unsent) within
    (A.elsewhere k a p hk ha hp sent) (A.there k a p hk ha hp sent) kept kept' h number mark

-- ---- one other place

pub position-of : (y : Site) (w : List Site) → In y w → (p : ℕ) × (p < length w) × (y ≡ get_or w p unsent)
position-of y (x ∷ w) (inl e) = (zero, suc-le-suc zero-le, e)
position-of y (x ∷ w) (inr i) = let t = position-of y w i in (suc t.0, suc-le-suc t.1, t.2)
position-of y [] x' = elim x' [ ]

module _ (c : Place) (w : ℕ) where
  pub met_here : c.word ≡ w → met_at (c ∷ []) w ≡ true
  unfolding met_at
  met_here e = cond-true (eqb c.word w) _ _ (eq-eqb c.word w e)

  pub met_away : c.word ≢ w → met_at (c ∷ []) w ≡ false
  unfolding met_at
  met_away d = cond-false (eqb c.word w) _ _ (ne_eqb c.word w d)

module _ (s : Params) (c : Place) (w : ℕ) where
  pub power-here : c.word ≡ w → powers_at s (c ∷ []) w ≡ power_mod s.g s.r c.exponent
  unfolding powers_at
  power-here e = ap (λ (z : ℕ). z ⊕ 0) (cond-true (eqb c.word w) _ _ (eq-eqb c.word w e)) ∙ ⊕-zero-right (power_mod s.g s.r c.exponent)

  pub power_away : c.word ≢ w → powers_at s (c ∷ []) w ≡ 0
  unfolding powers_at
  power_away d = ap (λ (z : ℕ). z ⊕ 0) (cond-false (eqb c.word w) _ _ (ne_eqb c.word w d)) ∙ ⊕-zero-right 0

pub one_elsewhere : (c : Place) (w u : ℕ) {P : Type 0} → (P → (w ≡ u) ⊎ (w ≡ c.word)) → w ≢ u → met_at (c ∷ []) w ≡ false → ¬ P
one_elsewhere c w u holder d e i = go (holder i)
  where
    go : (w ≡ u) ⊎ (w ≡ c.word) → ⊥
    go (inl q) = d q
    go (inr q) = true≢false (sym (met_here c w (sym q)) ∙ e)

pub one_there : (s : Params) (c : Place) (w : ℕ) {x : ℕ} → (w ≡ c.word → x ≡ power_mod s.g s.r c.exponent) → met_at (c ∷ []) w ≡ true
    → x ≡ powers_at s (c ∷ []) w
one_there s c w {x} h e = go (ℕ_discrete w c.word)
  where
    go : Dec (w ≡ c.word) → x ≡ powers_at s (c ∷ []) w
    go (yes q) = h q ∙ sym (power-here s c w (sym q))
    go (no q) = absurd (true≢false (sym e ∙ met_away c w (λ z. q (sym z))))
