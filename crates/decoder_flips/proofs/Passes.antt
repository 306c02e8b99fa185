-- Words of a block or of a line, and blocks or lines, corrected one after the other.
--   flips-told               the flips that an outcome tells
--   pass-none, pass-more     the words before a, and one word more
--   pass-few                 a pass flips at most three bits for each word
--   stuck-none, stuck-more   the stuck words of a pass
--   lines_none, lines_next   no line, and one line more
--   stuck-lines-none, stuck-lines_next   their stuck words
-- Assumes nothing.
use mathlib.Core.Path.{◌≡◌, refl, sym, ap, ap₂, ◌∙◌}
use mathlib.Core.List.{List}
use Prim.Native.Nat.{ℕ, ◌+◌, ◌*◌, ◌≤◌}
use native.Mathlib.Numerals.{add-one}
use native.Mathlib.Omega.{arith}
use lib.ListN.{length}
use Rattle.staircase.specs.Lists.{tabulate, concat}
use Rattle.staircase.specs.Design.{Params}
use Rattle.staircase.specs.Frame.{Frame, Site}
use Rattle.staircase.specs.Decoder.{correction, flip_all, Progress, correct_word, correct_each, correct_words, round}
use Rattle.staircase.specs.Outcomes.{Outcome, outcome, flips_of, stuck_of, stuck_each, stuck_among}
use Rattle.staircase.proofs.Tabulate.{tabulate-length, concat_last}
use Rattle.staircase.proofs.Bounds.{small_product}
use Rattle.staircase.proofs.Rounds.{correct_words-append, correct_words-from, correct_words_last, correct_words-few}
use Rattle.staircase.proofs.Outcomes.{outcome-flips, stuck_among-append, stuck_among_last}

pub flips-told : (s : Params) (g : Frame) (w : List Site) (o : Outcome) {k : ℕ} → k ≡ flips_of o → o ≡ outcome s g w → k ≡ length (correction s g w)
flips-told s g w o q e = q ∙ ap flips_of e ∙ outcome-flips s g w

module _ (s : Params) (W : ℕ → List Site) (f : Frame) where
  pub pass-none : record { frame = f; flips = 0 } ≡ round s (tabulate 0 W) f
  unfolding round correct_words correct_each tabulate
  pass-none = refl

  pub pass-more : (n : ℕ) (x : Progress) (g : Frame) (k : ℕ) → x ≡ round s (tabulate n W) f → g ≡ flip_all (correction s x.frame (W n)) x.frame
      → k ≡ length (correction s x.frame (W n)) → record { frame = g; flips = x.flips + k } ≡ round s (tabulate (n + 1) W) f
  unfolding round correct_word
  pass-more n x g k e h c =
      ap₂ (λ (a : Frame) (b : ℕ). record { frame = a; flips = x.flips + b }) h c ∙ ap (λ (y : Progress). correct_word s y (W n)) e
      ∙ sym (correct_words_last s (record { frame = f; flips = 0 }) n W) ∙ ap (λ (m : ℕ). round s (tabulate m W) f) (sym (add-one n))

  pub pass-few : (n : ℕ) (x : Progress) → s.t ≤ 3 → x ≡ round s (tabulate n W) f → x.flips ≤ 3 * n
  unfolding round
  pass-few n x h e =
      let a = correct_words-few s (record { frame = f; flips = 0 }) (tabulate n W) in
      let b = small_product s.t (length (tabulate n W)) 3 n h (omega (arith, tabulate-length n W)) in
      omega (arith, a, b, ap (λ (y : Progress). y.flips) e)

  pub stuck-none : 0 ≡ stuck_among s f (tabulate 0 W)
  unfolding stuck_among stuck_each tabulate
  stuck-none = refl

  pub stuck-more : (n k : ℕ) (x : Progress) (o : Outcome) → k ≡ stuck_among s f (tabulate n W) → x ≡ round s (tabulate n W) f → o ≡ outcome s x.frame (W n)
      → k + stuck_of o ≡ stuck_among s f (tabulate (n + 1) W)
  stuck-more n k x o h e c =
      ap₂ (λ (a b : ℕ). a + b) h (ap stuck_of (c ∙ ap (λ (y : Progress). outcome s y.frame (W n)) e))
      ∙ sym (stuck_among_last s n W f) ∙ ap (λ (m : ℕ). stuck_among s f (tabulate m W)) (sym (add-one n))

module _ (s : Params) (W : ℕ → List (List Site)) (f : Frame) where
  pub lines_none : record { frame = f; flips = 0 } ≡ round s (concat 0 W) f
  unfolding round correct_words correct_each concat
  lines_none = refl

  pub lines_next : (n : ℕ) (x y : Progress) → x ≡ round s (concat n W) f → y ≡ round s (W n) x.frame
      → record { frame = y.frame; flips = x.flips + y.flips } ≡ round s (concat (n + 1) W) f
  unfolding round
  lines_next n x y e h =
      ap (λ (z : Progress). record { frame = z.frame; flips = x.flips + z.flips }) h ∙ sym (correct_words-from s x.frame x.flips (W n))
      ∙ ap (λ (z : Progress). correct_words s z (W n)) e ∙ sym (correct_words-append s (record { frame = f; flips = 0 }) (concat n W) (W n))
      ∙ ap (λ (z : List (List Site)). round s z f) (sym (concat_last n W) ∙ ap (λ (m : ℕ). concat m W) (sym (add-one n)))

  pub stuck-lines-none : 0 ≡ stuck_among s f (concat 0 W)
  unfolding stuck_among stuck_each concat
  stuck-lines-none = refl

  pub stuck-lines_next : (n k m : ℕ) (x : Progress) → k ≡ stuck_among s f (concat n W) → x ≡ round s (concat n W) f → m ≡ stuck_among s x.frame (W n)
      → k + m ≡ stuck_among s f (concat (n + 1) W)
  stuck-lines_next n k m x h e c =
      ap₂ (λ (a b : ℕ). a + b) h (c ∙ ap (λ (y : Progress). stuck_among s y.frame (W n)) e)
      ∙ sym (stuck_among-append s (concat n W) (W n) f)
      ∙ ap (stuck_among s f) (sym (concat_last n W) ∙ ap (λ (j : ℕ). concat j W) (sym (add-one n)))
