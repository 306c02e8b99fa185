-- Laws of what correcting a word comes to.
--   outcome-clean, outcome_other    of a codeword, and of a word that is none
--   outcome-flips                   the bits of the outcome are those that correcting flips
--   stuck_of-bound                   a word is stuck once
--   stuck_each-append, stuck_among-append, stuck_among_last   words after words, and one more word
--   stuck_each-bound, stuck_among-bound   no more than there are words
--   stuck_each-idle                  a round that flips nothing has as many stuck verdicts as words outside the code
--   last_stuck-idle, last_stuck_last, last_stuck-more   by the first round
--   last_stuck-bound                 no more than there are words
--   run_each_last                    the last round made leaves the frame
--   last_stuck-outside               where the last round made flips nothing, its stuck verdicts are the words outside at the end
--   run_each-early                   rounds that end before all are made end with such a round
-- Assumes nothing.
use mathlib.Core.Path.{◌≡◌, refl, sym, ap, ap₂, ◌∙◌, subst}
use mathlib.Core.Bool.{Bool, true, false, cond}
use mathlib.Core.Logic.{◌≢◌}
use mathlib.Core.List.{List, [], ◌∷◌, ◌++◌, map-append}
use Prim.Native.Nat.{ℕ, zero, suc, ◌+◌, ◌≤◌, ◌<◌}
use native.Mathlib.Nat.{zero-add, add-zero, add_assoc, suc-ne-zero}
use native.Mathlib.Decide.{ℕ_discrete}
use native.Mathlib.Omega.{arith}
use lib.Dec.{eqb}
use lib.ListN.{length, length-map}
use borrow.Author.Tests.{eq-eqb, ne_eqb}
use Rattle.staircase.specs.Lists.{tabulate}
use Rattle.staircase.specs.Design.{Params}
use Rattle.staircase.specs.Frame.{Frame, Site, Word, word, plain, in_code, outside_each}
use Rattle.staircase.specs.Decoder.{correction, flip_all, Progress, correct_word, correct_each, round_of, correct_words, round, Decoded, run_each}
use Rattle.staircase.specs.Outcomes.{Outcome, corrected_bits, outcome, flips_of, stuck_of, stuck_each, stuck_among, before_last, last_stuck}
use Rattle.staircase.specs.Outcomes.Outcome.{clean, corrected, stuck}
use Rattle.staircase.proofs.Tabulate.{tabulate_last}
use Rattle.staircase.proofs.Rounds.{correct_each-from, run_each-idle, run_each-more}
use Rattle.staircase.proofs.Idle.{correction-none}

-- ---- a word

module _ (s : Params) where
  pub outcome-clean : (f : Frame) (w : List Site) → in_code s f w ≡ true → outcome s f w ≡ clean
  unfolding outcome
  outcome-clean f w e = ap (λ (z : Bool). cond z clean (corrected_bits (length (correction s f w)))) e

  pub outcome_other : (f : Frame) (w : List Site) → in_code s f w ≡ false → outcome s f w ≡ corrected_bits (length (correction s f w))
  unfolding outcome
  outcome_other f w e = ap (λ (z : Bool). cond z clean (corrected_bits (length (correction s f w)))) e

  flips-by : (n : ℕ) → flips_of (corrected_bits n) ≡ n
  flips-by zero = refl
  flips-by (suc n) = refl

  pub outcome-flips : (f : Frame) (w : List Site) → flips_of (outcome s f w) ≡ length (correction s f w)
  outcome-flips f w = go (in_code s f w) refl
    where
      go : (z : Bool) → in_code s f w ≡ z → flips_of (outcome s f w) ≡ length (correction s f w)
      go true e = ap flips_of (outcome-clean f w e) ∙ sym (ap length (correction-none s f w e))
      go false e = ap flips_of (outcome_other f w e) ∙ flips-by (length (correction s f w))

  -- a word that has no correction
  outcome-none : (f : Frame) (w : List Site) → correction s f w ≡ [] → stuck_of (outcome s f w) ≡ cond (in_code s f w) 0 1
  unfolding outcome
  outcome-none f w c = go (in_code s f w)
    where
      go : (z : Bool) → stuck_of (cond z clean (corrected_bits (length (correction s f w)))) ≡ cond z 0 1
      go true = refl
      go false = ap (λ (c : List Site). stuck_of (corrected_bits (length c))) c

pub stuck_of-bound : (o : Outcome) → stuck_of o ≤ 1
stuck_of-bound clean = omega arith
stuck_of-bound (corrected n) = omega arith
stuck_of-bound stuck = omega arith

-- ---- words, one after the other

-- what a word leaves to the words behind it
round_of-first : (w : Word) (u : List Word) (f : Frame)
    → round_of (w ∷ u) f ≡ record {
      frame = (round_of u (flip_all (correction w.code f w.sites) f)).frame;
      flips = length (correction w.code f w.sites) + (round_of u (flip_all (correction w.code f w.sites) f)).flips;
    }
unfolding round_of correct_each correct_word
round_of-first w u f =
    let c : List Site = correction w.code f w.sites in
    ap (λ (n : ℕ). correct_each (record { frame = flip_all c f; flips = n }) u) (zero-add (length c)) ∙ correct_each-from (flip_all c f) (length c) u

pub stuck_each-append : (u v : List Word) (f : Frame) → stuck_each f (u ++ v) ≡ stuck_each f u + stuck_each (round_of u f).frame v
unfolding stuck_each round_of correct_each
stuck_each-append [] v f = sym (zero-add (stuck_each f v))
stuck_each-append (w ∷ u) v f =
    let g : Frame = flip_all (correction w.code f w.sites) f in
    let k : ℕ = stuck_of (outcome w.code f w.sites) in
    ap (λ (n : ℕ). k + n) (stuck_each-append u v g)
    ∙ sym (add_assoc k (stuck_each g u) (stuck_each (round_of u g).frame v))
    ∙ ap (λ (x : Progress). k + stuck_each g u + stuck_each x.frame v) (sym (round_of-first w u f))

pub stuck_each-bound : (ws : List Word) (f : Frame) → stuck_each f ws ≤ length ws
unfolding stuck_each
stuck_each-bound [] f = omega arith
stuck_each-bound (w ∷ ws) f =
    omega (arith, stuck_of-bound (outcome w.code f w.sites), stuck_each-bound ws (flip_all (correction w.code f w.sites) f))

none : (l : List Site) → length l ≡ 0 → l ≡ []
none [] e = refl
none (x ∷ l) e = absurd (suc-ne-zero (length l) e)

-- such a round has met every word as it is at the end
pub stuck_each-idle : (ws : List Word) (f : Frame) → (round_of ws f).flips ≡ 0 → (stuck_each f ws ≡ outside_each f ws) × ((round_of ws f).frame ≡ f)
unfolding stuck_each outside_each round_of correct_each flip_all
stuck_each-idle [] f e = (refl, refl)
stuck_each-idle (w ∷ ws) f e =
    let c : List Site = correction w.code f w.sites in
    let first = round_of-first w ws f in
    let total : (round_of (w ∷ ws) f).flips ≡ length c + (round_of ws (flip_all c f)).flips = ap (λ (x : Progress). x.flips) first in
    let ec : c ≡ [] = none c (omega (arith, total, e)) in
    let same : flip_all c f ≡ f = ap (λ (d : List Site). flip_all d f) ec in
    let rest = stuck_each-idle ws f (ap (λ (x : Frame). (round_of ws x).flips) (sym same) ∙ omega (arith, total, e)) in (
      ap₂ (λ (a b : ℕ). a + b) (outcome-none w.code f w.sites ec) (ap (λ (x : Frame). stuck_each x ws) same ∙ rest.0),
      ap (λ (x : Progress). x.frame) first ∙ ap (λ (x : Frame). (round_of ws x).frame) same ∙ rest.1,
    )

-- ---- words of one code

module _ (s : Params) where
  pub stuck_among-append : (u v : List (List Site)) (f : Frame) → stuck_among s f (u ++ v) ≡ stuck_among s f u + stuck_among s (round s u f).frame v
  unfolding stuck_among round correct_words round_of
  stuck_among-append u v f = ap (stuck_each f) (map-append (word s) u v) ∙ stuck_each-append (plain s u) (plain s v) f

  pub stuck_among_last : (n : ℕ) (g : ℕ → List Site) (f : Frame)
      → stuck_among s f (tabulate (suc n) g) ≡ stuck_among s f (tabulate n g) + stuck_of (outcome s (round s (tabulate n g) f).frame (g n))
  unfolding stuck_among stuck_each
  stuck_among_last n g f =
      ap (stuck_among s f) (tabulate_last n g) ∙ stuck_among-append (tabulate n g) (g n ∷ []) f
      ∙ ap (λ (k : ℕ). stuck_among s f (tabulate n g) + k) (add-zero (stuck_of (outcome s (round s (tabulate n g) f).frame (g n))))

  pub stuck_among-bound : (ws : List (List Site)) (f : Frame) → stuck_among s f ws ≤ length ws
  unfolding stuck_among
  stuck_among-bound ws f = subst (λ (n : ℕ). stuck_each f (plain s ws) ≤ n) (length-map ws (word s)) (stuck_each-bound (plain s ws) f)

-- ---- the last round made

module _ (ws : List Word) where
  before_last-idle : (k : ℕ) (f : Frame) → (round_of ws f).flips ≡ 0 → before_last ws (suc k) f ≡ f
  unfolding before_last
  before_last-idle k f e = ap (λ (z : Bool). cond z f (cond (eqb k 0) f (before_last ws k (round_of ws f).frame))) (eq-eqb (round_of ws f).flips 0 e)

  before_last_one : (f : Frame) → before_last ws 1 f ≡ f
  unfolding before_last
  before_last_one f = go (eqb (round_of ws f).flips 0)
    where
      go : (z : Bool) → cond z f f ≡ f
      go true = refl
      go false = refl

  before_last-more : (k : ℕ) (f : Frame) → (round_of ws f).flips ≢ 0 → k ≢ 0 → before_last ws (suc k) f ≡ before_last ws k (round_of ws f).frame
  unfolding before_last
  before_last-more k f d e =
      ap (λ (z : Bool). cond z f (cond (eqb k 0) f (before_last ws k (round_of ws f).frame))) (ne_eqb (round_of ws f).flips 0 d)
      ∙ ap (λ (z : Bool). cond z f (before_last ws k (round_of ws f).frame)) (ne_eqb k 0 e)

  pub last_stuck-idle : (k : ℕ) (f : Frame) → (round_of ws f).flips ≡ 0 → last_stuck ws (suc k) f ≡ stuck_each f ws
  unfolding last_stuck
  last_stuck-idle k f e = ap (λ (x : Frame). stuck_each x ws) (before_last-idle k f e)

  pub last_stuck_last : (f : Frame) → last_stuck ws 1 f ≡ stuck_each f ws
  unfolding last_stuck
  last_stuck_last f = ap (λ (x : Frame). stuck_each x ws) (before_last_one f)

  pub last_stuck-more : (k : ℕ) (f : Frame) → (round_of ws f).flips ≢ 0 → k ≢ 0 → last_stuck ws (suc k) f ≡ last_stuck ws k (round_of ws f).frame
  unfolding last_stuck
  last_stuck-more k f d e = ap (λ (x : Frame). stuck_each x ws) (before_last-more k f d e)

  pub last_stuck-bound : (k : ℕ) (f : Frame) → last_stuck ws k f ≤ length ws
  unfolding last_stuck
  last_stuck-bound k f = stuck_each-bound ws (before_last ws k f)

  -- the frame at the end is what the last round made leaves
  pub run_each_last : (k : ℕ) (f : Frame) → (run_each ws (suc k) f).frame ≡ (round_of ws (before_last ws (suc k) f)).frame
  unfolding run_each
  run_each_last zero f = go (ℕ_discrete (round_of ws f).flips 0) ∙ ap (λ (x : Frame). (round_of ws x).frame) (sym (before_last_one f))
    where
      go : Dec ((round_of ws f).flips ≡ 0) → (run_each ws 1 f).frame ≡ (round_of ws f).frame
      go (yes e) = ap (λ (x : Decoded). x.frame) (run_each-idle ws 0 f e)
      go (no d) = ap (λ (x : Decoded). x.frame) (run_each-more ws 0 f d)
  run_each_last (suc k) f = go (ℕ_discrete (round_of ws f).flips 0) (run_each_last k (round_of ws f).frame)
    where
      go : Dec ((round_of ws f).flips ≡ 0) → (run_each ws (suc k) (round_of ws f).frame).frame ≡ (round_of ws (before_last ws (suc k) (round_of ws f).frame)).frame
          → (run_each ws (suc (suc k)) f).frame ≡ (round_of ws (before_last ws (suc (suc k)) f)).frame
      go (yes e) r = ap (λ (x : Decoded). x.frame) (run_each-idle ws (suc k) f e) ∙ ap (λ (x : Frame). (round_of ws x).frame) (sym (before_last-idle (suc k) f e))
      go (no d) r =
          ap (λ (x : Decoded). x.frame) (run_each-more ws (suc k) f d)
          ∙ r ∙ ap (λ (x : Frame). (round_of ws x).frame) (sym (before_last-more (suc k) f d (suc-ne-zero k)))

  pub last_stuck-outside : (k : ℕ) (f : Frame) → (round_of ws (before_last ws (suc k) f)).flips ≡ 0
      → last_stuck ws (suc k) f ≡ outside_each (run_each ws (suc k) f).frame ws
  unfolding last_stuck
  last_stuck-outside k f e =
      let p = stuck_each-idle ws (before_last ws (suc k) f) e in
      p.0 ∙ ap (λ (x : Frame). outside_each x ws) (sym (run_each_last k f ∙ p.1))

  pub run_each-early : (k : ℕ) (f : Frame) → (run_each ws (suc k) f).rounds < suc k → (round_of ws (before_last ws (suc k) f)).flips ≡ 0
  run_each-early zero f h = absurd (go (ℕ_discrete (round_of ws f).flips 0))
    where
      go : Dec ((round_of ws f).flips ≡ 0) → ⊥
      go (yes e) = let p : (run_each ws 1 f).rounds ≡ 1 = ap (λ (x : Decoded). x.rounds) (run_each-idle ws 0 f e) in omega (arith, p, h)
      go (no d) =
          let p : (run_each ws 1 f).rounds ≡ 1 + (run_each ws 0 (round_of ws f).frame).rounds = ap (λ (x : Decoded). x.rounds) (run_each-more ws 0 f d) in
          omega (arith, p, h)
  run_each-early (suc k) f h = go (ℕ_discrete (round_of ws f).flips 0) (run_each-early k (round_of ws f).frame)
    where
      go : Dec ((round_of ws f).flips ≡ 0)
          → ((run_each ws (suc k) (round_of ws f).frame).rounds < suc k → (round_of ws (before_last ws (suc k) (round_of ws f).frame)).flips ≡ 0)
          → (round_of ws (before_last ws (suc (suc k)) f)).flips ≡ 0
      go (yes e) r = ap (λ (x : Frame). (round_of ws x).flips) (before_last-idle (suc k) f e) ∙ e
      go (no d) r =
          let p : (run_each ws (suc (suc k)) f).rounds ≡ 1 + (run_each ws (suc k) (round_of ws f).frame).rounds =
          ap (λ (x : Decoded). x.rounds) (run_each-more ws (suc k) f d) in
          ap (λ (x : Frame). (round_of ws x).flips) (before_last-more (suc k) f d (suc-ne-zero k)) ∙ r (omega (arith, p, h))
