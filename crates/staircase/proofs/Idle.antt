-- The decoder on a frame whose words are all in the code: one idle round.
--   error_positions-none, correction-none   a codeword has no errors, and nothing is flipped
--   correct_each_stay, round_of-stays        a round of such words leaves the frame
--   run_each-stays, decoded-stays           rounds, and the rounds of a frame: one is made
-- Assumes nothing.
use mathlib.Core.Path.{◌≡◌, refl, ap, ◌∙◌}
use mathlib.Core.Bool.{Bool, true, cond}
use mathlib.Core.Logic.{inl, inr}
use mathlib.Core.List.{List, [], ◌∷◌, ◌++◌, map}
use Prim.Native.Nat.{ℕ, zero, suc, ◌+◌, ◌-◌}
use native.Mathlib.Omega.{arith}
use lib.ListN.{length, get_or}
use Rattle.bch.specs.Code.{is_codeword}
use Rattle.staircase.specs.Design.{Params, Interleavers}
use Rattle.staircase.specs.Lists.{tabulate}
use Rattle.staircase.specs.Frame.{Frame, Site, Word, words, read, in_code}
use Rattle.staircase.specs.Frame.Site.{unsent}
use Rattle.staircase.specs.Decoder.{choices, flip_bits, first_correcting, error_positions, every_occurrence, once, permitted, correction, flip_all, Progress, correct_word, correct_each, round_of, run_each, default_rounds, rounds_allowed, decoded}
use Rattle.staircase.proofs.Member.{In}
use Rattle.staircase.proofs.Rounds.{run_each-idle}

-- the empty choice comes first
choices-first : (t : ℕ) (w : List ℕ) → (rest : List (List ℕ)) × (choices t w ≡ [] ∷ rest)
unfolding choices
choices-first zero w = ([], refl)
choices-first (suc t) [] = ([], refl)
choices-first (suc t) (x ∷ w) =
    let (rest, e) = choices-first (suc t) w in
    (rest ++ map (λ c. x ∷ c) (choices t w), ap (λ (l : List (List ℕ)). l ++ map (λ c. x ∷ c) (choices t w)) e)

error_positions-none : (s : Params) (u : List ℕ) → is_codeword s.g s.r u ≡ true → error_positions s u ≡ []
unfolding error_positions first_correcting flip_bits
error_positions-none s u h =
    let (rest, e) = choices-first s.t (tabulate (length u) (λ j. j)) in
    ap (first_correcting s u) e ∙ ap (λ (b : Bool). cond b [] (first_correcting s u rest)) h

module _ (s : Params) (f : Frame) where
  pub correction-none : (w : List Site) → in_code s f w ≡ true → correction s f w ≡ []
  unfolding correction permitted every_occurrence once
  correction-none w h = ap (λ (c : List ℕ). permitted w (map (λ j. get_or w j unsent) c)) (error_positions-none s (read f w) h)

module _ (f : Frame) where
  correct_each_stay : (k : ℕ) (ws : List Word) → ((w : Word) → In w ws → in_code w.code f w.sites ≡ true)
      → correct_each (record { frame = f; flips = k }) ws ≡ record { frame = f; flips = k }
  unfolding correct_each correct_word flip_all
  correct_each_stay k [] h = refl
  correct_each_stay k (w ∷ ws) h =
      let e = correction-none w.code f w.sites (h w (inl refl)) in
      let z : k + 0 ≡ k = omega arith in
      ap (λ (c : List Site). correct_each (record { frame = flip_all c f; flips = k + length c }) ws) e
      ∙ ap (λ (j : ℕ). correct_each (record { frame = f; flips = j }) ws) z
      ∙ correct_each_stay k ws (λ v i. h v (inr i))

  module _ (ws : List Word) (h : (w : Word) → In w ws → in_code w.code f w.sites ≡ true) where
    pub round_of-stays : round_of ws f ≡ record { frame = f; flips = 0 }
    unfolding round_of
    round_of-stays = correct_each_stay 0 ws h

    pub run_each-stays : (k : ℕ) → run_each ws (suc k) f ≡ record { frame = f; rounds = 1; flips = 0 }
    run_each-stays k =
        run_each-idle ws k f (ap (λ (x : Progress). x.flips) round_of-stays)
        ∙ ap (λ (x : Progress). record { frame = x.frame; rounds = 1; flips = 0 }) round_of-stays

pub decoded-stays : (s : Params) (f : Frame) (l : Interleavers) (L k : ℕ) → ((w : Word) → In w (words s l L) → in_code w.code f w.sites ≡ true)
    → decoded s l L k f ≡ record { frame = f; rounds = 1; flips = 0 }
unfolding decoded
decoded-stays s f l L k h = go k
  where
    go : (k : ℕ) → run_each (words s l L) (rounds_allowed k) f ≡ record { frame = f; rounds = 1; flips = 0 }
    go zero = run_each-stays f (words s l L) h (default_rounds - 1)
    go (suc k) = run_each-stays f (words s l L) h k
