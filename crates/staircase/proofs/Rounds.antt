-- Laws of correcting words one after the other and of the rounds, for words with their codes and for words of one code.
--   correct_each-append, correct_words-append, correct_words_last      the words of two lists, and one more word
--   correct_each-from, correct_words-from                             flips counted from another number
--   correct_each-few, correct_words-few                               at most t flips a word
--   correct_each_received, run_each_received, correct_words_received, run_rounds_received   the lengths stay, and bits stay bits
--   run_each-idle, run_each-more, run_rounds-idle, run_rounds-more      a round that flips nothing, and one that flips something
--   plain_each                                                      a fact of each word of one code
-- Assumes nothing.
use mathlib.Core.Path.{◌≡◌, refl, sym, ap, ◌∙◌, subst}
use mathlib.Core.Bool.{Bool, cond}
use mathlib.Core.Logic.{◌≢◌, inl, inr}
use mathlib.Core.List.{List, [], ◌∷◌, ◌++◌, map, map-append}
use Prim.Native.Nat.{ℕ, zero, suc, ◌+◌, ◌*◌, ◌≤◌}
use native.Mathlib.Nat.{add_assoc, add-zero, le_refl}
use native.Mathlib.Omega.{arith}
use lib.Dec.{eqb}
use lib.ListN.{length, get_or, length-map}
use borrow.Author.Tests.{eq-eqb, ne_eqb}
use Rattle.staircase.specs.Lists.{tabulate}
use Rattle.staircase.specs.Design.{Params}
use Rattle.staircase.specs.Frame.{Frame, Site, Word, word, plain, read}
use Rattle.staircase.specs.Frame.Site.{unsent}
use Rattle.staircase.specs.Decoder.{error_positions, correction, flip_all, Progress, correct_word, correct_each, correct_words, round_of, round, Decoded, run_each, run_rounds}
use Rattle.staircase.proofs.Search.{cond_ind}
use Rattle.staircase.proofs.Member.{In, map_in}
use Rattle.staircase.proofs.Tabulate.{tabulate_last}
use Rattle.staircase.proofs.Flip.{Received, flip_all_received}
use Rattle.staircase.proofs.Occurrences.{permitted-length}
use Rattle.staircase.proofs.Errors.{error_positions-positions}

-- ---- words, one after the other

pub correct_each-append : (x : Progress) (u v : List Word) → correct_each x (u ++ v) ≡ correct_each (correct_each x u) v
unfolding correct_each
correct_each-append x [] v = refl
correct_each-append x (w ∷ u) v = correct_each-append (correct_word w.code x w.sites) u v

-- the progress whose flips are counted from k
abbrev from : ℕ → Progress → Progress
from k x = record { frame = x.frame; flips = k + x.flips }

correct_each-later : (k : ℕ) (x : Progress) (ws : List Word) → correct_each (from k x) ws ≡ from k (correct_each x ws)
unfolding correct_each correct_word
correct_each-later k x [] = refl
correct_each-later k x (w ∷ ws) =
    let c : List Site = correction w.code x.frame w.sites in
    ap (λ (n : ℕ). correct_each (record { frame = flip_all c x.frame; flips = n }) ws) (add_assoc k x.flips (length c))
    ∙ correct_each-later k (correct_word w.code x w.sites) ws

pub correct_each-from : (f : Frame) (k : ℕ) (ws : List Word)
    → correct_each (record { frame = f; flips = k }) ws ≡ record { frame = (round_of ws f).frame; flips = k + (round_of ws f).flips }
unfolding round_of
correct_each-from f k ws =
    ap (λ (n : ℕ). correct_each (record { frame = f; flips = n }) ws) (sym (add-zero k)) ∙ correct_each-later k (record { frame = f; flips = 0 }) ws

-- ---- how many flips

correction-few : (s : Params) (f : Frame) (w : List Site) → length (correction s f w) ≤ s.t
unfolding correction
correction-few s f w =
    let e : List ℕ = error_positions s (read f w) in
    let c : List Site = map (λ j. get_or w j unsent) e in
    omega (arith, permitted-length w c, length-map e (λ j. get_or w j unsent), (error_positions-positions s (read f w)).few)

pub correct_each-few : (t : ℕ) (x : Progress) (ws : List Word) → ((w : Word) → In w ws → w.code.t ≤ t) → (correct_each x ws).flips ≤ x.flips + t * length ws
unfolding correct_each correct_word
correct_each-few t x [] h = omega arith
correct_each-few t x (w ∷ ws) h =
    omega (arith, correct_each-few t (correct_word w.code x w.sites) ws (λ v i. h v (inr i)), correction-few w.code x.frame w.sites, h w (inl refl))

-- ---- lengths, and bits

pub correct_each_received : (f : Frame) (x : Progress) (ws : List Word) → Received f x.frame → Received f (correct_each x ws).frame
unfolding correct_each correct_word
correct_each_received f x [] g = g
correct_each_received f x (w ∷ ws) g =
    correct_each_received f (correct_word w.code x w.sites) ws (flip_all_received (correction w.code x.frame w.sites) f x.frame g)

-- ---- rounds

-- the answer after an idle round, and after a round that others follow
abbrev idle : Progress → Decoded
idle x = record { frame = x.frame; rounds = 1; flips = 0 }

abbrev followed : Progress → Decoded → Decoded
followed x rest = record { frame = rest.frame; rounds = 1 + rest.rounds; flips = x.flips + rest.flips }

module _ (ws : List Word) where
  pub run_each-idle : (k : ℕ) (f : Frame) → (round_of ws f).flips ≡ 0 → run_each ws (suc k) f ≡ record { frame = (round_of ws f).frame; rounds = 1; flips = 0 }
  unfolding run_each
  run_each-idle k f e =
      let x : Progress = round_of ws f in
      ap (λ (z : Bool). cond z (idle x) (followed x (run_each ws k x.frame))) (eq-eqb x.flips 0 e)

  pub run_each-more : (k : ℕ) (f : Frame) → (round_of ws f).flips ≢ 0
      → run_each ws (suc k) f
      ≡ record {
        frame = (run_each ws k (round_of ws f).frame).frame;
        rounds = 1 + (run_each ws k (round_of ws f).frame).rounds;
        flips = (round_of ws f).flips + (run_each ws k (round_of ws f).frame).flips;
      }
  unfolding run_each
  run_each-more k f d =
      let x : Progress = round_of ws f in
      ap (λ (z : Bool). cond z (idle x) (followed x (run_each ws k x.frame))) (ne_eqb x.flips 0 d)

  round_of_received : (f a : Frame) → Received f a → Received f (round_of ws a).frame
  unfolding round_of
  round_of_received f a g = correct_each_received f (record { frame = a; flips = 0 }) ws g

  pub run_each_received : (f : Frame) (k : ℕ) (a : Frame) → Received f a → Received f (run_each ws k a).frame
  unfolding run_each
  run_each_received f zero a g = g
  run_each_received f (suc k) a g =
      let x : Progress = round_of ws a in
      let like : Received f x.frame = round_of_received f a g in
      cond_ind (λ (d : Decoded). Received f d.frame) (eqb x.flips 0) (idle x) (followed x (run_each ws k x.frame))
      (λ e. like) (λ e. run_each_received f k x.frame like)

-- ---- words of one code

module _ (s : Params) where
  pub plain_each : (F : Word → Type 0) (ws : List (List Site)) → ((v : List Site) → In v ws → F (word s v)) → (w : Word) → In w (plain s ws) → F w
  plain_each F ws h w i = let t = map_in (word s) ws w i in subst F (sym t.2) (h t.0 t.1)

  pub correct_words-append : (x : Progress) (u v : List (List Site)) → correct_words s x (u ++ v) ≡ correct_words s (correct_words s x u) v
  unfolding correct_words
  correct_words-append x u v = ap (correct_each x) (map-append (word s) u v) ∙ correct_each-append x (plain s u) (plain s v)

  pub correct_words_last : (x : Progress) (n : ℕ) (f : ℕ → List Site)
      → correct_words s x (tabulate (suc n) f) ≡ correct_word s (correct_words s x (tabulate n f)) (f n)
  unfolding correct_words correct_each
  correct_words_last x n f = ap (correct_words s x) (tabulate_last n f) ∙ correct_words-append x (tabulate n f) (f n ∷ [])

  pub correct_words-from : (f : Frame) (k : ℕ) (ws : List (List Site))
      → correct_words s (record { frame = f; flips = k }) ws
      ≡ record {
        frame = (correct_words s (record { frame = f; flips = 0 }) ws).frame;
        flips = k + (correct_words s (record { frame = f; flips = 0 }) ws).flips;
      }
  unfolding correct_words round_of
  correct_words-from f k ws = correct_each-from f k (plain s ws)

  pub correct_words-few : (x : Progress) (ws : List (List Site)) → (correct_words s x ws).flips ≤ x.flips + s.t * length ws
  unfolding correct_words
  correct_words-few x ws =
      subst (λ (n : ℕ). (correct_each x (plain s ws)).flips ≤ x.flips + s.t * n) (length-map ws (word s))
      (correct_each-few s.t x (plain s ws) (plain_each (λ (w : Word). w.code.t ≤ s.t) ws (λ v i. le_refl s.t)))

  pub correct_words_received : (f : Frame) (x : Progress) (ws : List (List Site)) → Received f x.frame → Received f (correct_words s x ws).frame
  unfolding correct_words
  correct_words_received f x ws g = correct_each_received f x (plain s ws) g

  module _ (ws : List (List Site)) where
    pub run_rounds-idle : (k : ℕ) (f : Frame) → (round s ws f).flips ≡ 0
        → run_rounds s ws (suc k) f ≡ record { frame = (round s ws f).frame; rounds = 1; flips = 0 }
    unfolding run_rounds round correct_words round_of
    run_rounds-idle k f e = run_each-idle (plain s ws) k f e

    pub run_rounds-more : (k : ℕ) (f : Frame) → (round s ws f).flips ≢ 0
        → run_rounds s ws (suc k) f
        ≡ record {
          frame = (run_rounds s ws k (round s ws f).frame).frame;
          rounds = 1 + (run_rounds s ws k (round s ws f).frame).rounds;
          flips = (round s ws f).flips + (run_rounds s ws k (round s ws f).frame).flips;
        }
    unfolding run_rounds round correct_words round_of
    run_rounds-more k f d = run_each-more (plain s ws) k f d

    pub run_rounds_received : (f : Frame) (k : ℕ) (a : Frame) → Received f a → Received f (run_rounds s ws k a).frame
    unfolding run_rounds
    run_rounds_received f k a g = run_each_received (plain s ws) f k a g
