-- Document 01, "Decoder": correcting a word, a round, the rounds and their counts. Any list of words over sites will do, each with its code.
--   choices                    every choice of at most t entries of a list
--   flip_bits                   a word with the bits at some positions flipped
--   error_positions             where the codeword within t changes differs from a word
--   flip_all                    a frame with the bits at some sites flipped
--   occurrences                how often a site stands in a word
--   every_occurrence, once, permitted   which of the sites of a word's errors may be flipped
--   correction                 the sites that correcting a word flips
--   correct_word                a word corrected, with the number of flips
--   correct_each, round_of, run_each      words one after the other, a round, and rounds until one is idle or all are made
--   correct_words, round, run_rounds     the same for words of one code
--   decoded                    the rounds of a frame
-- Assumes nothing.
use Rattle.std.specs.Prelude.{Bool, true, false, cond, List, [], ◌∷◌, ◌++◌, map, ℕ, zero, suc, ◌+◌, ◌-◌, eqb, length, get_or, set}
use Rattle.bch.specs.Code.{is_codeword}
use Rattle.staircase.specs.Lists.{tabulate}
use Rattle.staircase.specs.Design.{Params, Interleavers}
use Rattle.staircase.specs.Frame.{Frame, Site, Word, plain, flip, words, read}
use Rattle.staircase.specs.Frame.Site.{unsent, in_info, in_red}

-- in the list's order; the empty choice first
unfoldable pub choices {ℓ} : {A : Type ℓ} → ℕ → List A → List (List A)
choices zero w = [] ∷ []
choices (suc t) [] = [] ∷ []
choices (suc t) (x ∷ w) = choices (suc t) w ++ map (λ c. x ∷ c) (choices t w)

unfoldable pub flip_bits : List ℕ → List ℕ → List ℕ
flip_bits [] u = u
flip_bits (j ∷ c) u = set (flip_bits c u) j (1 - get_or (flip_bits c u) j 0)

-- the first of some choices of positions that makes the word u a codeword; the empty one where none does
unfoldable pub first_correcting : Params → List ℕ → List (List ℕ) → List ℕ
first_correcting s u [] = []
first_correcting s u (c ∷ cs) = cond (is_codeword s.g s.r (flip_bits c u)) c (first_correcting s u cs)

-- "a codeword lies within t changes": there is at most one, by the BCH bound, so the order of the search plays no part (`nearest_errors` in
-- proofs/Correction.antt)
unfoldable pub error_positions : Params → List ℕ → List ℕ
error_positions s u = first_correcting s u (choices s.t (tabulate (length u) (λ j. j)))

-- "touches no bit of an unsent block"
abbrev pub all_sent : List Site → Bool
all_sent [] = true
all_sent (unsent ∷ c) = false
all_sent (in_info k ∷ c) = all_sent c
all_sent (in_red k ∷ c) = all_sent c

abbrev pub same_site : Site → Site → Bool
same_site unsent unsent = true
same_site unsent (in_info k) = false
same_site unsent (in_red k) = false
same_site (in_info j) unsent = false
same_site (in_info j) (in_info k) = eqb j k
same_site (in_info j) (in_red k) = false
same_site (in_red j) unsent = false
same_site (in_red j) (in_info k) = false
same_site (in_red j) (in_red k) = eqb j k

-- In document 01's words each sent site stands once; in some words of document 02's partial frames a bit stands twice.
unfoldable pub occurrences : Site → List Site → ℕ
occurrences x [] = 0
occurrences x (y ∷ w) = cond (same_site x y) 1 0 + occurrences x w

-- "a correction turning only one of the two places isn't made": each of the sites d stands among the sites c as often as in the word w
unfoldable pub every_occurrence : List Site → List Site → List Site → Bool
every_occurrence w c [] = true
every_occurrence w c (x ∷ d) = cond (eqb (occurrences x c) (occurrences x w)) (every_occurrence w c d) false

-- "and one turning both turns one bit": each site once
unfoldable pub once : List Site → List Site
once [] = []
once (x ∷ c) = cond (eqb (occurrences x c) 0) (x ∷ once c) (once c)

-- What may be flipped of the sites c of a word's errors: all, each once, or none. Where no sent site stands in the word twice, as in all of document
-- 01's words, these are c itself or none (`correction_distinct` in proofs/Occurrences.antt).
unfoldable pub permitted : List Site → List Site → List Site
permitted w c = cond (all_sent c) (cond (every_occurrence w c c) (once c) []) []

-- "if a codeword lies within t changes and touches no bit of an unsent block, the word becomes it, in both places of each redundancy bit;
-- otherwise it stays". A redundancy bit is one site, so both its places change.
unfoldable pub correction : Params → Frame → List Site → List Site
correction s f w = permitted w (map (λ j. get_or w j unsent) (error_positions s (read f w)))

unfoldable pub flip_all : List Site → Frame → Frame
flip_all [] f = f
flip_all (x ∷ c) f = flip x (flip_all c f)

-- a frame and how many bits were flipped to reach it: "each turn counted, also a turn back"
pub record Progress : Type 0 where
  pub frame : Frame
  pub flips : ℕ

unfoldable pub correct_word : Params → Progress → List Site → Progress
correct_word s x w =
    record {
      frame = flip_all (correction s x.frame w) x.frame;
      flips = x.flips + length (correction s x.frame w);
    }

unfoldable pub correct_each : Progress → List Word → Progress
correct_each x [] = x
correct_each x (w ∷ ws) = correct_each (correct_word w.code x w.sites) ws

unfoldable pub correct_words : Params → Progress → List (List Site) → Progress
correct_words s x ws = correct_each x (plain s ws)

unfoldable pub round_of : List Word → Frame → Progress
round_of ws f = correct_each (record { frame = f; flips = 0 }) ws

-- "A round takes groups 1 to G, in each the row words 0 to M-1, then the column words", which is the order of `words`
unfoldable pub round : Params → List (List Site) → Frame → Progress
round s ws f = correct_words s (record { frame = f; flips = 0 }) ws

pub record Decoded : Type 0 where
  pub frame : Frame
  pub rounds : ℕ
  pub flips : ℕ

-- "Rounds end after one that turns no bit, or when all are made", "the idle last one counted"
unfoldable pub run_each : List Word → ℕ → Frame → Decoded
run_each ws zero f = record { frame = f; rounds = 0; flips = 0 }
run_each ws (suc k) f =
    let x : Progress = round_of ws f in
    let rest : Decoded = run_each ws k x.frame in
    cond (eqb x.flips 0)
    (record { frame = x.frame; rounds = 1; flips = 0 })
    (record { frame = rest.frame; rounds = 1 + rest.rounds; flips = x.flips + rest.flips })

unfoldable pub run_rounds : Params → List (List Site) → ℕ → Frame → Decoded
run_rounds s ws k f = run_each (plain s ws) k f

-- document 02: "A rounds number of 0 now stands for 12"
abbrev pub default_rounds : ℕ
default_rounds = 12

abbrev pub rounds_allowed : ℕ → ℕ
rounds_allowed zero = default_rounds
rounds_allowed (suc k) = suc k

unfoldable pub decoded : Params → Interleavers → ℕ → ℕ → Frame → Decoded
decoded s l L k f = run_each (words s l L) (rounds_allowed k) f
