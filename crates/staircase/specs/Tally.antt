-- Document 02, U7: "A tally is lent to each decode and brought up to date there".
--   Tally, empty, plus            six totals, and their sum
--   totals                        the six numbers, in order
--   Decode, decode_with, call_of    what a decode is lent, and the decoder's call on it
--   counted, contribution         what an accepted decode adds
--   most_total, total_rule, full_rule   rule 16
--   verdict_for, further_call       the decoder's own rules, and its call with one more rule behind them
--   tally_verdict                  rules 1 to 7, 10 and 16
--   Tallied, tally_call            what a decode with a tally answers and leaves
--   account                       the tally after a list of decodes
--   accepted_of, sum_of             those of them that are accepted, and the sum over them
--   Within, most_added, Few       totals that rule 16 accepts, and what an accepted decode counts at most
-- Assumes nothing.
use Rattle.std.specs.Prelude.{List, [], ◌∷◌, ℕ, ◌+◌, ◌^◌, ◌≤◌, ltb, length}
use Rattle.staircase.specs.Frame.{frame_of}
use Rattle.staircase.specs.Rules.{Verdict, ◌then◌, refuse}
use Rattle.staircase.specs.Rules.Verdict.{accepted, refused}
use Rattle.staircase.specs.Calls.{Counts, Corrected, corrected_by, decode_verdict, decode_call}

-- "frames, sent bits, bits turned, rounds, words outside, stuck words"
pub record Tally : Type 0 where
  pub frames : ℕ
  pub bits : ℕ
  pub turned : ℕ
  pub rounds : ℕ
  pub outside : ℕ
  pub stuck : ℕ

abbrev pub empty : Tally
empty = record { frames = 0; bits = 0; turned = 0; rounds = 0; outside = 0; stuck = 0 }

abbrev pub plus : Tally → Tally → Tally
plus x y =
    record {
      frames = x.frames + y.frames;
      bits = x.bits + y.bits;
      turned = x.turned + y.turned;
      rounds = x.rounds + y.rounds;
      outside = x.outside + y.outside;
      stuck = x.stuck + y.stuck;
    }

abbrev pub totals : Tally → List ℕ
totals y = y.frames ∷ y.bits ∷ y.turned ∷ y.rounds ∷ y.outside ∷ y.stuck ∷ []

-- what a decode is lent; of the working bytes only their number
pub record Decode : Type 0 where
  pub m : ℕ
  pub t : ℕ
  pub M : ℕ
  pub col : ℕ
  pub L : ℕ
  pub rounds : ℕ
  pub self : List ℕ
  pub parity : List ℕ
  pub info : List ℕ
  pub red : List ℕ
  pub work : ℕ

abbrev pub decode_with : ℕ → ℕ → ℕ → ℕ → ℕ → ℕ → List ℕ → List ℕ → List ℕ → List ℕ → ℕ → Decode
decode_with m t M col L k self parity info red work =
    record { m = m; t = t; M = M; col = col; L = L; rounds = k; self = self; parity = parity; info = info; red = red; work = work }

abbrev pub call_of : Decode → Corrected
call_of x = decode_call x.m x.t x.M x.col x.L x.rounds x.self x.parity x.info x.red x.work

-- one frame of n sent bits, and the counts that its decode answers
abbrev pub counted : ℕ → Counts → Tally
counted n c = record { frames = 1; bits = n; turned = c.turned; rounds = c.rounds; outside = c.outside; stuck = c.stuck }

-- what an accepted decode adds
unfoldable pub contribution : Decode → Tally
contribution x = counted (length x.info + length x.red) (call_of x).counts

abbrev pub most_total : ℕ
most_total = 2 ^ 62

-- a total, by its position
abbrev pub total_rule : ℕ → ℕ → Verdict
total_rule place n = refuse (ltb most_total n) 16 place

-- "16 full, .. when on entry some total is above 2^62; the place is the first such total's position in the order above, from 1"
unfoldable pub full_rule : Tally → Verdict
full_rule y =
    total_rule 1 y.frames then total_rule 2 y.bits then total_rule 3 y.turned
    then total_rule 4 y.rounds then total_rule 5 y.outside then total_rule 6 y.stuck

-- the decoder's own rules
abbrev pub verdict_for : Decode → Verdict
verdict_for x = decode_verdict x.m x.t x.M x.col x.L x.rounds x.self x.parity x.info x.red x.work

-- the decoder with one more rule behind its own
unfoldable pub further_call : Verdict → Decode → Corrected
further_call v x = corrected_by (verdict_for x then v) (frame_of x.info x.red) (call_of x).frame (call_of x).counts

-- "16 full, after 10"
unfoldable pub tally_verdict : Tally → Decode → Verdict
tally_verdict y x = verdict_for x then full_rule y

-- "a refused decode changes no total"
abbrev pub tallied_by : Verdict → Tally → Tally → Tally
tallied_by accepted y c = plus y c
tallied_by (refused n p) y c = y

pub record Tallied : Type 0 where
  pub corrected : Corrected
  pub tally : Tally

-- "A tally is lent to each decode and brought up to date there"
unfoldable pub tally_call : Tally → Decode → Tallied
tally_call y x = record { corrected = further_call (full_rule y) x; tally = tallied_by (tally_verdict y x) y (contribution x) }

-- "decodes thousands of frames and wants one account"
unfoldable pub account : Tally → List Decode → Tally
account y [] = y
account y (x ∷ xs) = account (tally_call y x).tally xs

abbrev pub kept_if : Verdict → Decode → List Decode → List Decode
kept_if accepted x xs = x ∷ xs
kept_if (refused n p) x xs = xs

-- "the accepted ones": those that are accepted when their turn comes
unfoldable pub accepted_of : Tally → List Decode → List Decode
accepted_of y [] = []
accepted_of y (x ∷ xs) = kept_if (tally_verdict y x) x (accepted_of (tally_call y x).tally xs)

unfoldable pub sum_of : List Decode → Tally
sum_of [] = empty
sum_of (x ∷ xs) = plus (contribution x) (sum_of xs)

-- ---- for the code, whose sums fit (`full-within`, `decode-few` in proofs/Tally.antt)

-- no total is above 2^62
pub record Within (y : Tally) : Type 0 where
  pub frames : y.frames ≤ most_total
  pub bits : y.bits ≤ most_total
  pub turned : y.turned ≤ most_total
  pub rounds : y.rounds ≤ most_total
  pub outside : y.outside ≤ most_total
  pub stuck : y.stuck ≤ most_total

abbrev pub most_added : ℕ
most_added = 2 ^ 31

-- what an accepted decode of a frame of n sent bits counts
pub record Few (c : Counts) (n : ℕ) : Type 0 where
  pub bits : n ≤ most_added
  pub turned : c.turned ≤ most_added
  pub rounds : c.rounds ≤ most_added
  pub outside : c.outside ≤ most_added
  pub stuck : c.stuck ≤ most_added
