-- Mixed lists, which spread as those of specs/Spread.antt do and of which about 3 in 10 have an inverse. They are this project's decision
-- (docs/DECISIONS.md), whose sentences are quoted here; the generator is that of the test load.
--   swapped l i j      the list l after its entries i and j changed places
--   shuffled s i l     the list l after the draws for its entries i, .., 1 from state s
--   shuffle_steps s n   the generator's steps for n column words
--   rows_in s seed c    π of column word c
--   column_to s by p    the column word to which place p of X or of Q goes
--   mixed_to s by seed p   the place to which it goes
--   after_list s seed   the state after the draws for a list
--   mixed s seed       the two lists
--   mixed_call          the call's verdict, the lists' buffers and the last state
--   MixedLeft          the claims about what an accepted call leaves
-- The theorems are in proofs/Mixed.antt and proofs/MixedCall.antt, rows of the call in specs/RowsMixed.antt.
-- Assumes nothing.
use Rattle.std.specs.Prelude.{◌≡◌, List, ℕ, zero, suc, ◌+◌, ◌-◌, ◌*◌, ◌/◌, ◌%◌, length, get_or, set}
use Rattle.staircase.specs.Lists.{tabulate}
use Rattle.staircase.specs.Design.{Params, Interleavers, params, order}
use Rattle.staircase.specs.System.{row_bytes}
use Rattle.staircase.specs.Rules.{Verdict, kit_work, interleavers, list_rule}
use Rattle.staircase.specs.Rules.Verdict.{accepted, refused}
use Rattle.staircase.specs.Calls.{kit_verdict}
use Rattle.staircase.specs.Maker.{make_work, singular_rule, make_call}
use Rattle.staircase.specs.Spread.{list_bytes, spread_verdict, Apart}
use Rattle.staircase.specs.Load.{state_after, drawn}

-- ---- the rows of a column word

-- "entries .. of π change places"
unfoldable pub swapped : List ℕ → ℕ → ℕ → List ℕ
swapped l i j = set (set l i (get_or l j 0)) j (get_or l i 0)

-- "for i from r - 1 down to 1, one draw d of 16 steps, first output highest, and entries i and d mod (i + 1) of π change places"
unfoldable pub shuffled : ℕ → ℕ → List ℕ → List ℕ
shuffled s zero l = l
shuffled s (suc i) l = shuffled (state_after s 16) i (swapped l (suc i) (drawn s % (suc i + 1)))

-- r - 1 draws for each column word
abbrev pub shuffle_steps : Params → ℕ → ℕ
shuffle_steps s n = 16 * ((s.r - 1) * n)

-- "For each column word c from 0 to M - 1: π is 0, 1, .., r - 1", then shuffled, from the state after the draws for the c column words before it
unfoldable pub rows_in : Params → ℕ → ℕ → List ℕ
rows_in s seed c = shuffled (state_after seed (shuffle_steps s c)) (s.r - 1) (tabulate s.r (λ j. j))

-- ---- the lists

-- "(a + j) mod M = c", for the parity list "(a + r + j) mod M = c": `by` is 0 for X and r for Q, and place p is j × M + a
abbrev pub column_to : Params → ℕ → ℕ → ℕ
column_to s by p = (p % s.M + by + p / s.M) % s.M

-- "entry j × M + a .. is π(j) × M + c"
unfoldable pub mixed_to : Params → ℕ → ℕ → ℕ → ℕ
mixed_to s by seed p = get_or (rows_in s seed (column_to s by p)) (p / s.M) 0 * s.M + column_to s by p

-- "one state from the seed through both lists, X before Q": the state after the draws for one list
abbrev pub after_list : Params → ℕ → ℕ
after_list s seed = state_after seed (shuffle_steps s s.M)

unfoldable pub mixed : Params → ℕ → Interleavers
mixed s seed = record { self = tabulate (order s) (mixed_to s 0 seed); parity = tabulate (order s) (mixed_to s s.r (after_list s seed)) }

-- ---- the call

pub record MixedLists : Type 0 where
  pub verdict : Verdict
  pub self : List ℕ
  pub parity : List ℕ
  pub state : ℕ

-- a refused call leaves both lists and has no last state, for which 0 stands; "The last state lets a host go on with the next pair."
abbrev pub mixed_by : Verdict → Params → ℕ → List ℕ → List ℕ → MixedLists
mixed_by accepted s seed self parity = record {
  verdict = accepted;
  self = list_bytes (order s) (mixed_to s 0 seed);
  parity = list_bytes (order s) (mixed_to s s.r (after_list s seed));
  state = after_list s (after_list s seed);
}
mixed_by (refused n p) s seed self parity = record { verdict = refused n p; self = self; parity = parity; state = 0 }

-- "Rules 1 to 3, 15, 6", as for spread lists
unfoldable pub mixed_call : ℕ → ℕ → ℕ → ℕ → ℕ → List ℕ → List ℕ → MixedLists
mixed_call m t M col seed self parity = mixed_by (spread_verdict m t M col self parity) (params m t M col) seed self parity

-- ---- what is claimed of what the call leaves, where it is accepted

pub record MixedLeft (m t M col seed : ℕ) (self parity : List ℕ) : Type 0 where
  pub lists : interleavers (params m t M col) (mixed_call m t M col seed self parity).self (mixed_call m t M col seed self parity).parity
      ≡ mixed (params m t M col) seed
  -- "Two redundancy bits of a row word never meet in a column word, as for spread lists"
  pub apart : Apart (params m t M col)
      (interleavers (params m t M col) (mixed_call m t M col seed self parity).self (mixed_call m t M col seed self parity).parity)
  -- "both lists are permutations (pass rule 7)"
  pub pass : list_rule (params m t M col)
      (interleavers (params m t M col) (mixed_call m t M col seed self parity).self (mixed_call m t M col seed self parity).parity) ≡ accepted
  -- the maker, passed buffers of its lengths, can refuse them by rule 14 alone
  pub maker : (old : List ℕ) → length old ≡ order (params m t M col) * row_bytes (order (params m t M col))
      → (make_call m t M col (mixed_call m t M col seed self parity).self (mixed_call m t M col seed self parity).parity old (make_work (params m t M col))).verdict
      ≡ singular_rule (params m t M col) (mixed (params m t M col) seed)
  -- "what the maker makes of them is a kit that passes"
  pub kit : (old : List ℕ) (work : ℕ)
      → (make_call m t M col (mixed_call m t M col seed self parity).self (mixed_call m t M col seed self parity).parity old work).verdict ≡ accepted
      → kit_verdict m t M col (mixed_call m t M col seed self parity).self (mixed_call m t M col seed self parity).parity
      (make_call m t M col (mixed_call m t M col seed self parity).self (mixed_call m t M col seed self parity).parity old work).inverse
      (kit_work (params m t M col)) ≡ accepted
