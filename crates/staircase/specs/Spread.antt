-- Document 02, U3: spread lists, "the lists for low error floors".
--   turned_to s by p      the place to which place p of X or of Q goes
--   spread s             the two lists
--   list_bytes n f        the bytes of the list with entries f 0, .., f (n - 1)
--   narrow_rule           rule 15
--   spread_verdict        rules 1 to 3, 15 and 6
--   spread_call           the call's verdict and the lists' buffers
--   StandsIn, Apart      two redundancy bits of one row word never meet in one column word
--   ColumnsKept          a list that keeps each column to itself
--   Singular             A has no inverse
--   SpreadApart, PassesLists, KeptSingular, SpreadSingular   the claims about the lists
--   SpreadLeft           the claims about what an accepted call leaves
-- The theorems are in proofs/Spread.antt, rows of the call in specs/RowsSpread.antt.
-- Assumes nothing.
use Rattle.std.specs.Prelude.{◌≡◌, List, [], ◌∷◌, ℕ, ◌+◌, ◌*◌, ◌/◌, ◌%◌, ◌≤◌, ◌<◌, ltb, length, get_or}
use Rattle.staircase.specs.Lists.{tabulate, concat}
use Rattle.staircase.specs.Design.{Params, Interleavers, Limits, params, order, word_length}
use Rattle.staircase.specs.Frame.{Site, row_sites, column_sites}
use Rattle.staircase.specs.Frame.Site.{unsent}
use Rattle.staircase.specs.System.{system_entry, row_bytes}
use Rattle.staircase.specs.Square.{BitMatrix, Inverts}
use Rattle.staircase.specs.Rules.{Verdict, ◌then◌, refuse, design_rules, list_lengths, interleavers, list_rule}
use Rattle.staircase.specs.Rules.Verdict.{accepted, refused}
use Rattle.staircase.specs.Maker.{make_work, make_call}

-- "Column j of X is turned down by j rows modulo M, column j of Q by r + j": row a of column j, which is place j × M + a, goes to row a + by + j
unfoldable pub turned_to : Params → ℕ → ℕ → ℕ
turned_to s by p = p / s.M * s.M + (p % s.M + by + p / s.M) % s.M

unfoldable pub spread : Params → Interleavers
spread s = record { self = tabulate (order s) (turned_to s 0); parity = tabulate (order s) (turned_to s s.r) }

-- "two bytes an entry, low byte first"
unfoldable pub list_bytes : ℕ → (ℕ → ℕ) → List ℕ
list_bytes n f = concat n (λ p. f p % 256 ∷ f p / 256 % 256 ∷ [])

-- ---- the call

-- "15 narrow, after 3, when 2r exceeds M; the place is M"
unfoldable pub narrow_rule : Params → Verdict
narrow_rule s = refuse (ltb s.M (2 * s.r)) 15 s.M

-- both lists are written: places 1 and 2 of rule 6
unfoldable pub spread_verdict : ℕ → ℕ → ℕ → ℕ → List ℕ → List ℕ → Verdict
spread_verdict m t M col self parity = design_rules m t M col then narrow_rule (params m t M col) then list_lengths (params m t M col) self parity

pub record SpreadLists : Type 0 where
  pub verdict : Verdict
  pub self : List ℕ
  pub parity : List ℕ

-- "lent buffers stay untouched"
abbrev pub spread_by : Verdict → Params → List ℕ → List ℕ → SpreadLists
spread_by accepted s self parity = record { verdict = accepted; self = list_bytes (order s) (turned_to s 0); parity = list_bytes (order s) (turned_to s s.r) }
spread_by (refused n p) s self parity = record { verdict = refused n p; self = self; parity = parity }

unfoldable pub spread_call : ℕ → ℕ → ℕ → ℕ → List ℕ → List ℕ → SpreadLists
spread_call m t M col self parity = spread_by (spread_verdict m t M col self parity) (params m t M col) self parity

-- ---- what is claimed of the lists

-- a bit is one of a word
abbrev pub StandsIn : Site → List Site → Type 0
StandsIn x w = (u : ℕ) × (u < length w) × (get_or w u unsent ≡ x)

-- "two redundancy bits of one row word never meet in one column word": positions p and q from 2M on of row word a of group i, and column word b of any
-- group j, in a frame of L blocks
abbrev pub Apart : Params → Interleavers → Type 0
Apart s l = (L i a j b p q : ℕ) → a < s.M → b < s.M → 2 * s.M ≤ p → p < q → q < word_length s
    → StandsIn (get_or (row_sites s l L i a) p unsent) (column_sites s L j b) → StandsIn (get_or (row_sites s l L i a) q unsent) (column_sites s L j b) → ⊥

-- "Show for all designs with 2r at most M"
abbrev pub SpreadApart : Type 0
SpreadApart = (m t M col : ℕ) → Limits m t M col → 2 * (m * t) ≤ M → Apart (params m t M col) (spread (params m t M col))

-- "Such lists pass the list check", with any r
abbrev pub PassesLists : Type 0
PassesLists = (m t M col : ℕ) → Limits m t M col → list_rule (params m t M col) (spread (params m t M col)) ≡ accepted

-- column b of X is column b of the list's target: place b × M + a goes to a place between b × M and b × M + M - 1
abbrev pub ColumnsKept : Params → List ℕ → Type 0
ColumnsKept s l = (p : ℕ) → p < order s → get_or l p 0 / s.M ≡ p / s.M

abbrev pub Singular : Params → Interleavers → Type 0
Singular s l = (w : ℕ → ℕ → ℕ) → BitMatrix w → Inverts (order s) (system_entry s l) w → ⊥

-- "an inverse may still not exist": while rows and columns use one code, no permutations that keep each column of X and of Q to itself have one
abbrev pub KeptSingular : Type 0
KeptSingular = (m t M : ℕ) (l : Interleavers) → Limits m t M 0 → list_rule (params m t M 0) l ≡ accepted
    → ColumnsKept (params m t M 0) l.self → ColumnsKept (params m t M 0) l.parity → Singular (params m t M 0) l

-- and so no spread lists
abbrev pub SpreadSingular : Type 0
SpreadSingular = (m t M : ℕ) → Limits m t M 0 → Singular (params m t M 0) (spread (params m t M 0))

-- ---- and of what the call leaves, where it is accepted

pub record SpreadLeft (m t M col : ℕ) (self parity : List ℕ) : Type 0 where
  pub lists : interleavers (params m t M col) (spread_call m t M col self parity).self (spread_call m t M col self parity).parity ≡ spread (params m t M col)
  pub apart : Apart (params m t M col) (interleavers (params m t M col) (spread_call m t M col self parity).self (spread_call m t M col self parity).parity)
  pub pass : list_rule (params m t M col) (interleavers (params m t M col) (spread_call m t M col self parity).self (spread_call m t M col self parity).parity) ≡ accepted
  -- "and U1 tells": the maker, lent what it asks for, refuses them by rule 14 where columns have the same code
  pub singular : col ≡ 0 → (old : List ℕ) → length old ≡ order (params m t M col) * row_bytes (order (params m t M col))
      → (p : ℕ) × ((make_call m t M col (spread_call m t M col self parity).self (spread_call m t M col self parity).parity old (make_work (params m t M col))).verdict ≡ refused 14 p)
