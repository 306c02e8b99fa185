-- Document 02, U1: what the maker of a kit's inverse answers and leaves.
--   make_work        the maker's working length
--   singular_rule    rule 14
--   make_verdict     rules 1 to 3, 6, 7 and 14
--   make_call        its verdict and the inverse's buffer
--   make_front       rules 1 to 3, 6 and 7 of it
--   SumOfEarlier, HasInverse   a column that is a sum of earlier ones, and a matrix that has an inverse, said without a search
--   MakerRefuses    when and where it refuses by rule 14; `maker-refuses` in proofs/MakerRefuses.antt shows it
-- Assumes nothing.
use Rattle.std.specs.Prelude.{◌≡◌, ◌↔◌, List, ℕ, ◌+◌, ◌*◌, ◌<◌}
use Rattle.staircase.specs.Design.{Params, Interleavers, params, order}
use Rattle.staircase.specs.System.{Contents, system_entry, row_bytes, apply}
use Rattle.staircase.specs.Square.{BitMatrix, Inverts, dependent, inverse_matrix, packed_matrix}
use Rattle.staircase.specs.Rules.{Verdict, ◌then◌, refuse_first, design_rules, length_rule, kit_lengths, interleavers, list_rule}
use Rattle.staircase.specs.Rules.Verdict.{accepted, refused}

-- docs/WORKING.md: two matrices packed like the inverse, and two tables of 256 rows
unfoldable pub make_work : Params → ℕ
make_work s = (2 * order s + 512) * row_bytes (order s)

-- "14 singular, after 7; the place is the first column of A that is a sum of earlier columns (column 0 if it is zero)"
unfoldable pub singular_rule : Params → Interleavers → Verdict
singular_rule s l = refuse_first 14 0 (order s) (dependent (order s) (system_entry s l))

-- the lists are read, the inverse's buffer is written: places 1, 2, 3 and 6 of rule 6
unfoldable pub make_verdict : ℕ → ℕ → ℕ → ℕ → List ℕ → List ℕ → List ℕ → ℕ → Verdict
make_verdict m t M col self parity old work =
    let s : Params = params m t M col in
    let l : Interleavers = interleavers s self parity in
    design_rules m t M col then kit_lengths s self parity old then length_rule 6 work (make_work s) then list_rule s l then singular_rule s l

pub record Made : Type 0 where
  pub verdict : Verdict
  pub inverse : List ℕ

-- "lent buffers stay untouched"
abbrev pub made_by : Verdict → List ℕ → List ℕ → Made
made_by accepted old new = record { verdict = accepted; inverse = new }
made_by (refused n p) old new = record { verdict = refused n p; inverse = old }

unfoldable pub make_call : ℕ → ℕ → ℕ → ℕ → List ℕ → List ℕ → List ℕ → ℕ → Made
make_call m t M col self parity old work =
    let s : Params = params m t M col in
    made_by (make_verdict m t M col self parity old work) old (packed_matrix (order s) (inverse_matrix (order s) (system_entry s (interleavers s self parity))))

-- ---- "The maker refuses for want of an inverse precisely when A has none"

-- "14 singular, after 7": the rules before it
unfoldable pub make_front : ℕ → ℕ → ℕ → ℕ → List ℕ → List ℕ → List ℕ → ℕ → Verdict
make_front m t M col self parity old work =
    let s : Params = params m t M col in
    design_rules m t M col then kit_lengths s self parity old then length_rule 6 work (make_work s) then list_rule s (interleavers s self parity)

-- column j of n rows is what some bits v take of the columns before it; of no column it is zero
abbrev pub SumOfEarlier : ℕ → (ℕ → ℕ → ℕ) → ℕ → Type 0
SumOfEarlier n a j = (v : Contents) × ((k : ℕ) → v k < 2) × ((i : ℕ) → i < n → apply j a v i ≡ a i j)

-- some matrix of bits inverts a, in either order
abbrev pub HasInverse : ℕ → (ℕ → ℕ → ℕ) → Type 0
HasInverse n a = (w : ℕ → ℕ → ℕ) × BitMatrix w × Inverts n a w × Inverts n w a

pub record MakerRefuses (m t M col : ℕ) (self parity old : List ℕ) (work : ℕ) : Type 0 where
  -- "precisely when A has none", of a call that no earlier rule refuses
  pub precisely : make_front m t M col self parity old work ≡ accepted
      → ((p : ℕ) × ((make_call m t M col self parity old work).verdict ≡ refused 14 p))
      ↔ (HasInverse (order (params m t M col)) (system_entry (params m t M col) (interleavers (params m t M col) self parity)) → ⊥)
  -- and then every earlier rule accepts
  pub front : (p : ℕ) → (make_call m t M col self parity old work).verdict ≡ refused 14 p → make_front m t M col self parity old work ≡ accepted
  -- "the place is the first column of A that is a sum of earlier columns (column 0 if it is zero)"
  pub column : (p : ℕ) → (make_call m t M col self parity old work).verdict ≡ refused 14 p
      → (p < order (params m t M col))
      × SumOfEarlier (order (params m t M col)) (system_entry (params m t M col) (interleavers (params m t M col) self parity)) p
      × ((j : ℕ) → j < p → SumOfEarlier (order (params m t M col)) (system_entry (params m t M col) (interleavers (params m t M col) self parity)) j → ⊥)
