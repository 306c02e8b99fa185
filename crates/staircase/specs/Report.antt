-- Document 02, U7: "Add a report: each total, and the share of turned bits as two whole numbers with no common factor (0 and 1 for no sent bits)."
--   divides, greatest_up_to, greatest_common   the greatest common divisor, by its definition
--   Share, share_of                          the two numbers
--   Lowest                                  what makes them the share in lowest terms (theorem `lowest` in proofs/Report.antt)
--   Report, report_call                      the report of a tally
-- Assumes nothing.
use Rattle.std.specs.Prelude.{◌≡◌, Bool, cond, ◌&&◌, ℕ, zero, suc, ◌*◌, ◌/◌, ◌%◌, ◌<◌, eqb}
use Rattle.staircase.specs.Tally.{Tally}

abbrev pub divides : ℕ → ℕ → Bool
divides d a = eqb (a % d) 0

-- the greatest of 1, .., n that divides a and b; 0 for none
unfoldable pub greatest_up_to : ℕ → ℕ → ℕ → ℕ
greatest_up_to a b zero = 0
greatest_up_to a b (suc n) = cond (divides (suc n) a && divides (suc n) b) (suc n) (greatest_up_to a b n)

-- of a and a positive b
abbrev pub greatest_common : ℕ → ℕ → ℕ
greatest_common a b = greatest_up_to a b b

pub record Share : Type 0 where
  pub top : ℕ
  pub bottom : ℕ

-- "two whole numbers with no common factor (0 and 1 for no sent bits)": a of b
unfoldable pub share_of : ℕ → ℕ → Share
share_of a b =
    cond (eqb b 0) (record { top = 0; bottom = 1 }) (record { top = a / greatest_common a b; bottom = b / greatest_common a b })

-- the share a / b, as two numbers with no common factor
pub record Lowest (a b : ℕ) (s : Share) : Type 0 where
  pub same : s.top * b ≡ a * s.bottom
  pub positive : 0 < s.bottom
  pub apart : (d x y : ℕ) → s.top ≡ d * x → s.bottom ≡ d * y → d ≡ 1

pub record Report : Type 0 where
  pub totals : Tally
  pub share : Share

-- "each total, and the share of turned bits"
unfoldable pub report_call : Tally → Report
report_call y = record { totals = y; share = share_of y.turned y.bits }
