-- The call for spread lists: what an accepted one leaves.
--   spread_by-verdict              its verdict
--   bytes-length, bytes-entries   the bytes of a list: how many, and the entries that are read in them
--   spread-design, spread_limits, spread-wide   what its rules say of a design
--   spread-left                   its buffers are the spread lists, with what holds of these
-- Assumes nothing.
use mathlib.Core.Path.{◌≡◌, refl, sym, ap, ap₂, ◌∙◌, subst}
use mathlib.Core.Bool.{Bool, true, false}
use mathlib.Core.Logic.{◌≢◌}
use mathlib.Core.List.{List, [], ◌∷◌}
use Prim.Native.Nat.{ℕ, ◌+◌, ◌*◌, ◌/◌, ◌%◌, ◌≤◌, ◌<◌}
use native.Mathlib.Omega.{arith}
use lib.Dec.{ltb}
use lib.ListN.{length, get_or}
use borrow.Author.Tests.{ltb-false}
use Rattle.staircase.specs.Lists.{tabulate, first_where}
use Rattle.staircase.specs.Design.{Params, Limits, params, order}
use Rattle.staircase.specs.System.{system_entry, row_bytes}
use Rattle.staircase.specs.Square.{dependent}
use Rattle.staircase.specs.Rules.{Verdict, ◌then◌, refuse, refuse_first, design_rules, list_lengths, entries, interleavers, list_rule}
use Rattle.staircase.specs.Rules.Verdict.{accepted, refused}
use Rattle.staircase.specs.Maker.{make_work, singular_rule, make_call}
use Rattle.staircase.specs.Spread.{turned_to, spread, list_bytes, narrow_rule, spread_verdict, spread_by, spread_call, Apart, Singular, SpreadLeft}
use Rattle.staircase.proofs.Tabulate.{tabulate-same, concat-length, concat-at}
use Rattle.staircase.proofs.System.{system_entry-lt}
use Rattle.staircase.proofs.BchCode.{proper_of}
use Rattle.staircase.proofs.Rules.{then_first, then_rest, refuse-false, design_limits}
use Rattle.staircase.proofs.Maker.{singular-none, made-verdict}
use Rattle.staircase.proofs.Spread.{turned_lt, spread-lists, spread-apart}
use Rattle.staircase.proofs.Singular.{spread-singular}

pub spread_by-verdict : (v : Verdict) (s : Params) (self parity : List ℕ) → (spread_by v s self parity).verdict ≡ v
spread_by-verdict accepted s self parity = refl
spread_by-verdict (refused n p) s self parity = refl

-- ---- the bytes of a list

pub bytes-length : (n : ℕ) (f : ℕ → ℕ) → length (list_bytes n f) ≡ 2 * n
unfolding list_bytes
bytes-length n f = concat-length n 2 (λ p. f p % 256 ∷ f p / 256 % 256 ∷ []) (λ k. refl) ∙ omega arith

pub bytes-entries : (n : ℕ) (f : ℕ → ℕ) → ((p : ℕ) → p < n → f p < 65536) → entries n (list_bytes n f) ≡ tabulate n f
unfolding entries list_bytes
bytes-entries n f small = tabulate-same n (λ p. get_or (list_bytes n f) (2 * p) 0 + 256 * get_or (list_bytes n f) (2 * p + 1) 0) f entry
  where
    two : ℕ → List ℕ
    two p = f p % 256 ∷ f p / 256 % 256 ∷ []

    at : (p q : ℕ) → p < n → q < 2 → get_or (list_bytes n f) (2 * p + q) 0 ≡ get_or (two p) q 0
    at p q h k = ap (λ (z : ℕ). get_or (list_bytes n f) (z + q) 0) (let e : 2 * p ≡ p * 2 = omega arith in e) ∙ concat-at n 2 two (λ j. refl) p q h k

    entry : (p : ℕ) → p < n → get_or (list_bytes n f) (2 * p) 0 + 256 * get_or (list_bytes n f) (2 * p + 1) 0 ≡ f p
    entry p h =
        ap₂ (λ (x y : ℕ). x + 256 * y) (ap (λ (z : ℕ). get_or (list_bytes n f) z 0) (let e : 2 * p ≡ 2 * p + 0 = omega arith in e) ∙ at p 0 h (omega arith)) (at p 1 h (omega arith))
        ∙ omega (arith, small p h)

-- ---- an accepted call

refused-at : (z : Bool) (n p : ℕ) → refuse z n p ≢ accepted → refuse z n p ≡ refused n p
refused-at true n p h = refl
refused-at false n p h = absurd (h refl)

-- what the rules of the call, which are those of mixed lists too, say of a design
module _ (m t M col : ℕ) (self parity : List ℕ) (e : spread_verdict m t M col self parity ≡ accepted) where
  abbrev rest : Verdict
  rest = narrow_rule (params m t M col) then list_lengths (params m t M col) self parity

  pub spread-design : design_rules m t M col ≡ accepted
  unfolding spread_verdict
  spread-design = then_first (design_rules m t M col) rest e

  pub spread_limits : Limits m t M col
  spread_limits = design_limits m t M col spread-design

  pub spread-wide : 2 * (m * t) ≤ M
  unfolding spread_verdict narrow_rule
  spread-wide =
      ltb-false M (2 * (m * t))
      (refuse-false (ltb M (2 * (m * t))) 15 M
      (then_first (narrow_rule (params m t M col)) (list_lengths (params m t M col) self parity) (then_rest (design_rules m t M col) rest e)))

module _ (m t M col : ℕ) (self parity : List ℕ) (e : (spread_call m t M col self parity).verdict ≡ accepted) where
  abbrev s : Params
  s = params m t M col

  abbrev own : List ℕ
  own = list_bytes (order s) (turned_to s 0)

  abbrev par : List ℕ
  par = list_bytes (order s) (turned_to s s.r)

  passed : spread_verdict m t M col self parity ≡ accepted
  unfolding spread_call
  passed = sym (spread_by-verdict (spread_verdict m t M col self parity) s self parity) ∙ e

  limits : Limits m t M col
  limits = spread_limits m t M col self parity passed

  left-self : (spread_call m t M col self parity).self ≡ own
  unfolding spread_call
  left-self = ap (λ (z : Verdict). (spread_by z s self parity).self) passed

  left-parity : (spread_call m t M col self parity).parity ≡ par
  unfolding spread_call
  left-parity = ap (λ (z : Verdict). (spread_by z s self parity).parity) passed

  turned-small : (by p : ℕ) → p < order s → turned_to s by p < 65536
  turned-small by p h = omega (arith, turned_lt s (proper_of limits) by p h, limits.order-high)

  left-lists : interleavers s (spread_call m t M col self parity).self (spread_call m t M col self parity).parity ≡ spread s
  unfolding spread
  left-lists =
      ap₂ (λ (x y : List ℕ). interleavers s x y) left-self left-parity
      ∙ ap₂ (λ (x y : List ℕ). record { self = x; parity = y })
      (bytes-entries (order s) (turned_to s 0) (turned-small 0)) (bytes-entries (order s) (turned_to s s.r) (turned-small s.r))

  one_code : col ≡ 0 → Singular s (spread s)
  one_code same = subst (λ (c : ℕ). Limits m t M c → Singular (params m t M c) (spread (params m t M c))) (sym same) (spread-singular m t M) limits

  -- rule 14 refuses at some place
  rule14 : col ≡ 0 → (p : ℕ) × (singular_rule s (spread s) ≡ refused 14 p)
  unfolding singular_rule refuse_first
  rule14 same =
      let n : ℕ = order s in
      let x : ℕ = first_where n (dependent n (system_entry s (spread s))) in (
        0 + x,
        refused-at (ltb x n) 14 (0 + x)
            (λ h. let k = (singular-none s (spread s) (system_entry-lt s (spread s) (proper_of limits))).0 h in one_code same k.0 k.1 k.2),
      )

  passes : list_rule s (interleavers s (spread_call m t M col self parity).self (spread_call m t M col self parity).parity) ≡ accepted
  passes = ap (list_rule s) left-lists ∙ spread-lists m t M col limits

  maker-refuses : col ≡ 0 → (old : List ℕ) → length old ≡ order s * row_bytes (order s)
      → (p : ℕ) × ((make_call m t M col (spread_call m t M col self parity).self (spread_call m t M col self parity).parity old (make_work s)).verdict ≡ refused 14 p)
  maker-refuses same old long = (
    (rule14 same).0,
    made-verdict m t M col (spread_call m t M col self parity).self (spread_call m t M col self parity).parity old (make_work s)
        (spread-design m t M col self parity passed)
        record {
          self_length = ap length left-self ∙ bytes-length (order s) (turned_to s 0);
          parity_length = ap length left-parity ∙ bytes-length (order s) (turned_to s s.r);
          inverse_length = long;
        }
        refl passes
        ∙ ap (singular_rule s) left-lists ∙ (rule14 same).1,
  )

  pub spread-left : SpreadLeft m t M col self parity
  spread-left = record {
    lists = left-lists;
    apart = subst (Apart s) (sym left-lists) (spread-apart m t M col limits (spread-wide m t M col self parity passed));
    pass = passes;
    singular = maker-refuses;
  }
