-- The rows of totals over many decodes, by computation, and by the rows under kit K where a frame is decoded.
--   rows_tally   the rows
-- Assumes nothing.
use mathlib.Core.Path.{◌≡◌, refl, sym, ap, ap₂, ◌∙◌}
use mathlib.Core.Logic.{◌≢◌}
use mathlib.Core.List.{[], ◌∷◌}
use Prim.Native.Nat.{ℕ, ◌+◌}
use native.Mathlib.Omega.{arith}
use lib.ListN.{length}
use Rattle.staircase.specs.Rules.{Verdict, ◌then◌}
use Rattle.staircase.specs.Rules.Verdict.{accepted, refused}
use Rattle.staircase.specs.Calls.{Corrected, decode_call}
use Rattle.staircase.specs.Tally.{Tally, empty, plus, Decode, call_of, counted, contribution, full_rule, verdict_for, tally_verdict, tally_call, account}
use Rattle.staircase.specs.Report.{greatest_up_to, share_of}
use Rattle.staircase.specs.RowsTally.{decode_k, RowsTally}
use Rattle.staircase.proofs.Decoded.{corrected_by-verdict}
use Rattle.staircase.proofs.Tally.{tally-accepted, tally-refused}
use Rattle.staircase.proofs.Vectors.{rows_k}

asked : (x : Decode) → (call_of x).verdict ≡ verdict_for x
unfolding decode_call
asked x = corrected_by-verdict (verdict_for x) _ _ _

-- the tally after a decode that is known
added : (y : Tally) (x : Decode) (c : Corrected) → call_of x ≡ c → c.verdict ≡ accepted → full_rule y ≡ accepted
    → (tally_call y x).tally ≡ plus y (counted (length x.info + length x.red) c.counts)
unfolding contribution tally_verdict
added y x c e v f =
    let a : verdict_for x ≡ accepted = sym (asked x) ∙ ap (λ (z : Corrected). z.verdict) e ∙ v in
    tally-accepted y x (ap₂ (λ (u w : Verdict). u then w) a f)
    ∙ ap (λ (z : Corrected). plus y (counted (length x.info + length x.red) z.counts)) e

kept : (y : Tally) (x : Decode) (n p : ℕ) → (call_of x).verdict ≡ refused n p → (tally_call y x).tally ≡ y
unfolding tally_verdict
kept y x n p e = tally-refused y x (λ h. no (ap (λ (v : Verdict). v then full_rule y) (sym e ∙ asked x) ∙ h))
  where
    no : refused n p ≢ accepted
    no h = let z : ◌≡◌ {A = ℕ} 0 1 = cc in omega arith

abbrev first : Tally
first = record { frames = 1; bits = 10; turned = 1; rounds = 2; outside = 0; stuck = 0 }

twice : account empty (decode_k 0 ∷ decode_k 65 ∷ decode_k 0 ∷ []) ≡ record { frames = 2; bits = 20; turned = 2; rounds = 4; outside = 0; stuck = 0 }
unfolding account full_rule
twice =
    let a : (tally_call empty (decode_k 0)).tally ≡ first = added empty (decode_k 0) _ rows_k.corrected refl refl in
    let b : (tally_call first (decode_k 65)).tally ≡ first = kept first (decode_k 65) 5 65 (ap (λ (c : Corrected). c.verdict) rows_k.many_rounds) in
    ap (λ (y : Tally). (tally_call (tally_call y (decode_k 65)).tally (decode_k 0)).tally) a
    ∙ ap (λ (y : Tally). (tally_call y (decode_k 0)).tally) b ∙ added first (decode_k 0) _ rows_k.corrected refl refl

pub rows_tally : RowsTally
unfolding full_rule share_of greatest_up_to
rows_tally =
    record { most = refl; frames = refl; stuck = refl; none = refl; no_bits = refl; no_turned = refl; all = refl; some = refl; twice = twice }
