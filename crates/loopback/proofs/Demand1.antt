-- Demand 1 of the loopback.
--   loopback_demand1   it is worked, or refused by one of rules 1 to 10 with both buffers as they were
-- Assumes nothing.
use mathlib.Core.Path.{◌≡◌, refl, sym, subst}
use mathlib.Core.List.{List, [], ◌∷◌}
use Prim.Native.Nat.{ℕ}
use native.Mathlib.Omega.{arith}
use Rattle.staircase.specs.Design.{Params, Interleavers, params}
use Rattle.staircase.specs.Rules.{Verdict, ◌then◌, design_rules, count_rule, rounds_rule, length_rule, kit_lengths, frame_lengths, interleavers, content_rules}
use Rattle.staircase.specs.Rules.Verdict.{accepted}
use Rattle.staircase.specs.Demand1.{ByTable, Demand1}
use Rattle.staircase.proofs.Rules.{then_first, design_limits}
use Rattle.staircase.proofs.Decoded.{corrected_by-verdict}
use Rattle.staircase.proofs.Demand1.{by_table_then, design-by_table, count-by_table, rounds-by_table, length-by_table, kit-fits-by_table, frame-fits-by_table, content_by_table, corrected_by-untouched}
use Rattle.loopback.specs.Link.{number_rules, loopback_work, loopback_verdict, loopback_call}

abbrev numbers : List ℕ
numbers = 1 ∷ 2 ∷ 3 ∷ 4 ∷ 5 ∷ 6 ∷ 7 ∷ 8 ∷ 9 ∷ 10 ∷ []

numbers-by_table : (m t M col L k : ℕ) → ByTable numbers (number_rules m t M col L k)
unfolding number_rules
numbers-by_table m t M col L k =
    by_table_then numbers (design_rules m t M col) (count_rule L then rounds_rule k) (design-by_table numbers refl refl refl m t M col)
    (λ d. by_table_then numbers (count_rule L) (rounds_rule k) (count-by_table numbers refl L) (λ c. rounds-by_table numbers refl k))

design-first : (m t M col L k : ℕ) → number_rules m t M col L k ≡ accepted → design_rules m t M col ≡ accepted
unfolding number_rules
design-first m t M col L k e = then_first (design_rules m t M col) (count_rule L then rounds_rule k) e

loopback_by_table : (m t M col L k : ℕ) (self parity w info red : List ℕ) (work : ℕ) → ByTable numbers (loopback_verdict m t M col L k self parity w info red work)
unfolding loopback_verdict
loopback_by_table m t M col L k self parity w info red work =
    let s : Params = params m t M col in
    let l : Interleavers = interleavers s self parity in
    let v9 : Verdict = content_rules s l w info in
    let v6 : Verdict = length_rule 6 work (loopback_work s L) in
    let frame : Verdict = frame_lengths s L info red in
    let kit : Verdict = kit_lengths s self parity w in
    by_table_then numbers (number_rules m t M col L k) (kit then frame then v6 then v9) (numbers-by_table m t M col L k)
    (λ d. by_table_then numbers kit (frame then v6 then v9) (kit-fits-by_table numbers refl s self parity w)
    (λ e. by_table_then numbers frame (v6 then v9) (frame-fits-by_table numbers refl s L info red)
    (λ f. by_table_then numbers v6 v9 (length-by_table numbers refl 6 work (loopback_work s L) (omega arith) (omega arith))
    (λ g. content_by_table numbers refl refl refl refl s (design_limits m t M col (design-first m t M col L k d)).order-high l w info))))

pub loopback_demand1 : (m t M col L k : ℕ) (self parity w info_errors red_errors info red : List ℕ) (work : ℕ)
    → Demand1 (1 ∷ 2 ∷ 3 ∷ 4 ∷ 5 ∷ 6 ∷ 7 ∷ 8 ∷ 9 ∷ 10 ∷ []) (loopback_call m t M col L k self parity w info_errors red_errors info red work).verdict (info ∷ red ∷ [])
    ((loopback_call m t M col L k self parity w info_errors red_errors info red work).frame.info
    ∷ (loopback_call m t M col L k self parity w info_errors red_errors info red work).frame.red ∷ [])
unfolding loopback_call
loopback_demand1 m t M col L k self parity w info_errors red_errors info red work =
    let v : Verdict = loopback_verdict m t M col L k self parity w info red work in
    record {
      by_table = subst (ByTable numbers) (sym (corrected_by-verdict v _ _ _)) (loopback_by_table m t M col L k self parity w info red work);
      untouched = corrected_by-untouched v _ _ _;
    }
