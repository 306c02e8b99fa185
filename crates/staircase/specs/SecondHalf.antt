-- Document 02: "Passing kits are the same ones, and the second half of rule 9, with the added (M × r)², is then known never to occur and leaves the table."
-- Document 01's rule 9 has both halves: "first wrong entry of A W; if none, of W A, plus (M × r)²". No answer changes that a kit had by it. The theorem is
-- `second_half_never` in proofs/SecondHalf.antt.
--   both_halves              document 01's rule 9
--   kit_verdict_both          the kit checker's verdict with it
--   encode_verdict_both       the encoder's, as it was: rule 9 before rule 10
--   SecondHalfNever         the claim, for all arguments
-- Assumes nothing.
use Rattle.std.specs.Prelude.{◌≡◌, List, ℕ, ◌*◌}
use Rattle.staircase.specs.Design.{Params, Interleavers, params, order}
use Rattle.staircase.specs.System.{system_entry, inverse_entry}
use Rattle.staircase.specs.Rules.{Verdict, ◌then◌, refuse_first, design_rules, length_rule, kit_lengths, kit_work, interleavers, list_rule, spare_rule, wrong_entry, inverse_rule, bit_rule}
use Rattle.staircase.specs.Calls.{kit_verdict}
use Rattle.staircase.specs.OrderMoved.{front_rules, former_verdict}

-- "9 inverse: row × M × r + column; first wrong entry of A W; if none, of W A, plus (M × r)²"
unfoldable pub both_halves : Params → Interleavers → List ℕ → Verdict
both_halves s l w =
    let n : ℕ = order s in
    inverse_rule s l w then refuse_first 9 (n * n) (n * n) (wrong_entry n (inverse_entry w n) (system_entry s l))

unfoldable pub kit_verdict_both : ℕ → ℕ → ℕ → ℕ → List ℕ → List ℕ → List ℕ → ℕ → Verdict
kit_verdict_both m t M col self parity w work =
    let s : Params = params m t M col in
    let l : Interleavers = interleavers s self parity in
    design_rules m t M col then kit_lengths s self parity w then length_rule 6 work (kit_work s) then list_rule s l then spare_rule s w then both_halves s l w

unfoldable pub encode_verdict_both : ℕ → ℕ → ℕ → ℕ → ℕ → List ℕ → List ℕ → List ℕ → List ℕ → List ℕ → ℕ → Verdict
encode_verdict_both m t M col L self parity w info red work =
    front_rules m t M col L self parity w info red work then both_halves (params m t M col) (interleavers (params m t M col) self parity) w then bit_rule 0 info

pub record SecondHalfNever : Type 0 where
  pub checker : (m t M col : ℕ) (self parity w : List ℕ) (work : ℕ) → kit_verdict_both m t M col self parity w work ≡ kit_verdict m t M col self parity w work
  pub encoder : (m t M col L : ℕ) (self parity w info red : List ℕ) (work : ℕ)
      → encode_verdict_both m t M col L self parity w info red work ≡ former_verdict m t M col L self parity w info red work
