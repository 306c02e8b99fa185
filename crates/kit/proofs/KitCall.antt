-- The verdicts that the kit checker's steps return are those of the table.
--   kit-sized    the slices' lengths, once rule 6 accepts
--   kit_call     the design's rules, and then the others, are the call's
--   kit-judged   the call's verdict after a design that was made
-- Assumes nothing.
use Rattle.std.specs.Prelude.{Ok, Result}
use mathlib.Core.Path.{◌≡◌, refl, ap, ◌∙◌}
use mathlib.Core.List.{List, []}
use Prim.Native.Nat.{ℕ}
use lib.ListN.{length}
use Rattle.staircase.specs.Design.{Params, params}
use Rattle.staircase.specs.Rules.{Verdict, ◌then◌, design_rules, length_rule, kit_lengths, kit_work, interleavers, content_rules}
use Rattle.staircase.specs.Rules.Verdict.{accepted}
use Rattle.staircase.specs.Calls.{kit_verdict}
use Rattle.answers.specs.declared.Refusal.{Refusal}
use Rattle.design.specs.declared.Design.{Design}
use Rattle.design.specs.Sizes.{params_of}
use Rattle.design.specs.Answers.{DesignIs, Allowed}
use Rattle.design.proofs.Answers.{made-design}
use Rattle.rules.specs.Lengths.{lengths_of, lengths_rule, kit_due}
use Rattle.rules.proofs.Chain.{kit_lengths_rule, kit-rules}
use Rattle.rules.proofs.Accepted.{lengths_equal}
use Rattle.kit_inverse.specs.Fits.{KitSized}
use Rattle.answers.specs.Answers.{verdict_of}

pub kit-sized : (d : Design) (own parity w work : List ℕ) → Allowed d → lengths_rule (lengths_of own parity w [] [] (length work)) (kit_due (params_of d)) ≡ accepted
    → KitSized d own parity w work
unfolding kit_due kit_work
kit-sized d own parity w work allowed e =
    let n = lengths_equal (lengths_of own parity w [] [] (length work)) (kit_due (params_of d)) e in
    record { allowed = allowed; own_length = n.0; parity_length = n.1; inverse_length = n.2; work_length = n.5 }

-- what follows the design's rules
module _ (own parity w : List ℕ) (work : ℕ) where
  abbrev pub kit_rest : Params → Verdict
  kit_rest s = lengths_rule (lengths_of own parity w [] [] work) (kit_due s) then content_rules s (interleavers s own parity) w []

  module _ (m t M col : ℕ) where
    pub kit_call : (design_rules m t M col then kit_rest (params m t M col)) ≡ kit_verdict m t M col own parity w work
    unfolding kit_verdict
    kit_call =
        let s : Params = params m t M col in
        ap (λ (z : Verdict). design_rules m t M col then z)
        (kit_lengths_rule s own parity work (content_rules s (interleavers s own parity) w []) w
        ∙ ap (λ (z : Verdict). kit_lengths s own parity w then length_rule 6 work (kit_work s) then z) (kit-rules s (interleavers s own parity) w))

    pub kit-judged : (d : Design) → verdict_of (Ok d) ≡ design_rules m t M col → DesignIs (Ok d) m t M col
        → (x : Result Unit Refusal) → verdict_of x ≡ kit_rest (params_of d) → verdict_of x ≡ kit_verdict m t M col own parity w work
    kit-judged d n i x e = made-design m t M col kit_rest (Ok d) n x i refl e ∙ kit_call
