-- What the steps answer and leave is what the calls do.
--   rest           rules 15 and 6
--   rules_are, lists-judged         the rules on the design of the lists: all of them, and the last ones where it was made
--   list_refuses, list_passes, lists-sized   what the calls know of it: a refusal, or the verdict, the sizes and the lists' lengths
--   spread-refused, spread-filled   the call for spread lists at a refusal, and after all
--   mixed-refused, mixed-filled     the call for mixed lists
-- Assumes nothing.
use Rattle.std.specs.Prelude.{Err, Ok, Result, IsErr, IsErrAnd}
use mathlib.Core.Path.{◌≡◌, refl, sym, ap, ap₂, ◌∙◌, subst⁻¹}
use mathlib.Core.Logic.{◌≢◌}
use mathlib.Core.List.{List}
use Prim.Native.Nat.{ℕ, ◌*◌}
use lib.ListN.{length}
use Rattle.staircase.specs.Design.{Params, params, order}
use Rattle.staircase.specs.Rules.{Verdict, ◌then◌, design_rules, list_lengths}
use Rattle.staircase.specs.Rules.Verdict.{accepted, refused}
use Rattle.staircase.specs.Spread.{turned_to, list_bytes, narrow_rule, spread_verdict, spread_by, spread_call}
use Rattle.staircase.specs.Mixed.{mixed_to, after_list, mixed_by, mixed_call}
use Rattle.staircase.proofs.Rules.{then_rest, list-lengths}
use Rattle.answers.specs.declared.Refusal.{Refusal}
use Rattle.design.specs.declared.Design.{Design}
use Rattle.design.specs.Sizes.{params_of}
use Rattle.design.specs.Answers.{DesignIs}
use Rattle.design.proofs.Answers.{made-params, made-design}
use Rattle.answers.specs.Answers.{verdict_of}
use Rattle.answers.proofs.Checks.{handed_on, check_refused, check_passed}

abbrev pub rest : List ℕ → List ℕ → Params → Verdict
rest own parity s = narrow_rule s then list_lengths s own parity

module _ (own parity : List ℕ) where
  -- a refusal leaves both lists
  spread-kept : (v : Verdict) (s : Params) → v ≢ accepted → record { verdict = v; self = own; parity = parity } ≡ spread_by v s own parity
  spread-kept accepted s h = absurd (h refl)
  spread-kept (refused n p) s h = refl

  mixed-kept : (v : Verdict) (s : Params) (seed : ℕ) → v ≢ accepted → record { verdict = v; self = own; parity = parity; state = 0 } ≡ mixed_by v s seed own parity
  mixed-kept accepted s seed h = absurd (h refl)
  mixed-kept (refused n p) s seed h = refl

  module _ (m t M col : ℕ) where
    -- a verdict of the calls that refuses
    abbrev pub Refuses : Verdict → Type 0
    Refuses v = (v ≢ accepted) × (v ≡ spread_verdict m t M col own parity)

    pub rules_are : (design_rules m t M col then rest own parity (params m t M col)) ≡ spread_verdict m t M col own parity
    unfolding spread_verdict
    rules_are = refl

    -- ---- the design of the lists

    -- the design d was made, and x is what rules 15 and 6 on it answer
    pub lists-judged : (d : Design) → verdict_of (Ok d) ≡ design_rules m t M col → DesignIs (Ok d) m t M col → {B : Type 0} (x : Result B Refusal)
        → verdict_of x ≡ rest own parity (params_of d) → verdict_of x ≡ spread_verdict m t M col own parity
    lists-judged d n i x e = made-design m t M col (rest own parity) (Ok d) n x i refl e ∙ rules_are

    -- the refusal r of the design is what a call answers
    pub list_refuses : {B : Type 0} (x : Result B Refusal) (r : Refusal) → verdict_of {A = Design} (Err r) ≡ spread_verdict m t M col own parity
        → IsErr x × IsErrAnd x (λ (e : Refusal). e ≡ r) → Refuses (verdict_of x)
    unfolding verdict_of
    list_refuses x r n h = let e = handed_on x h.1 in (check_refused e, ap verdict_of e ∙ n)

    module _ (d : Design) (n : verdict_of (Ok d) ≡ spread_verdict m t M col own parity) (i : DesignIs (Ok d) m t M col) where
      pub list_passes : (spread_verdict m t M col own parity ≡ accepted) × (params_of d ≡ params m t M col)
      list_passes = (sym n ∙ check_passed {x = Ok d} refl, made-params {a = Ok d} refl m t M col i)

      pub lists-sized : (length own ≡ 2 * order (params_of d)) × (length parity ≡ 2 * order (params_of d))
      lists-sized =
          let s : Params = params m t M col in
          let e = then_rest (narrow_rule s) (list_lengths s own parity) (then_rest (design_rules m t M col) (rest own parity s) (rules_are ∙ list_passes.0)) in
          subst⁻¹ (λ (z : Params). (length own ≡ 2 * order z) × (length parity ≡ 2 * order z)) list_passes.1 (list-lengths s own parity e)

    -- ---- spread lists

    pub spread-refused : {v : Verdict} → Refuses v → record { verdict = v; self = own; parity = parity } ≡ spread_call m t M col own parity
    unfolding spread_call
    spread-refused {v} h = spread-kept v (params m t M col) h.0 ∙ ap (λ (z : Verdict). spread_by z (params m t M col) own parity) h.1

    pub spread-filled : {s : Params} (y z : List ℕ) → (spread_verdict m t M col own parity ≡ accepted) × (s ≡ params m t M col)
        → y ≡ list_bytes (order s) (turned_to s 0) → z ≡ list_bytes (order s) (turned_to s s.r)
        → record { verdict = accepted; self = y; parity = z } ≡ spread_call m t M col own parity
    unfolding spread_call
    spread-filled y z h self turned =
        ap₂ (λ (u v : List ℕ). record { verdict = accepted; self = u; parity = v }) self turned
        ∙ ap (λ (s : Params). spread_by accepted s own parity) h.1 ∙ ap (λ (v : Verdict). spread_by v (params m t M col) own parity) (sym h.0)

    -- ---- mixed lists

    pub mixed-refused : {v : Verdict} (seed : ℕ) → Refuses v → record { verdict = v; self = own; parity = parity; state = 0 } ≡ mixed_call m t M col seed own parity
    unfolding mixed_call
    mixed-refused {v} seed h =
        mixed-kept v (params m t M col) seed h.0 ∙ ap (λ (z : Verdict). mixed_by z (params m t M col) seed own parity) h.1

    -- Q's draws go on from the state after those of X
    pub mixed-filled : {s : Params} (seed : ℕ) (y z : List ℕ) (between last : ℕ) → (spread_verdict m t M col own parity ≡ accepted) × (s ≡ params m t M col)
        → (y ≡ list_bytes (order s) (mixed_to s 0 seed)) × (between ≡ after_list s seed)
        → (z ≡ list_bytes (order s) (mixed_to s s.r between)) × (last ≡ after_list s between)
        → record { verdict = accepted; self = y; parity = z; state = last } ≡ mixed_call m t M col seed own parity
    unfolding mixed_call
    mixed-filled {s} seed y z between last h x q =
        ap (λ (u : List ℕ). record { verdict = accepted; self = u; parity = z; state = last }) x.0
        ∙ ap₂ (λ (v : List ℕ) (e : ℕ). record { verdict = accepted; self = list_bytes (order s) (mixed_to s 0 seed); parity = v; state = e })
        (q.0 ∙ ap (λ (b : ℕ). list_bytes (order s) (mixed_to s s.r b)) x.1) (q.1 ∙ ap (after_list s) x.1)
        ∙ ap (λ (w : Params). mixed_by accepted w seed own parity) h.1
        ∙ ap (λ (v : Verdict). mixed_by v (params m t M col) seed own parity) (sym h.0)
